-- What the proofs share: half of a sample, samples halved one by one, and the report out of its parts.
pub mod Halves
pub mod Stages
