-- What the proofs share: a block's mark and header, running sums in a loop, and the samples of a whole block.
pub mod Signatures
pub mod Headers
pub mod Sweeps
pub mod Samples
