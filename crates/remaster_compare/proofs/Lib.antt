-- What the proofs share, and what a count says of the lists.
pub mod Places
pub mod Counts
pub mod Headers
pub mod Itself
