-- What the proofs share: the signature as a number.
pub mod Signatures
