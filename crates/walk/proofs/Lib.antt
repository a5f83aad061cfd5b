-- What the proofs share.
pub mod Ways
-- by hand: what a walk owns
pub mod Owned
