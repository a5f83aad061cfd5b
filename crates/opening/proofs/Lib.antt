-- What the proofs share: the first block, what opening's checks tell, and where the groups of a file that opens lie.
pub mod FirstBlock
pub mod Ways
pub mod Groups
