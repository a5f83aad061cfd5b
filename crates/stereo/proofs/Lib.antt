-- NaNs, halves, the parity of pairs, and two rows of samples paired in a loop
pub mod Nans
pub mod Halving
pub mod Rows
pub mod Pairs
