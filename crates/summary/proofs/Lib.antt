-- two numbers, one after the other; pairs in order, and what is asked for; pairs that are put; that they are there
pub mod Twos
pub mod Pairs
pub mod Put
pub mod Ways
