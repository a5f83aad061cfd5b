-- what is counted of the answers
pub mod Counts
