-- what decoding answers at each way out
pub mod Ways
