-- what reading a few frames answers at each way out
pub mod Ways
