pub mod Equal
pub mod Raised
