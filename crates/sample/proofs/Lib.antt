-- Samples and their 32 bits; whether two are equal.
pub mod Words
pub mod Equals
