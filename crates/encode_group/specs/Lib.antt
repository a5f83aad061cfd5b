pub mod Choice
pub mod Writable
