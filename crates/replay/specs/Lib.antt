-- where the list stands; what is kept in a space
pub mod Places
pub mod Spaces
