pub mod Lent
pub mod Containers
