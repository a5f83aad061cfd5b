-- samples taken into a room; what is said and left, by the way of writing
pub mod Taking
pub mod Asking
