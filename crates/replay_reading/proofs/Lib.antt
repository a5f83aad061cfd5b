-- a room of samples, filled, lent and compared; what is said and left, by the way of reading
pub mod Words
pub mod Asking
