-- which questions read and which write, by their numbers
pub mod Numbers
