-- what encoding and re-encoding answer and leave, of the entry and of the host boundary
pub mod Written
