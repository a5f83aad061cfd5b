-- groups in a row, and what the loop over those that frames touch has put
pub mod Run
pub mod Written
