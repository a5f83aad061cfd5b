-- what building a summary answers and leaves; what checking one answers
pub mod Built
pub mod Compared
