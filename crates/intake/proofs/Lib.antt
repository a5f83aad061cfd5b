-- what an input gives where its bytes are known
pub mod Known
