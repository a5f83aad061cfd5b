-- the groups of a template; what its checks leave, and the answer that they give; the file written
pub mod Groups
pub mod Stages
pub mod Filling
