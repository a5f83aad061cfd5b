-- blocks one after another; what a mode takes, and that it can be written
pub mod Blocks
pub mod Groups
