-- the values that are packed; a template's block and its checks; the new block's bytes
pub mod Values
pub mod Blocks
pub mod Checks
pub mod Bytes
