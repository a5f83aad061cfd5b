-- two lists beside each other; the blocks of a file beside those of another
pub mod Same
pub mod Kept
