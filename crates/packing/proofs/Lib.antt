-- numbers by their digits, and codes of narrower widths; a code put after others; the codes of a run; what is packed
pub mod Numbers
pub mod Steps
pub mod Run
pub mod Fits
-- the differences, one at a time; the bits of all folded values; differences stored
pub mod Definitions
pub mod Widths
pub mod Sweeps
