-- the sign of a code; the bits at a place, a window on them, and what is read there; the values of a run
pub mod Flat
pub mod Steps
pub mod Run
