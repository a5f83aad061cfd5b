-- Document 01's unstarred cases, its order of checks, and the traps of the Rust, by computation: a table for each
-- part.
pub mod Openings
pub mod Decodings
pub mod Floats
pub mod Walks
pub mod Encodings
pub mod Reencodings
pub mod Boundaries
