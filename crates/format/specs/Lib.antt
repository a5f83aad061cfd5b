-- Document 01 as definitions, by its sections.
-- Lists, Numbers: the words that the others are written in.
pub mod Lists
pub mod Numbers
-- "The file", "Packed values"; of NaNs also document 02's L5
pub mod Header
pub mod Packed
pub mod Blocks
pub mod MidSide
-- "The units", "Numbers of refusal"; of 36 also document 02's L2, of all of them its L6
pub mod Units
pub mod Refusals
pub mod Places
pub mod Answers
pub mod Fit
-- "Order of checks", "Encoding", "Re-encoding"
pub mod Opening
pub mod Decoding
pub mod Walking
pub mod Encoding
pub mod Reencoding
-- document 02, L1
pub mod FewFrames
-- L7
pub mod SevenBits
pub mod Peaks
-- "What must change shape": the host boundary
pub mod Boundary
-- "What the promises are held to"
pub mod Promises
