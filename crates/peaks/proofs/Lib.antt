-- The smallest and the largest; how long a summary is; one pass behind another, over a pair, two channels, a group's
-- channels, the groups and the file; what building and checking answer.
pub mod Picking
pub mod Bounds
pub mod Composed
pub mod Pairs
pub mod Two
pub mod Parts
pub mod Channels
pub mod Groups
pub mod Whole
pub mod Ways
