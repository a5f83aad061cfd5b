-- The starred cases, the numbers of refusal, the place that 36 tells, where refusals are, a few frames, eight channels,
-- lost frames, peaks, and the laws of depths and counts.
pub mod Made
pub mod Starred
pub mod Numbered
pub mod Misfits
pub mod Placed
pub mod Ranged
pub mod EightChannels
pub mod LostFrames
pub mod Peaked
pub mod UnitLaws
