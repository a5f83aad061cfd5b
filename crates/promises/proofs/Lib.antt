-- The demands, each one theorem with a name: read these first.
pub mod Demands
pub mod Hosts
pub mod OwnTemplates
pub mod Certain
pub mod Contents
pub mod Walks
pub mod FewFrames
pub mod EightChannels
pub mod LostFrames
pub mod Peaks
pub mod Places
pub mod HostWords
pub mod Impostors
-- what law three asks of a template, and why
pub mod MidSums
pub mod Premise
-- The laws that lead to them: what an outcome tells, what a writer's answer does
pub mod Outcomes
pub mod Files
pub mod HostFiles
-- what is written is read back: a block, a group, a file; encoding, then decoding
pub mod BlockLaws
pub mod GroupLaws
pub mod GroupCoding
pub mod Laid
pub mod FileLaws
pub mod RoundTrip
-- re-encoding: a block, a group, a file, and that file as a template
pub mod NewBlocks
pub mod Bytes
pub mod Kept
pub mod NewGroups
pub mod Refile
pub mod Again
-- a file that encoding wrote, as a template
pub mod OwnTemplatesLaws
-- parity; what did not fit; the walk; a few frames
pub mod ParityLaws
pub mod Misfits
pub mod WalkLaws
pub mod ViewLaws
pub mod FewFramesLaws
-- eight channels; lost frames
pub mod EightChannelsLaws
pub mod LostFramesLaws
-- summaries of peaks
pub mod PeaksLaws
