-- Laws of the definitions, each once.
-- tests, lists, and checks in order

pub mod Tests
pub mod Parts
pub mod Each
pub mod Checks
pub mod Places
pub mod Chain
-- numbers: digits and packing over the width, codes and signs, widths and what they do not hold, wrapped sums and differences, halves of them
pub mod Digits
pub mod Signs
pub mod Marks
pub mod Wrap
pub mod Widths
pub mod Misfits
pub mod Up
pub mod Halves
pub mod SampleBytes
pub mod SevenBits
-- channels of samples: taken apart, as mid and side, and what the writers' checks tell of them
pub mod Channels
pub mod Stereo
pub mod SampleChecks
-- a file that opens, a group that passes; how much is read and written; what a function that reads cites
pub mod Opened
pub mod Passed
pub mod Lengths
pub mod Written
pub mod Over
pub mod Reading
-- a few frames: which groups they touch, how long they are, and that all of them are the whole decode
pub mod FewFrames
-- a template that passes: its blocks, groups and file, and that the new ones are as long
pub mod Templates
pub mod TemplateFiles
-- where the checks refuse: those that name nothing, the first of those in order, and that a group's number is small
pub mod Located
-- peaks: the extremes of samples, and summaries
pub mod Extremes
pub mod Summaries
