-- what opening answers; what decoding, a few frames, pairs, and a step of a walk answer and leave
pub mod Opened
pub mod Read
pub mod Stepped
