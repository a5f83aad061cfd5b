-- groups as runs of frames, where they lie; their checks and their channels
pub mod Frames
pub mod Places
pub mod Checking
pub mod Channels
