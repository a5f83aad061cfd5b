-- channels taken apart, which of their samples are active, and their parity; a group's checks, and its new blocks one after another
pub mod Apart
pub mod Active
pub mod Checking
pub mod Writing
