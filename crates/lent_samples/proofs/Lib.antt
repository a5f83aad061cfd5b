-- what is put into lent samples, as lists; samples in bytes; a turn of each loop; that a promise fixes all bytes that are lent
pub mod Weave
pub mod Laws
pub mod Runs
pub mod Outcome
-- padding by a loop; a range, and a channel of frames
pub mod Padding
pub mod Taken
