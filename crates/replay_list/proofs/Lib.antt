-- the numbers of kinds; the room, and a turn of each loop over it; drawn numbers; what refusals and bits words say; a room of bytes
pub mod Numbered
pub mod Rooms
pub mod Draws
pub mod Sayings
pub mod Wholes
