-- the kinds of items; the room that is lent to a call; drawn numbers; what an answer says, and when it is as recorded;
-- a room of bytes
pub mod Kinds
pub mod Room
pub mod Drawn
pub mod Said
pub mod Bytes
