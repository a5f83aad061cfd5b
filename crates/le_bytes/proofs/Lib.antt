-- the bytes of a number, read and put; a run copied
pub mod Laws
pub mod Copying
