-- a new block's header, bytes and length
pub mod Laws
