-- the host's number of an outcome, and of a refusal with its place; what the host is told, and what its bytes hold
pub mod Results
pub mod Refusals
pub mod Host
pub mod Writers
pub mod Encoding
pub mod Reencoding
pub mod Peaks
