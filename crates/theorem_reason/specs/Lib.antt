-- What holds of a reason. Assumes nothing.

pub mod NamedBytes
pub mod Promises
