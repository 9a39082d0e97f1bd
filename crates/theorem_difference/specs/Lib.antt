-- What holds of the listed differences. Assumes nothing.

pub mod Promises
pub mod Examples
