-- The full check of an index. Assumes nothing.

pub mod Checking
pub mod Inner
pub mod Promises
