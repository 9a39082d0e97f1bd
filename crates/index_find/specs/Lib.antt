-- A lookup by an index. Assumes nothing.

pub mod Finding
pub mod Inner
pub mod Promises
