-- The laws of a lookup. Assumes nothing.

pub mod Halving
pub mod Turns
pub mod Comparing
pub mod Holds
