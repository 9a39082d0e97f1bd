-- The laws of the full check. Assumes nothing.

pub mod Accepts
pub mod Reading
pub mod Heads
pub mod Equal
