-- Bytes one after the other. Assumes nothing.

pub mod Rows
pub mod Buffers
