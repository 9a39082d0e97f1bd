-- The laws of names: their characters, and their bytes one after the other. Assumes nothing.

pub mod Characters
pub mod Rows
pub mod Bytes
