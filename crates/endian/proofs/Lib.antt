-- The laws of little-endian numbers. Assumes nothing.

pub mod Unsigned
pub mod Signed
pub mod Magnitude
