-- Little-endian numbers in bytes. Assumes nothing.

pub mod Unsigned
pub mod Signed
