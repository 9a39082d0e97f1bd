-- The bytes of a text map. Assumes nothing.

pub mod Bytes
pub mod Spans
pub mod WordBytes
