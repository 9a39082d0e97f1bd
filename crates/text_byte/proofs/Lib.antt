-- Laws of the bytes of a text map. Assumes nothing.

pub mod Spans
pub mod Fronts
pub mod Near
pub mod Bytes
pub mod Letters
