-- The pixels of a picture, and the two planes that they are painted into. Assumes nothing.

pub mod Buffers
pub mod Pixels
pub mod Inner
pub mod Canvases
