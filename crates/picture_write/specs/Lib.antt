-- A picture written from its pixels: the pixels judged, one column, and the whole lump. Assumes nothing.

pub mod Given
pub mod Pixels
pub mod Runs
pub mod Inner
pub mod Lump
pub mod Encoding
pub mod Examples
