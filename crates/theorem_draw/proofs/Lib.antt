-- The laws of the draw order on an accepted map, and of what one picture draws. Assumes nothing.

pub mod Fronts
pub mod Draws
pub mod Depths
pub mod Segs
pub mod Pictures
