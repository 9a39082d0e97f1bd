-- The laws of coordinates and of the descent. Assumes nothing.

pub mod Coordinates
pub mod Walks
pub mod Descends
