-- A map's ten lumps: their order, the map's game, and their sizes. Assumes nothing.

pub mod Lumps
pub mod Run
pub mod Games
pub mod Sizes
