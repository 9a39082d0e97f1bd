-- The table of a map's ten lumps, and that the records of all of them are read and written without loss. Assumes nothing.

pub mod Lumps
pub mod Lossless
