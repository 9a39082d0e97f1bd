-- The blocks of a text map. Assumes nothing.

pub mod Blocks
