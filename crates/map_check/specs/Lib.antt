-- The map check: sizes, references, BLOCKMAP, work words, and then the node graph. Assumes nothing.

pub mod References
pub mod Lumps
pub mod Verdict
pub mod Inner
