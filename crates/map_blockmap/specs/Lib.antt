-- BLOCKMAP's words, header, cells and lists; and, for inner contracts alone, the pass over the lists. Assumes nothing.

pub mod Blockmap
pub mod Notes
