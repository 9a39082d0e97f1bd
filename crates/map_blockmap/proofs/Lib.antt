-- The laws of BLOCKMAP's lists. Assumes nothing.

pub mod Ending
