-- The linedefs of a map. Assumes nothing.

pub mod Linedefs
pub mod Codecs
