-- A WAD file's header and directory, an entry's part of the file, and the search for a map's marker. Assumes nothing.

pub mod Slices
pub mod Header
pub mod Entries
pub mod Limits
pub mod Lump
pub mod Map
