-- The laws of the pair of files and of its search. Assumes nothing.

pub mod Searching
pub mod Entries
pub mod Answering
