-- Not for the reader of promises: laws of definitions that only contracts of inner functions cite. Assumes nothing.

pub mod Columns
pub mod Runs
