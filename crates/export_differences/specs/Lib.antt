-- What changed between two maps, as C and Rust are given it. Assumes nothing.

pub mod Differences
