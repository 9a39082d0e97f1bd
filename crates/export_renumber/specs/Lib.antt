-- Renumbered NODES, as C and Rust are given them. Assumes nothing.

pub mod Renumberings
