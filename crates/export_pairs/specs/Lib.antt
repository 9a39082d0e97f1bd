-- Answers on a pair of files, as C and Rust are given them. Assumes nothing.

pub mod Pairs
