-- Answers on a text map, as C and Rust are given them. Assumes nothing.

pub mod Answers
