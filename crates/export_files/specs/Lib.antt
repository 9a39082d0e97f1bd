-- Answers on a file, as C and Rust are given them. Assumes nothing.

pub mod Files
