-- Answers on a picture, as C and Rust are given them. Assumes nothing.

pub mod Pictures
