-- Answers on SIDEDEFS as they arrive, as C and Rust are given them. Assumes nothing.

pub mod Sidedefs
