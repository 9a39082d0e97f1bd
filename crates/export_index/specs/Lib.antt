-- Answers on a name index, as C and Rust are given them. Assumes nothing.

pub mod Answers
pub mod IndexBuilding
