-- Answers on a map, as C and Rust are given them. Assumes nothing.

pub mod Maps
pub mod Hazards
