-- The reason of a map's verdict, as C and Rust are given it. Assumes nothing.

pub mod Reasons
