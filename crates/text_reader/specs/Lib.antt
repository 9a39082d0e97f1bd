-- A text map read token by token. Assumes nothing.

pub mod Runs
pub mod Texts
pub mod Inner
