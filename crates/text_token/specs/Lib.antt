-- The tokens of a text map. Assumes nothing.

pub mod Tokens
pub mod Inner
