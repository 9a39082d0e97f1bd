-- Laws of a text map read token by token. Assumes nothing.

pub mod Runs
pub mod Onward
mod Leading
