-- The laws of the node graph. Assumes nothing.

pub mod Heights
pub mod Verdict
pub mod Repeats
pub mod Shared
pub mod Reach
pub mod Places
