-- The laws of the two lists. Assumes nothing.

pub mod Loops
pub mod Routes
pub mod Choices
pub mod Found
