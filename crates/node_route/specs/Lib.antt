-- Routes, loops, shared children and depth, and their refusals. Assumes nothing.

pub mod Routes
pub mod Heights
pub mod Reach
pub mod Refusals
pub mod Promises
