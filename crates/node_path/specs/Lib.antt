-- The way into a loop, the route of an accepted map, and what is promised of them. Assumes nothing.

pub mod Ways
pub mod Promises
pub mod Inner
