-- Which records of a lump changed, and what changed between two maps. Assumes nothing.

pub mod Records
pub mod Inner
pub mod Differences
