-- The laws of nodes and choices. Assumes nothing.

pub mod Choices
pub mod Nodes
