-- A NODES lump as a graph: children, and the root. Assumes nothing.

pub mod Nodes
pub mod Ranges
