-- A list of nodes to renumber by: what is asked of it, and the places that its nodes are given. Assumes nothing.

pub mod Orders
pub mod Places
pub mod Judging
