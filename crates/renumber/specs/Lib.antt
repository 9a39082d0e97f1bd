-- NODES renumbered so that children come before their parents. Assumes nothing.

pub mod Renumbering
pub mod Examples
pub mod Inner
