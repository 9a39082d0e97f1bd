-- The laws of renumbering. Assumes nothing.

pub mod Rows
pub mod Outcomes
pub mod Verdicts
pub mod Examples
