-- The children of marked nodes. Assumes nothing.

pub mod Children
pub mod Inner
