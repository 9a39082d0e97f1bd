-- White space and comments of a text map. Assumes nothing.

pub mod Gaps
pub mod Passing
