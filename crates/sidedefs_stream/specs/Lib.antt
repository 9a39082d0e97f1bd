-- SIDEDEFS as they arrive. Assumes nothing.

pub mod Scraps
pub mod Whole
pub mod Inner
pub mod Examples
