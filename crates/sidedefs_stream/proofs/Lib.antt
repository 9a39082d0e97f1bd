-- The laws of scraps. Assumes nothing.

pub mod Scraps
pub mod Whole
pub mod Examples
