-- The laws of rows of checks and of scans, and of the numbers that they give. Assumes nothing.

pub mod Checks
pub mod Scans
pub mod Numbers
pub mod Table
