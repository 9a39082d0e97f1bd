-- Laws of white space and comments. Assumes nothing.

pub mod Scans
pub mod Found
pub mod GapRuns
