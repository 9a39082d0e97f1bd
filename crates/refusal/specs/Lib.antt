-- The table of refusals, rows of checks, and the status that every answer begins with. Assumes nothing.

pub mod Table
pub mod Checks
pub mod Status
