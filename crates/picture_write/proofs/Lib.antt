-- The laws of a written column and of the whole lump. Assumes nothing.

pub mod Runs
pub mod PostStores
pub mod Inner
pub mod OffsetStores
pub mod Lump
pub mod Checks
pub mod Examples
pub mod Fits
