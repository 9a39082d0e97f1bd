-- The fields of BLOCKMAP's header and of a cell, with their ranges. Assumes nothing.

pub mod Fields
pub mod Reasons
pub mod Examples
