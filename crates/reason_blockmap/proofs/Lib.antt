-- The laws of BLOCKMAP's fields. Assumes nothing.

pub mod Fields
pub mod Reasons
pub mod Examples
