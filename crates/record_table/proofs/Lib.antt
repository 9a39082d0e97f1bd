-- The laws of the table of lumps and of the eight kinds. Assumes nothing.

pub mod Lumps
pub mod EightKinds
