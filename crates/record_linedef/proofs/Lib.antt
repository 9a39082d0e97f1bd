-- The laws of linedefs. Assumes nothing.

pub mod Fields
