-- The laws of what holds of a pair of files. Assumes nothing.

pub mod Changing
