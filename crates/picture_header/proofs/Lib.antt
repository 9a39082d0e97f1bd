-- The laws of a picture's header. Assumes nothing.

pub mod Checks
