-- The laws of reasons. Assumes nothing.

pub mod Printing
