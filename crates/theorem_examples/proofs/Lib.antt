-- The examples of 01. Assumes nothing.

pub mod Examples
