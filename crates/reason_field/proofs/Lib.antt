-- The laws of the field that a refusal names. Assumes nothing.

pub mod Counting
