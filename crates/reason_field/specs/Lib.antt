-- The field that a refusal names. Assumes nothing.

pub mod Named
pub mod Naming
