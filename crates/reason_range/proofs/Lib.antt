-- The laws of fields with their ranges. Assumes nothing.

pub mod Fields
pub mod Said
