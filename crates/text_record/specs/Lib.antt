-- The value of a field of a text map, and the records that are made of them. Assumes nothing.

pub mod Fields
pub mod Records
