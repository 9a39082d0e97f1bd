-- The laws of fields and of records of any kind. Assumes nothing.

pub mod FieldRows
pub mod Fields
pub mod Records
pub mod Lossless
pub mod Games
