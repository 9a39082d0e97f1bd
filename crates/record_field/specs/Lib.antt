-- What every kind of record shares: its fields, its part of the lump, and that reading and writing lose nothing. Assumes
-- nothing.

pub mod Fields
pub mod Records
pub mod Lossless
