-- The laws of rows and of stores. Assumes nothing.

pub mod LaidOut
pub mod Stores
