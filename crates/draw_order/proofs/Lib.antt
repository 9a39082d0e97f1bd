-- The laws of the draw order. Assumes nothing.

pub mod Lists
pub mod Words
