-- The draw order of a camera point, and what is promised of it. Assumes nothing.

pub mod Lists
pub mod Promises
pub mod Inner
