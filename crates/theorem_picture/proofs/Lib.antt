-- The laws of a written picture read again. Assumes nothing.

pub mod Standing
pub mod Reading
pub mod Posts
pub mod Columns
pub mod RoundTrip
