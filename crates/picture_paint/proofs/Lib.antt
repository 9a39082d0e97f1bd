-- The laws of painting. Assumes nothing.

pub mod Checks
pub mod Posts
pub mod Inner
pub mod Painting
pub mod Planes
pub mod Canvases
