-- The laws of what holds of the map check. Assumes nothing.

pub mod Numbers
pub mod Refusing
pub mod Demands
