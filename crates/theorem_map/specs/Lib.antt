-- What holds of the map check. Assumes nothing.

pub mod Demands
