-- Laws of the identifiers of a text map. Assumes nothing.

pub mod Identifiers
