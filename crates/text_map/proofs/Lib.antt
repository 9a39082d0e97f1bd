-- Laws of the answers of a text map. Assumes nothing.

pub mod ScopeNumbers
pub mod Zeros
