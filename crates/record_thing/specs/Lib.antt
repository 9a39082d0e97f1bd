-- The things of a map. Assumes nothing.

pub mod Things
pub mod Codecs
