-- Not for the reader of promises: definitions that only contracts of inner functions cite. Assumes nothing.

pub mod Changes
pub mod Lumps
