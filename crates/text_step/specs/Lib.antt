-- One token of a text map. Assumes nothing.

pub mod Steps
