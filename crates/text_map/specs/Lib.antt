-- What a text map answers. Assumes nothing.

pub mod Answers
