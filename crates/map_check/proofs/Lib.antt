-- The laws of the map check. Assumes nothing.

pub mod CountsPassing
pub mod Passing
pub mod Answers
