-- What does not change a text map's answers. Assumes nothing.

pub mod Tokens
pub mod Answers
pub mod Gaps
pub mod Promises
pub mod Found
