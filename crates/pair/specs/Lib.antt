-- The pair of files that the box opens, a patch over a base (W-207), and which of them has a name. Assumes nothing.

pub mod Search
pub mod Answers
