-- What the check of a node graph promises; and, for its inner contracts alone, what its search keeps. Assumes nothing.

pub mod Judging
pub mod Ways
pub mod Looks
pub mod Searching
