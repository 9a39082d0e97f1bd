-- The judging of a picture, and the posts that it steps over. Assumes nothing.

pub mod Stepping
pub mod Judging
pub mod Inner
