-- The laws of judging a picture, of posts that are stepped over, and of notes. Assumes nothing.

pub mod Inner
pub mod Slots
pub mod Posts
pub mod Ends
