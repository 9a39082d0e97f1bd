-- The laws of hazards. Assumes nothing.

pub mod SegsTaken
pub mod ListLengths
pub mod HighLists
pub mod Accepting
