-- The laws of the words that were seen. Assumes nothing.

pub mod Children
pub mod Places
