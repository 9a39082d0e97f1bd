-- The laws of the search for loop and depth. Assumes nothing.

pub mod Unmet
pub mod Tall
pub mod Ways
pub mod Searching
pub mod Ends
pub mod Looks
pub mod Words
pub mod Sharing
