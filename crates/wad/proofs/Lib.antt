-- The laws of a directory, of its entries and of the search for a marker. Assumes nothing.

pub mod Slices
pub mod Listing
pub mod Longest
pub mod Answers
pub mod Search
pub mod Numbers
