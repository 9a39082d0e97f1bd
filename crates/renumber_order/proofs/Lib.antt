-- The laws of marks, of places and of the list to renumber by. Assumes nothing.

pub mod Members
pub mod Marks
pub mod FirstPlaces
pub mod Filling
pub mod Marking
pub mod Placing
pub mod Checking
pub mod Outcomes
