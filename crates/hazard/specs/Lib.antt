-- Hazards of an accepted map: segs in two subsectors, long lists of BLOCKMAP, high numbers, and the first of them. Assumes nothing.

pub mod Findings
pub mod Segs
pub mod Lists
pub mod Numbers
pub mod Hazards
pub mod Inner
