-- Fields with the ranges that are allowed there, and the first that is out of its range. Assumes nothing.

pub mod Fields
