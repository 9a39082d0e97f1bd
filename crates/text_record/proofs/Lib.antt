-- Laws of the values of fields. Assumes nothing.

pub mod Whole
