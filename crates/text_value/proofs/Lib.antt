-- Laws of the numbers and the values of a text map. Assumes nothing.

pub mod Numbers
pub mod Capped
pub mod Forms
pub mod Keywords
