-- Why a map is judged as it is: what is printed with its verdict. Assumes nothing.

pub mod Printing
pub mod Inner
