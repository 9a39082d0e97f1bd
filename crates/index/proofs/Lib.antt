-- The laws of records in order, of the sorted records of a directory, and of the bytes of an index. Assumes nothing.

pub mod Orders
pub mod Derived
pub mod NameKeys
pub mod Sorting
pub mod Holds
pub mod Padded
pub mod Filled
pub mod Bytes
