-- The laws of building. Assumes nothing.

pub mod Moves
pub mod SortedOver
pub mod Bytes
pub mod Rooms
pub mod Whole
