-- The side of a point by a line, the plain walk and the descent. Assumes nothing.

pub mod Side
pub mod Walks
pub mod Promises
