-- What the draw order lists on an accepted map, and what one picture draws. Assumes nothing.

pub mod Promises
pub mod Accepted
pub mod Pictures
