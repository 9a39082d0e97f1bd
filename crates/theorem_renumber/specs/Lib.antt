-- What holds of renumbered NODES. Assumes nothing.

pub mod Promises
