-- What holds of a pair of files. Assumes nothing.

pub mod Promises
