-- Records of a name index and their order, the index's bytes, and what they are. Assumes nothing.

pub mod Records
pub mod Index
pub mod Keys
pub mod Promises
