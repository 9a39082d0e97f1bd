-- The laws of what holds of the listed differences. Assumes nothing.

pub mod Copies
pub mod Listed
pub mod Holds
pub mod Examples
