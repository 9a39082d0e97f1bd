-- The laws of what holds of a reason. Assumes nothing.

pub mod Outputs
pub mod Reasons
