-- The laws of a record's fields with their ranges. Assumes nothing.

pub mod Reasons
pub mod RefusedRecords
pub mod Examples
