-- The fields of a map's records that refer to others, with their ranges. Assumes nothing.

pub mod RecordFields
pub mod Reasons
pub mod Examples
