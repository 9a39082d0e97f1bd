-- The laws of what does not change a text map's answers. Assumes nothing.

pub mod Readings
pub mod Letters
pub mod Related
pub mod Stepping
pub mod Holds
pub mod LastValues
pub mod Unknown
pub mod UnknownBlocks
pub mod Moved
pub mod Gaps
pub mod Front
pub mod Seams
pub mod Between
pub mod Found
