-- Building an index. Assumes nothing.

pub mod Building
pub mod Inner
pub mod Arranging
