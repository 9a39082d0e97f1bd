-- The laws of the exported reads and writes of records. Assumes nothing.

pub mod WrittenBack
