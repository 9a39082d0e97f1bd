-- Answers on a record, as C and Rust are given them. Assumes nothing.

pub mod Records
