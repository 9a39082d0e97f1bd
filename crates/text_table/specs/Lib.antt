-- The names that a text map knows, in a table for each scope. Assumes nothing.

pub mod Scopes
pub mod Table
pub mod Rows
pub mod Names
