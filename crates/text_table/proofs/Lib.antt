-- Laws of the scopes, of the table, and of the names that a text map knows. Assumes nothing.

pub mod Scopes
pub mod Every
pub mod FieldRows
pub mod Positions
