-- The examples of 01, of the definitions. Assumes nothing.

pub mod Examples
