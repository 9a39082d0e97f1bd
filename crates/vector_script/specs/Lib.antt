-- What the contracts of vector_script cite. Assumes nothing.

pub mod Script
