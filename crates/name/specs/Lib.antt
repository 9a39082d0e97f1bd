-- Names of eight bytes. Assumes nothing.

pub mod Names
