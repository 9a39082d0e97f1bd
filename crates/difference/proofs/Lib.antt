-- The laws of changed records and of differences between maps. Assumes nothing.

pub mod Laying
pub mod Comparing
pub mod Lumps
pub mod Accepting
pub mod Answering
