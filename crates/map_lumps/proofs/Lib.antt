-- The laws of a map's lumps by their places, and of its game. Assumes nothing.

pub mod Places
pub mod Telling
