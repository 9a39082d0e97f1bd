-- The laws of bits and of notes of one bit each. Assumes nothing.

pub mod Bits
