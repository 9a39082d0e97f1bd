-- Bits of a byte, and notes of one bit each. Assumes nothing.

pub mod Bits
