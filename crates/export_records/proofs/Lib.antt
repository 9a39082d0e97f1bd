-- What the answers on records rest on. Assumes nothing.

mod Zeros
