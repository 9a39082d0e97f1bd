-- The laws of renumbered NODES. Assumes nothing.

pub mod Held
pub mod Orders
pub mod NewNodes
pub mod Same
pub mod Holds
