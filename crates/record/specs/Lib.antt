-- The six kinds of record that have one layout in both games: sidedefs, vertices, sectors, segs, subsectors and
-- nodes. Assumes nothing.

pub mod Sidedefs
pub mod Vertexes
pub mod Sectors
pub mod Segs
pub mod Subsectors
pub mod Nodes
pub mod Codecs
pub mod BuiltCodecs
