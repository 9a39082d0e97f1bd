-- What a linedef, a sidedef, a seg, a subsector and a node may refer to. Assumes nothing.

pub mod References
