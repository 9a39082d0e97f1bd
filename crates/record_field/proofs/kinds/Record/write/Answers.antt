-- `record_field::kinds::Record::write` meets its contract: the bytes of a record fit into memory. Assumes nothing.
use Rattle.std.proofs.Common.{arith}
use Rattle.record_field.proofs.kinds.Record.write.Goals as goal

pub bytes-bytes-requires : goal.bytes-bytes-requires
bytes-bytes-requires g c = omega (arith, g.met.Self.Record.few)

pub shared_whole_as_slice-replace : goal.shared_whole_as_slice-replace
shared_whole_as_slice-replace g c = omega (arith, g.met.Self.Record.few)
