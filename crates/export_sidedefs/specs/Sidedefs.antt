-- Answers on SIDEDEFS as they arrive. Assumes nothing.
use Rattle.refusal.specs.declared.status.Status.{Status}
use Rattle.refusal.specs.Status.{status_of}
use Rattle.sidedefs_stream.specs.declared.Stream.{Stream}
use Rattle.sidedefs_stream.specs.Scraps.{stream_verdict}

-- the verdict's number, place and record
abbrev pub sidedefs_judged : Stream → Status
sidedefs_judged state = status_of (stream_verdict state)
