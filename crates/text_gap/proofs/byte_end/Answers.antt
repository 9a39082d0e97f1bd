-- `text_gap::byte_end` meets its contract: the value is met among the next bytes, or in a search of the rest. Assumes nothing.
use Prim.Native.Nat.{◌+◌, ◌-◌}
use mathlib.Core.Path.{◌≡◌, sym, ap, ◌∙◌}
use native.Mathlib.Omega.{arith}
use lib.ListN.{length}
use Rattle.text_byte.specs.Spans.{span_end, other_at}
use Rattle.text_byte.proofs.Spans.{span_done}
use Rattle.text_byte.proofs.Fronts.{first_near}
use Rattle.text_gap.proofs.byte_end.Goals as goal

pub returns-then-text-from : goal.returns-then-text-from
returns-then-text-from c =
    let text = c.args.text.now in
    sym (span_done (other_at text c.args.b) c.args.from (length text) (omega (arith, c.if-text-from.true)))

pub returns-then-at-from : goal.returns-then-at-from
returns-then-at-from c =
    let text = c.args.text.now in
    let from = c.args.from in
    let other = other_at text c.args.b in
    let next : 32 ≡ from + 32 - from = omega arith in
    first_near other from (from + 32) (length text) (omega arith) (omega (arith, c.if-text-from-ge-NEAR.true, c.if-text-from.false))
    (c.near_end-at.ensures ∙ ap (span_end other from) next) c.if-at-from.true
