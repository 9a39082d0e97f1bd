-- `sidedefs_stream::feed_records` meets its contract: where not all of the scrap is looked at, the state is full. Assumes nothing.
use Prim.Native.Nat.{ℕ, ◌+◌, ◌<◌}
use mathlib.Core.Path.{◌≡◌, ap, subst, ◌∙◌}
use native.Mathlib.Omega.{arith}
use borrow.Author.Rules.{rules}
use lib.ListN.{length}
use lib.Seq.{length-take-le}
use Rattle.sidedefs_stream.specs.declared.Stream.{Stream}
use Rattle.wad.specs.Header.{most_bytes}
use Rattle.sidedefs_stream.proofs.Scraps.{fed-cut}
use Rattle.sidedefs_stream.proofs.feed_records.Goals as goal

pub returns : goal.returns
returns c =
    let a = c.args in
    let scrap = a.scrap.now in
    let n = c.min-n.result in
    let answer = c.feed_part.ensures.0 in
    let total : c.feed_part.result.bytes ≡ a.state.bytes + n =
    c.feed_part.ensures.1 ∙ ap (λ (k : ℕ). a.state.bytes + k) (length-take-le n scrap (search rules)) in
    let least = c.min-n.ensures in
    let full : n < length scrap → most_bytes < c.feed_part.result.bytes = λ h. omega (arith, total, least, h) in
    answer
    ∙ fed-cut a.state scrap n (λ h. subst (λ (s : Stream). most_bytes < s.bytes) answer (full h))
