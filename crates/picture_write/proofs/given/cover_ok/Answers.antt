-- `picture_write::given::cover_ok` meets its contract: so far all bytes are good or not, as the definition has it. Assumes nothing.
use Prim.Native.Nat.{ℕ, ◌+◌, ◌<◌}
use mathlib.Core.Bool.{true, ◌&&◌}
use mathlib.Core.List.{List}
use mathlib.Core.Path.{◌≡◌, refl, ◌∙◌}
use native.Mathlib.Numerals.{add-one}
use native.Mathlib.Omega.{arith}
use lib.Dec.{leb}
use lib.ListN.{get_or}
use lib.Seq.{get_or-take, length-take-le}
use Rattle.picture_write.specs.Given.{cover_ok}
use Rattle.picture_write.proofs.given.cover_ok.Goals as goal

ok_none : (cover : List ℕ) → true ≡ cover_ok cover 0
unfolding cover_ok
ok_none cover = refl

ok_suc : (cover : List ℕ) (n : ℕ) → (cover_ok cover n && leb (get_or cover n 0) 1) ≡ cover_ok cover (n + 1)
unfolding cover_ok
ok_suc cover n = rw (add-one n)

pub loop-byte-init : goal.loop-byte-init
loop-byte-init c = ok_none _

pub loop-byte-preserved : goal.loop-byte-preserved
loop-byte-preserved c =
    let l = c.loop-byte in
    let cover = c.args.cover.now in
    let i = l.byte-index in
    let h : i < c.args.count = omega (arith, length-take-le c.args.count cover c.requires) in
    (λ k. l.invariant k && leb (get_or-take c.args.count cover i 0 h k) 1) ∙ ok_suc cover i
