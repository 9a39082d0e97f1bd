-- `index_build::writing::put_record` meets its contract: the name and the number, one after the other. Assumes nothing.
use Prim.Native.Nat.{◌+◌, ◌-◌, ◌*◌}
use mathlib.Core.List.{List}
use mathlib.Core.Path.{◌≡◌, ap, ◌∙◌}
use native.Mathlib.Omega.{arith}
use borrow.Author.Rules.{rules}
use borrow.Rule.Slice.PartMut.{put_mid}
use Prim.Native.Nat.{ℕ}
use lib.ListN.{length}
use Rattle.endian.specs.Unsigned.{put_u16}
use Rattle.index_build.proofs.Bytes.{stores_record}
use Rattle.index_build.proofs.writing.put_record.Goals as goal

pub returns : goal.returns
returns c =
    let a = c.args in
    let at = 11 + 10 * a.i in
    let long : length a.r.name ≡ 8 = search rules in
    c.put_u16.ensures
    ∙ ap (λ (name : List ℕ). put_u16 (put_mid at (at + 8 - at) a.out.now name) (at + 8) a.r.number) c.copy_from_slice.ensures.after
    ∙ stores_record a.out.now at a.r.name a.r.number long (omega (arith, c.requires))
