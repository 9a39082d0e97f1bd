-- `text_byte::near_end` meets its contract: the lowest bit of the mask is where the scan ends. Assumes nothing.
use Rattle.text_byte.proofs.near_end.Goals as goal
use Prim.Native.Nat.{◌+◌}
use mathlib.Core.Path.{sym, ap, ◌∙◌}
use native.Mathlib.Omega.{arith}
use lib.Count.{count_trailing_zeros}
use lib.Lanes.{chunk}
use lib.Dec.{eqb}
use lib.Seq.{length-take-le}
use lib.ListN.{drop, length-drop}
use Rattle.std.proofs.Common.{w8}
use Rattle.std.proofs.lemmas.Simd.{bitmask_splat}
use Rattle.text_byte.proofs.Near.{near_none, near_some}

pub returns-then-marks-eq0 : goal.returns-then-marks-eq0
returns-then-marks-eq0 c =
    let text = c.args.text.now in
    let l = length-drop c.args.from text in
    let e = bitmask_splat w8 eqb (chunk c.args.from 32 text) 32 c.args.b (length-take-le 32 (drop c.args.from text) (omega (arith, l, c.requires))) (omega arith) in
    near_none text c.args.from c.args.b c.requires (sym e ∙ c.if-marks-eq0.true)

pub returns : goal.returns
returns c =
    let text = c.args.text.now in
    let l = length-drop c.args.from text in
    let e = bitmask_splat w8 eqb (chunk c.args.from 32 text) 32 c.args.b (length-take-le 32 (drop c.args.from text) (omega (arith, l, c.requires))) (omega arith) in
    ap (λ m. c.args.from + count_trailing_zeros 64 m) e
    ∙ near_some text c.args.from c.args.b c.requires (omega (arith, e, c.if-marks-eq0.false))
