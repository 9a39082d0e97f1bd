-- `text_block::all_given` meets its contract: the fields passed are given. Assumes nothing.
use Prim.Native.Nat.{◌<◌}
use mathlib.Core.Bool.{not, ◌&&◌}
use mathlib.Core.Path.{◌≡◌, sym, ap, ◌∙◌}
use native.Mathlib.Omega.{arith}
use lib.Dec.{eqb}
use lib.ListN.{length, get_or}
use Rattle.text_table.specs.Table.{fields_of, is_required}
use Rattle.text_table.proofs.Every.{every-none, every_more, every-stop, every-done}
use Rattle.text_table.proofs.FieldRows.{fields-long, required-same}
use Rattle.text_block.specs.Blocks.{is_given}
use Rattle.text_block.proofs.all_given.Goals as goal
use Rattle.text_block.proofs.all_given.Goals.{After-eq}

-- the test is that of the field
tested : (c : After-eq) → let a = c.args in
    is_given (is_required (fields_of a.kind)) a.places.now c.loop-k.k ≡ not (c.eq.result && eqb (get_or a.places.now c.loop-k.k 0) 0)
tested c =
    let a = c.args in
    let f = c.fields-fields in
    let same = c.eq.ensures ∙ required-same f.result.now a.kind f.ensures.rows c.loop-k.k _ c.loop-k-test.true in
    sym (ap (λ x. not (x && eqb (get_or a.places.now c.loop-k.k 0) 0)) same)

pub loop-k-init : goal.loop-k-init
loop-k-init c = every-none _

pub returns-then-eq-places : goal.returns-then-eq-places
returns-then-eq-places c =
    let f = c.fields-fields in
    let long = fields-long f.result.now c.args.kind f.ensures.rows in
    let inside : c.loop-k.k < length (fields_of c.args.kind) = omega (arith, long, c.loop-k-test.true) in
    every-stop _ _ _ inside (tested (goal.at.returns-then-eq-places c).After-eq ∙ ap not c.if-eq-places.true)

pub loop-k-preserved : goal.loop-k-preserved
loop-k-preserved c = every_more _ _ c.loop-k.invariant (tested (goal.at.loop-k-preserved c).After-eq ∙ ap not c.if-eq-places.false)

pub returns : goal.returns
returns c =
    let f = c.fields-fields in
    let long = fields-long f.result.now c.args.kind f.ensures.rows in
    every-done _ c.loop-k.k _ c.loop-k.invariant (omega (arith, long, c.loop-k.auto.k-end)) (omega (arith, long, c.loop-k-test.false))
