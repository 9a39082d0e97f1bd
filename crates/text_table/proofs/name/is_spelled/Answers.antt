-- `text_table::name::is_spelled` meets its contract: the letters passed are the name's. Assumes nothing.
use Prim.Native.Nat.{ℕ}
use mathlib.Core.Bool.{Bool}
use mathlib.Core.Path.{◌≡◌, sym, ap, ◌∙◌}
use borrow.Author.Tests.{eq-eqb, ne_eqb}
use native.Mathlib.Omega.{arith}
use lib.Dec.{eqb}
use Rattle.text_table.specs.Names.{every}
use Rattle.text_table.proofs.Every.{every-none, every-fails, every-passes}
use Rattle.text_table.proofs.name.is_spelled.Goals as goal

-- the test is that of the letter
tested : {x y : ℕ} (r : ℕ) {b : Bool} → x ≡ y → eqb x r ≡ b → eqb y r ≡ b
tested r e t = cc

pub returns-then-letter-name : goal.returns-then-letter-name
returns-then-letter-name c =
    sym (every-fails _ c.loop-k.k c.loop-k-test.true (tested _ c.letter.ensures (ne_eqb _ _ c.if-letter-name.true))) ∙ c.loop-k.invariant

pub loop-k-preserved : goal.loop-k-preserved
loop-k-preserved c =
    sym (every-passes _ c.loop-k.k c.loop-k-test.true (tested _ c.letter.ensures (eq-eqb _ _ c.if-letter-name.false))) ∙ c.loop-k.invariant

pub returns : goal.returns
returns c = let e = c.loop-k-test.false in every-none _ ∙ ap (every _) (omega (arith, e)) ∙ c.loop-k.invariant
