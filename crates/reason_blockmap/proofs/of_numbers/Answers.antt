-- `reason_blockmap::of_numbers` meets its contract: the words before `at` are in their ranges. Assumes nothing.
use Prim.Native.Nat.{ℕ, ◌-◌}
use mathlib.Core.List.{List}
use mathlib.Core.Path.{◌≡◌, refl, ap, ◌∙◌}
use native.Mathlib.Numerals.{add-one}
use borrow.Author.Rules.{rules}
use Rattle.map_blockmap.specs.Blockmap.{word_count}
use Rattle.reason_range.specs.Fields.{field_check, fields_check}
use Rattle.reason_blockmap.specs.Fields.{word_field, number_fields}
use Rattle.reason_blockmap.proofs.Fields.{check-end, check-here, check-later, check-none}
use Rattle.reason_blockmap.proofs.of_numbers.Goals as goal
use Rattle.reason_range.specs.declared.Field.{Field}

-- the check of the word, as the field's
is_here : (lump : List ℕ) (linedefs at last : ℕ) {f : Field} → last ≡ linedefs - 1 → f ≡ word_field lump at 0 last
    → field_check f ≡ field_check (word_field lump at 0 (linedefs - 1))
is_here lump linedefs at last up e = ap field_check (e ∙ ap (word_field lump at 0) up)

pub returns-then-word_at-eq-LIST_END : goal.returns-then-word_at-eq-LIST_END
returns-then-word_at-eq-LIST_END c =
    let a = c.args in
    check-end a.lump.now a.linedefs c.loop-at.at (search rules) c.word_at.ensures.0 c.if-word_at-eq-LIST_END.true ∙ c.loop-at.invariant.1.1

pub returns-in_err-check : goal.returns-in_err-check
returns-in_err-check c =
    let a = c.args in
    let at = c.loop-at.at in
    search (
      rules,
      check-here a.lump.now a.linedefs at (search rules) c.word_at.ensures.0 c.if-word_at-eq-LIST_END.false
          (c.in_err-check.ensures ∙ is_here a.lump.now a.linedefs at c.saturating_sub-last.result c.saturating_sub-last.ensures c.word_field.ensures)
          ∙ c.loop-at.invariant.1.1,
    )

pub loop-at-preserved : goal.loop-at-preserved
loop-at-preserved c =
    let a = c.args in
    let at = c.loop-at.at in
    let later = check-later a.lump.now a.linedefs at (search rules) c.word_at.ensures.0 c.if-word_at-eq-LIST_END.false
    (c.in_ok-check.ensures ∙ is_here a.lump.now a.linedefs at c.saturating_sub-last.result c.saturating_sub-last.ensures c.word_field.ensures) in
    let next = ap (λ (n : ℕ). fields_check (number_fields a.lump.now a.linedefs (word_count a.lump.now - n))) (add-one at) in
    (refl, (search rules, next ∙ later ∙ c.loop-at.invariant.1.1))

pub returns : goal.returns
returns c =
    let a = c.args in
    let l = c.loop-at in
    c.check-2.ensures ∙ ap field_check c.size_field.ensures ∙ check-none a.lump.now a.linedefs l.at (search rules) ∙ l.invariant.1.1
