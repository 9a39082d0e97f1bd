-- Which blocks are found (02, W-206, 94): those whose number is below the count that the summary answers. Assumes nothing.
use Rattle.std.specs.Prelude.{ℕ, Bool, true, ◌&&◌, List, ◌≡◌, ltb, Result, Ok, Err}
use Rattle.refusal.specs.Checks.{Check}
use Rattle.refusal.specs.declared.Refusal.TheVariants.{TextMissing}
use Rattle.refusal.specs.Checks.{unless}
use Rattle.text_table.specs.declared.scope.Scope.{Scope}
use Rattle.text_table.specs.Scopes.{scope_number}
use Rattle.text_block.specs.Blocks.{count_of}
use Rattle.text_map.specs.Answers.{text_answer, block_fields, numbered}
use Rattle.text_map.specs.declared.TextSummary.{TextSummary}
use Rattle.refusal.specs.declared.Refusal.{Refusal}

-- one of the five kinds of block
abbrev pub is_kind : Scope → Bool
is_kind kind = ltb 0 (scope_number kind) && ltb (scope_number kind) 6

-- what a block's check must be by the summary: 94 unless its number is below the count; or the summary's own refusal
abbrev pub check_below : Scope → ℕ → Result TextSummary Refusal → Check
check_below kind number (Ok s) = unless (ltb number (count_of s.counts kind)) TextMissing
check_below kind number (Err r) = Err r

-- a block is found exactly if its number is below the kind's count in the summary; if the summary is refused, every
-- block is refused with the same number and place
abbrev pub FoundBelowTheCount : Type 0
FoundBelowTheCount = (text : List ℕ) (kind : Scope) (number : ℕ) → is_kind kind ≡ true
    → (block_fields text (numbered text kind number)).check ≡ check_below kind number (text_answer text)
