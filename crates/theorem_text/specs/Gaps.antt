-- What may stand between two tokens (02, W-206), as bytes by themselves. Assumes nothing.
use Rattle.std.specs.Prelude.{ℕ, ◌+◌, true, false, ◌&&◌, List, [], ◌∷◌, ◌++◌, ◌≡◌, eqb, get_or, length}
use Rattle.text_gap.specs.declared.Mode.TheVariants.{Between}
use Rattle.text_byte.specs.Bytes.{newline, star, slash, is_blank}
use Rattle.text_gap.specs.Gaps.{gap, gap_from}
use Rattle.text_table.specs.Table.{bytes}

-- white space and closed comments, and nothing else: between tokens the reader passes over all of it
abbrev pub IsGap : List ℕ → Type 0
IsGap w = gap_from w Between 0 (length w) ≡ gap Between (length w)

-- these bytes are gaps: each white space; a comment up to the first star with a slash behind it; one up to its line's
-- end; one gap behind another; and an example
pub record GapsAre : Type 0 where
  pub none : IsGap []
  pub blank : (b : ℕ) → is_blank b ≡ true → IsGap (b ∷ [])
  pub comment : (inner : List ℕ) → ((k : ℕ) → (eqb (get_or inner k 0) star && eqb (get_or inner (k + 1) 0) slash) ≡ false)
      → IsGap (slash ∷ star ∷ (inner ++ (star ∷ slash ∷ [])))
  pub line : (inner : List ℕ) → ((k : ℕ) → eqb (get_or inner k 0) newline ≡ false) → IsGap (slash ∷ slash ∷ (inner ++ (newline ∷ [])))
  pub joined : (v w : List ℕ) → IsGap v → IsGap w → IsGap (v ++ w)
  pub mixed : IsGap (bytes " /* a */\t// b\r\n/**/")

-- these are not: a token's byte, a slash alone, a comment without its end; and comments do not nest
pub record GapsAreNot : Type 0 where
  pub word : IsGap (bytes "x") → ⊥
  pub slash_alone : IsGap (bytes "/") → ⊥
  pub half : IsGap (bytes "/*") → ⊥
  pub unclosed : IsGap (bytes "/* a *") → ⊥
  pub endless : IsGap (bytes "// a") → ⊥
  pub nested : IsGap (bytes "/* /* */ */") → ⊥
