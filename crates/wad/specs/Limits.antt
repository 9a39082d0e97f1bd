-- Both sides of the longest file (01, refusal 1), of every file of that length: a Rattle program cannot run them, since its
-- arrays lie on the stack. The proof is proofs/Longest.antt. Assumes nothing.
use Rattle.std.specs.Prelude.{ℕ, List, [], ◌∷◌, ◌≡◌, length, Ok, Err}
use Rattle.refusal.specs.declared.Refusal.TheVariants.{FileLength}
use Rattle.wad.specs.Header.{head_of}
use Rattle.wad.specs.Entries.{directory_answer}

-- `PWAD`, no lumps, the directory at byte 12
abbrev pub empty : List ℕ
empty = 80 ∷ 87 ∷ 65 ∷ 68 ∷ 0 ∷ 0 ∷ 0 ∷ 0 ∷ 12 ∷ 0 ∷ 0 ∷ 0 ∷ []

pub record LengthLimit : Type 0 where
  -- 16,777,216 bytes are no fault: this header is judged by what it says
  pub longest : (wad : List ℕ) → length wad ≡ 16777216 → head_of wad ≡ empty → directory_answer wad ≡ Ok (record { count = 0; start = 12 })
  -- one more is refused, whatever the bytes are
  pub longer : (wad : List ℕ) → length wad ≡ 16777217 → directory_answer wad ≡ Err FileLength
