-- What a script lends, and how an answer is printed. Assumes nothing.
use Rattle.std.specs.Prelude.{ℕ, ◌+◌, ◌-◌, ◌%◌, ◌≤◌, ◌&&◌, cond, List, [], ◌++◌, ◌≡◌, leb, ltb, eqb, get_or, length, take, drop}
use Rattle.std.specs.Int.{w32, from_le_bytes}
use Rattle.std.specs.List.{fold}
use Rattle.std.specs.Fmt.{decimal}
use lib.Chars.{codes}
use Rattle.refusal.specs.declared.status.Status.{Status}
use Rattle.vector_script.specs.declared.lending.Store.{Store}
use Rattle.vector_script.specs.declared.numbers.Width.{Width}
use Rattle.vector_script.specs.declared.numbers.Width.TheVariants.{Byte, Word, Double, Quad}

-- the bytes from `a` up to `b`, or none where they do not all lie inside
abbrev pub part_between : List ℕ → ℕ → ℕ → List ℕ
part_between xs a b = cond (leb a b && leb b (length xs)) (take (b - a) (drop a xs)) []

-- the number of 32 bits at a place, 0 where it does not lie inside
abbrev pub number_at : List ℕ → ℕ → ℕ
number_at xs at = cond (leb (at + 4) (length xs)) (from_le_bytes w32 (take 4 (drop at xs))) 0

-- how far a word agrees with a name, from `at` on; past all names behind a letter that differs
abbrev pub agrees : List ℕ → ℕ → ℕ → ℕ → ℕ
agrees word past at letter = cond (ltb at (length word) && eqb (get_or word at 0) letter) ((at + 1) % 18446744073709551616) past

abbrev pub matched : List ℕ → ℕ → List ℕ → ℕ
matched word past name = fold (agrees word past) 0 name

-- the memory of `t` is as long as that of `s`
abbrev pub Kept : Store → Store → Type 0
Kept s t = length t.memory.now ≡ length s.memory.now

-- if the memory has room for `n` bytes more, writing goes on behind them
abbrev pub GoesOn : Store → ℕ → Store → Type 0
GoesOn s n t = s.at + n ≤ length s.memory.now → t.at ≡ s.at + n

-- in how many bytes a number is written
abbrev pub width_bytes : Width → ℕ
width_bytes Byte = 1
width_bytes Word = 2
width_bytes Double = 4
width_bytes Quad = 8

-- a refusal is printed as its number, place and record
abbrev pub verdict_text : Status → List ℕ
verdict_text s =
    cond (eqb s.number 0) (codes " pass")
    (codes " refused " ++ (decimal s.number ++ (codes " " ++ (decimal s.place ++ (codes " " ++ decimal s.record)))))
