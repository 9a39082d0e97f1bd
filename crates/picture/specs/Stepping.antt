-- Not for the reader of promises: what only contracts of inner functions cite, which posts are stepped over without being
-- judged or painted one by one, and what is noted of places that many columns come to. Assumes nothing.
use Rattle.std.specs.Prelude.{ℕ, zero, suc, ◌+◌, ◌*◌, ◌/◌, ◌%◌, ◌≤◌, Bool, ◌&&◌, cond, List, ◌≡◌, leb, ltb, eqb, length, get_or, set}
use Rattle.picture_header.specs.Layout.{start_at, length_at, post_end}

-- a post of length 0 at `row` stands at `at`, wholly inside the lump
abbrev pub empty_at : List ℕ → ℕ → ℕ → Bool
empty_at lump row at = leb (post_end lump at) (length lump) && eqb (start_at lump at) row && eqb (length_at lump at) 0

-- where the first thing stands, from `at` on, that is no such post, or what is behind `most` of them
unfoldable pub past_empty : ℕ → List ℕ → ℕ → ℕ → ℕ
past_empty zero lump row at = at
past_empty (suc most) lump row at = cond (empty_at lump row at) (past_empty most lump row (post_end lump at)) at

-- `to` stands behind some of such posts, from `from` on
pub record Stepped (lump : List ℕ) (row from to : ℕ) : Type 0 where
  pub most : ℕ
  pub same : to ≡ past_empty most lump row from

-- One byte is kept for each of the first four places of every 1,024: a row of empty posts stands on one of them.

-- the place that a slot is for
abbrev pub slot_place : ℕ → ℕ
slot_place slot = slot / 4 * 1024 + slot % 4

-- `at` is one of those places
abbrev pub has_slot : ℕ → Bool
has_slot at = ltb (at % 1024) 4

-- and its slot
abbrev pub slot_of : ℕ → ℕ
slot_of at = at / 1024 * 4 + at % 1024

-- `at` is noted; past the notes' end nothing is
abbrev pub is_noted : List ℕ → ℕ → Bool
is_noted notes at = has_slot at && eqb (get_or notes (slot_of at) 0) 1

-- the notes with `at` among them, where it has a slot
abbrev pub noted : List ℕ → ℕ → List ℕ
noted notes at = cond (has_slot at) (set notes (slot_of at) 1) notes

-- each noted place is as `P` says
abbrev pub Notes : (ℕ → Type 0) → List ℕ → Type 0
Notes P notes = (slot : ℕ) → get_or notes slot 0 ≡ 1 → P (slot_place slot)

-- a post of length 0 stands at `at`, at any row
pub record NoPixels (lump : List ℕ) (at : ℕ) : Type 0 where
  pub inside : at + 4 ≤ length lump
  pub starts : start_at lump at ≡ 255 → ⊥
  pub none : length_at lump at ≡ 0

-- from `from` to `to` there are such posts alone
pub data Over (lump : List ℕ) (from : ℕ) : ℕ → Type 0 where
  here : Over lump from from
  past : (at : ℕ) → Over lump from at → NoPixels lump at → Over lump from (at + 4)

-- 256 of them from `at` on
abbrev pub Block : List ℕ → ℕ → Type 0
Block lump at = Over lump at (at + 1024)
