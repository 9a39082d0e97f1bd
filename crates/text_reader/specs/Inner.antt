-- What only contracts of inner functions cite: a text read on by several tokens. Assumes nothing.
use Rattle.std.specs.Prelude.{ℕ, true, List, ◌≡◌}
use Rattle.text_block.specs.declared.Asked.{Asked}
use Rattle.text_block.specs.declared.Wanted.{Wanted}
use Rattle.text_block.specs.declared.Wanted.TheVariants.{Statement}
use Rattle.text_step.specs.declared.Parse.{Parse}
use Rattle.text_reader.specs.Texts.{Stand, stand, is_more, goes, token_more}

-- tokens lead from one stand to another: one at least, each where more is wanted
pub data Leads (text : List ℕ) (asked : Asked) : Stand → Stand → Type 0 where
  last : (s r : Stand) → goes s ≡ true → r ≡ token_more text asked s → Leads text asked s r
  then : (s m r : Stand) → goes s ≡ true → m ≡ token_more text asked s → Leads text asked m r → Leads text asked s r

-- the same where no block ends: the places that are kept stay
abbrev pub ReadsOn : List ℕ → Asked → Parse → List ℕ → Parse → List ℕ → Type 0
ReadsOn text asked s places r places' = (kept : List ℕ) → Leads text asked (stand s places kept) (stand r places' kept)

-- where more is wanted, it is a statement
abbrev pub Rests : Wanted → Type 0
Rests w = is_more w ≡ true → w ≡ Statement
