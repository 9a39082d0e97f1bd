-- The theorems of the pair (W-207), of any files, names and words. The proofs are in proofs/Changing.antt. Assumes nothing.
use Rattle.std.specs.Prelude.{ℕ, ◌<◌, true, List, ◌≡◌, length, Ok}
use Rattle.name.specs.Names.{same_name}
use Rattle.wad.specs.Header.{head_of, entry_count}
use Rattle.wad.specs.Entries.{directory_of, entry_name, file_check}
use Rattle.wad.specs.Lump.{Whole}
use Rattle.pair.specs.Search.{file_of}
use Rattle.pair.specs.Answers.{pair_entry, pair_lump, pair_verdict, pair_words}

-- a file that 1 to 6 pass
abbrev pub Valid : List ℕ → Type 0
Valid wad = file_check wad ≡ Ok tt

-- some entry of the file has the name, of eight bytes
pub record Has (wad name : List ℕ) : Type 0 where
  pub asked : length name ≡ 8
  pub entry : ℕ
  pub below : entry < entry_count (head_of wad)
  pub named : same_name (entry_name (directory_of wad) entry) name ≡ true

abbrev pub Lacks : List ℕ → List ℕ → Type 0
Lacks wad name = Has wad name → ⊥

-- two pairs give the same answers on a name: the lump, where it lies, the verdict, and the words afterwards
pub record SameAnswers (base patch base' patch' name : List ℕ) : Type 0 where
  pub entries : pair_entry base patch name ≡ pair_entry base' patch' name
  pub lumps : pair_lump base patch name ≡ pair_lump base' patch' name
  pub verdicts : (words : List ℕ) → pair_verdict base patch name words ≡ pair_verdict base' patch' name words
  pub leaves : (words : List ℕ) → pair_words base patch name words ≡ pair_words base' patch' name words

-- given two valid files, if the patch has the name, changing the base to another valid file changes nothing
abbrev pub BaseChanged : Type 0
BaseChanged =
    (base base' patch name : List ℕ) → Valid base → Valid patch → Has patch name → Valid base'
    → SameAnswers base patch base' patch name

-- if it has not, changing the patch to another valid file that has not changes nothing
abbrev pub PatchChanged : Type 0
PatchChanged =
    (base patch patch' name : List ℕ) → Valid base → Valid patch → Lacks patch name → Valid patch' → Lacks patch' name
    → SameAnswers base patch base patch' name

-- a lump that is not refused is handed back whole, out of the file that the answer notes
abbrev pub PickedWhole : Type 0
PickedWhole =
    (base patch name : List ℕ) (offset size : ℕ) → (pair_entry base patch name).entry ≡ Ok (record { offset = offset; size = size })
    → Whole (file_of base patch (pair_entry base patch name).file) (pair_lump base patch name) offset size
