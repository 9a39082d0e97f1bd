-- Which index is accepted (02, W-210). Assumes nothing.
use Rattle.std.specs.Prelude.{List, ◌↔◌, ◌≡◌, ℕ, Ok}
use Rattle.wad.specs.Entries.{file_check}
use Rattle.index.specs.Index.{index_bytes}
use Rattle.index_check.specs.Checking.{index_check}

-- beside a file that 1 to 6 pass, the index of its directory, and no other
abbrev pub AcceptsTheIndex : Type 0
AcceptsTheIndex = (wad index : List ℕ) → file_check wad ≡ Ok tt → index_check wad index ≡ Ok tt ↔ (index ≡ index_bytes wad)
