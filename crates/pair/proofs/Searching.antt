-- What a search of both files answers, by the checks and the searches that led there. Assumes nothing.
use Prim.Native.Nat.{ℕ}
use mathlib.Core.Path.{◌≡◌, sym, ap, ◌∙◌}
use Rattle.refusal.specs.declared.Refusal.{Refusal}
use Rattle.refusal.specs.declared.Refusal.TheVariants.{EntryMissing}
use Rattle.refusal.specs.Checks.{Check}
use Rattle.std.specs.Prelude.{Result, Ok, Err}
use Rattle.std.specs.Prelude.{Option}
use Rattle.pair.specs.declared.search.File.{File}
use Rattle.pair.specs.declared.search.PairSearch.{PairSearch}
use Rattle.pair.specs.Search.{no_file, after_check, or_else}

-- 11, which notes no file
abbrev pub missing : PairSearch
missing = record { file = no_file; marker = Err EntryMissing }

pub after-refused : (file : Option File) (next : PairSearch) {k : Check} {r : Refusal} → k ≡ Err r
    → after_check file (Err r) next ≡ after_check file k next
after-refused file next e = sym (ap (λ (k : Check). after_check file k next) e)

pub after_pass : (file : Option File) (next : PairSearch) {k : Check} {x : PairSearch} → k ≡ Ok tt → x ≡ next → x ≡ after_check file k next
after_pass file next e q = q ∙ sym (ap (λ (k : Check). after_check file k next) e)

pub else_found : (file : Option File) (next : PairSearch) {m : Result ℕ Refusal} {i : ℕ} → m ≡ Ok i → or_else file (Ok i) next ≡ or_else file m next
else_found file next e = sym (ap (λ (m : Result ℕ Refusal). or_else file m next) e)

pub else_none : (file : Option File) (next : PairSearch) {m : Result ℕ Refusal} {r : Refusal} {x : PairSearch} → m ≡ Err r → x ≡ next
    → x ≡ or_else file m next
else_none file next e q = q ∙ sym (ap (λ (m : Result ℕ Refusal). or_else file m next) e)
