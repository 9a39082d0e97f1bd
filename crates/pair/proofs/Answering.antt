-- What is answered of the pair by what the search found there. Assumes nothing.
use Prim.Native.Nat.{ℕ}
use mathlib.Core.List.{List}
use mathlib.Core.Path.{◌≡◌, refl, sym, ap, ◌∙◌}
use Rattle.refusal.specs.declared.Refusal.{Refusal}
use Rattle.wad.specs.declared.lumps.Entry.{Entry}
use Rattle.std.specs.Prelude.{Result, Ok, Err}
use Rattle.map_check.specs.Verdict.{Verdict, verdict_by, words_after_by, AnsweredAt}
use Rattle.pair.specs.declared.search.PairSearch.{PairSearch}
use Rattle.pair.specs.declared.PairEntry.{PairEntry}
use Rattle.pair.specs.declared.PairVerdict.{PairVerdict}
use Rattle.pair.specs.Search.{file_of, lump_search, map_search}
use Rattle.pair.specs.Answers.{entry_by, entry_of, pair_entry, verdict_of, words_after_search, PairAnswered}

module _ (base patch name : List ℕ) (s : PairSearch) where
  -- a lump's entry
  pub entry-is : {m : Result ℕ Refusal} {a : Result Entry Refusal} → s ≡ lump_search base patch name → s.marker ≡ m
      → a ≡ entry_by (file_of base patch s.file) m
      → ◌≡◌ {A = PairEntry} (record { file = s.file; entry = a }) (pair_entry base patch name)
  entry-is e m q =
      (λ i. record { file = s.file; entry = (q ∙ ap (entry_by (file_of base patch s.file)) (sym m)) i })
      ∙ ap (entry_of base patch) e

  -- a map's verdict
  verdict-is : (words : List ℕ) {m : Result ℕ Refusal} {a : Verdict} → s ≡ map_search base patch name → s.marker ≡ m
      → a ≡ verdict_by (file_of base patch s.file) words m
      → ◌≡◌ {A = PairVerdict} (record { file = s.file; verdict = a }) (verdict_of base patch words (map_search base patch name))
  verdict-is words e m q =
      (λ i. record { file = s.file; verdict = (q ∙ ap (verdict_by (file_of base patch s.file) words) (sym m)) i })
      ∙ ap (verdict_of base patch words) e

  words_are : (words : List ℕ) {m : Result ℕ Refusal} → s ≡ map_search base patch name → s.marker ≡ m
      → words_after_by (file_of base patch s.file) words m ≡ words_after_search base patch words (map_search base patch name)
  words_are words e m = ap (words_after_by (file_of base patch s.file) words) (sym m) ∙ ap (words_after_search base patch words) e

  pub pair_refused : (words : List ℕ) {r : Refusal} → s ≡ map_search base patch name → s.marker ≡ Err r
      → PairAnswered base patch name words (record { file = s.file; verdict = Err r }) words
  pair_refused words e m = record { verdicts = verdict-is words e m refl; leaves = words_are words e m }

  pub pair_judged : (wad words : List ℕ) {i : ℕ} {a : Verdict} {after : List ℕ} → s ≡ map_search base patch name → s.marker ≡ Ok i
      → wad ≡ file_of base patch s.file → AnsweredAt wad i words a after
      → PairAnswered base patch name words (record { file = s.file; verdict = a }) after
  pair_judged wad words {i} e m q g =
      record {
        verdicts = verdict-is words e m (g.verdicts ∙ ap (λ (w : List ℕ). verdict_by w words (Ok i)) q);
        leaves = g.leaves ∙ ap (λ (w : List ℕ). words_after_by w words (Ok i)) q ∙ words_are words e m;
      }
