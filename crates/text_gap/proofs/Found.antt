-- A byte that is looked for in the rest of a text: what the search answers is where a scan of places ends. Assumes nothing.
use Prim.Native.Nat.{ℕ, ◌+◌, ◌-◌, ◌≤◌}
use mathlib.Core.Bool.{Bool, true, false, not}
use mathlib.Core.List.{List}
use mathlib.Core.Path.{◌≡◌, refl, sym, ap, ◌∙◌}
use native.Mathlib.Omega.{arith}
use lib.ListN.{length, get_or, take, drop, length-drop}
use lib.Seq.{take_all}
use Rattle.std.proofs.lemmas.List.{get_or-drop}
use Rattle.memchr.specs.Find.{Nowhere, NoneBefore, Passes}
use Rattle.text_byte.specs.Spans.{span_end}
use Rattle.text_byte.proofs.Spans.{span_found, span_all}

fails : (x : Bool) → ¬ (x ≡ true) → not x ≡ true
fails true h = absurd (h refl)
fails false h = refl

module _ (test : ℕ → Bool) (text : List ℕ) (from : ℕ) (inside : from ≤ length text) where
  abbrev rest : List ℕ
  rest = take (length text - from) (drop from text)

  abbrev other : ℕ → Bool
  other i = not (test (get_or text i 0))

  -- a byte of the rest is one of the text
  whole : rest ≡ drop from text
  whole = let l = length-drop from text in take_all (length text - from) (drop from text) (omega (arith, l))

  long : length rest ≡ length text - from
  long = ap length whole ∙ length-drop from text

  there : (k : ℕ) → test (get_or rest k 0) ≡ test (get_or text (from + k) 0)
  there k = ap (λ (xs : List ℕ). test (get_or xs k 0)) whole ∙ ap test (get_or-drop from text k 0)

  passed : (k : ℕ) → ¬ Passes test rest k → other (from + k) ≡ true
  passed k h = ap not (sym (there k)) ∙ fails (test (get_or rest k 0)) h

  pub found : {i : ℕ} → NoneBefore (Passes test rest) 0 (length rest) i → Passes test rest i → from + i ≡ span_end other from (length text - from)
  found {i} first here =
      let l = long in
      let h = first.high in
      sym (span_found other (length text - from) from i (λ k b. passed k (first.before k (omega arith) b)) (omega (arith, l, h))
      (ap not (sym (there i) ∙ here)))

  pub missed : Nowhere (Passes test rest) 0 (length rest) → length text ≡ span_end other from (length text - from)
  missed none =
      let l = long in
      let end : from + (length text - from) ≡ length text = omega (arith, inside) in
      sym (span_all other (length text - from) from (λ j a b.
      let at : from + (j - from) ≡ j = omega (arith, a) in
      ap other (sym at) ∙ passed (j - from) (none (j - from) (omega arith) (omega (arith, l, a, b)))) ∙ end)
