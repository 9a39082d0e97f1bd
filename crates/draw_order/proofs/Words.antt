-- Laws of what a walk leaves in the words: two walks one behind the other, and a whole list in the words that were lent.
-- Assumes nothing.
use Prim.Native.Nat.{ℕ, suc, ◌+◌}
use mathlib.Core.Bool.{true, false}
use mathlib.Core.List.{List, [], ◌∷◌, ◌++◌, append_assoc}
use mathlib.Core.Path.{◌≡◌, refl, sym, ap, ◌∙◌, subst}
use native.Mathlib.Omega.{arith}
use lib.IntN.{ℤ}
use lib.ListN.{length, length-append, set, take, drop, take-append-drop}
use lib.Seq.{sets, length-sets, sets-eq, drop-append-le}
use Rattle.refusal.specs.declared.Refusal.{Refusal}
use Rattle.std.specs.Prelude.{Result, Ok, Err}
use Rattle.std.specs.Result.{is_err}
use Rattle.node.specs.Nodes.{nodes_of}
use Rattle.node_graph.specs.Judging.{cleared}
use Rattle.draw_order.specs.Lists.{Listing, listed, stopped, in_front, joined, root_order, order_check, draw_order}
use Rattle.draw_order.specs.Promises.{order_answer, words_after_listing, Drawn}
use Rattle.draw_order.specs.Inner.{Walked}

-- ---- two walks

sets_append : (words : List ℕ) (at : ℕ) (xs ys : List ℕ) → sets words at (xs ++ ys) ≡ sets (sets words at xs) (at + length xs) ys
sets_append words at [] ys = let e : at ≡ at + 0 = omega arith in ap (λ (n : ℕ). sets words n ys) e
sets_append words at (x ∷ xs) ys =
    let e : suc at + length xs ≡ at + suc (length xs) = omega arith in
    sets_append (set words at x) (suc at) xs ys ∙ ap (λ (n : ℕ). sets (sets (set words at x) (suc at) xs) n ys) e

pub walked_by : (at : ℕ) (before : List ℕ) (answer : Result ℕ Refusal) (after : List ℕ) {l l' : Listing} → l ≡ l'
    → Walked l at before answer after → Walked l' at before answer after
walked_by at before answer after e w = subst (λ (l : Listing). Walked l at before answer after) e w

module _ (at : ℕ) (before middle after : List ℕ) (next : ℕ → Listing) where
  -- the first walk is refused
  pub walked-refused : (first : Listing) (r : Refusal) → Walked first at before (Err r) middle
      → Walked (joined at first next) at before (Err r) after
  walked-refused (listed xs) r w = let e = w.0 in let z : ◌≡◌ {A = ℕ} 0 1 = cc in absurd (omega arith)
  walked-refused (stopped s) r w = w

  behind : (xs : List ℕ) (l : Listing) (answer : Result ℕ Refusal) → middle ≡ sets before at xs
      → Walked l (at + length xs) middle answer after → Walked (in_front xs l) at before answer after
  behind xs (listed ys) answer m w =
      let long : at + length xs + length ys ≡ at + length (xs ++ ys) = (let l = length-append xs ys in omega arith) in
      let same : length middle ≡ length before = ap length m ∙ length-sets before at xs in (
        w.0 ∙ ap Ok long,
        w.1 ∙ ap (λ (words : List ℕ). sets words (at + length xs) ys) m ∙ sym (sets_append before at xs ys),
        (let room = w.2 in omega arith),
      )
  behind xs (stopped s) answer m w = w

  -- the second walk begins where the first ends
  pub walked-joined : (first : Listing) (n : ℕ) (answer : Result ℕ Refusal) → Walked first at before (Ok n) middle
      → Walked (next n) n middle answer after → Walked (joined at first next) at before answer after
  walked-joined (listed xs) n answer w v =
      let e = w.0 in
      let same : n ≡ at + length xs = cc in
      behind xs (next (at + length xs)) answer w.1
      (subst (λ (m : ℕ). Walked (next m) m middle answer after) same v)
  walked-joined (stopped s) n answer w v = let z : ◌≡◌ {A = ℕ} 0 1 = cc in absurd (omega arith)

-- ---- the words that were lent

-- a list in the first `used` words is in front of all that it leaves as found
walked-listed : (nodes words front : List ℕ) (used n : ℕ) (l : Listing) → Walked l 0 (take used words) (Ok n) front
    → (Ok n ≡ order_answer l) × (front ++ drop used words ≡ words_after_listing nodes l words)
walked-listed nodes words front used n (listed xs) w =
    let (is, written, room) = w in
    let none : 0 + length xs ≡ length xs = omega arith in
    let first = take used words in
    let rest = drop used words in (
      is ∙ ap Ok none,
      ap (λ (l : List ℕ). l ++ rest) (written ∙ sets-eq xs first 0 room ∙ ap (λ (k : ℕ). xs ++ drop k first) none)
          ∙ append_assoc xs (drop (length xs) first) rest
          ∙ ap (λ (l : List ℕ). xs ++ l)
          (sym (drop-append-le (length xs) first rest (omega arith)) ∙ ap (drop (length xs)) (take-append-drop used words)),
    )
walked-listed nodes words front used n (stopped r) w = let z : ◌≡◌ {A = ℕ} 0 1 = cc in absurd (omega arith)

walked-stopped : (nodes words before front : List ℕ) (l : Listing) (r : Refusal) → Walked l 0 before (Err r) front
    → (Err r ≡ order_answer l) × (cleared words (nodes_of nodes + 1) ≡ words_after_listing nodes l words)
walked-stopped nodes words before front (listed xs) r w = let e = w.0 in let z : ◌≡◌ {A = ℕ} 0 1 = cc in absurd (omega arith)
walked-stopped nodes words before front (stopped s) r w = (w, refl)

-- what a walk in the first `used` words leaves in all of them: as it is where it answers, and cleared where it is refused
module _ (nodes words front : List ℕ) (used : ℕ) (l : Listing) where
  pub walked-kept : (answer : Result ℕ Refusal) → is_err answer ≡ false → Walked l 0 (take used words) answer front
      → (answer ≡ order_answer l) × (front ++ drop used words ≡ words_after_listing nodes l words)
  walked-kept (Ok n) e w = walked-listed nodes words front used n l w
  walked-kept (Err r) e w = let z : ◌≡◌ {A = ℕ} 0 1 = cc in absurd (omega arith)

  pub walked-cleared : (answer : Result ℕ Refusal) → is_err answer ≡ true → Walked l 0 (take used words) answer front
      → (answer ≡ order_answer l) × (cleared words (nodes_of nodes + 1) ≡ words_after_listing nodes l words)
  walked-cleared (Ok n) e w = let z : ◌≡◌ {A = ℕ} 0 1 = cc in absurd (omega arith)
  walked-cleared (Err r) e w = walked-stopped nodes words (take used words) front l r w

module _ (nodes : List ℕ) (subsectors : ℕ) (x y : ℤ) (words : List ℕ) where
  -- 40, 41 and 45 leave them as found
  pub drawn-refused : {r : Refusal} → order_check nodes subsectors (length words) ≡ Err r
      → Drawn nodes subsectors x y words (Err r) words
  unfolding draw_order
  drawn-refused e = record { answers = rw e; leaves = rw e }

  pub drawn_passed : {answer : (Result ℕ Refusal)} {after : List ℕ} → order_check nodes subsectors (length words) ≡ Ok tt
      → answer ≡ order_answer (root_order nodes subsectors x y) → after ≡ words_after_listing nodes (root_order nodes subsectors x y) words
      → Drawn nodes subsectors x y words answer after
  unfolding draw_order
  drawn_passed e a w = record { answers = rw e a; leaves = rw e w }
