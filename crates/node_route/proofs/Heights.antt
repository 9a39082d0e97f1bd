-- The tests that compute are those that lists of choices define: `stands` finds a list that is still on a node, and where
-- none is, `height` is the length of the longest that ends at a subsector. Assumes nothing.
use Prim.Native.Nat.{ℕ, zero, suc, max, ◌≤◌, ◌<◌, zero-le, suc-le-suc}
use mathlib.Core.Bool.{Bool, true, false, ◌&&◌, ◌||◌, cond}
use mathlib.Core.List.{List, [], ◌∷◌}
use mathlib.Core.Path.{◌≡◌, refl, sym, ap, ◌∙◌}
use mathlib.Core.Logic.{◌⊎◌, inl, inr, ⊎_elim}
use native.Mathlib.Decide.{dec_le}
use native.Mathlib.Nat.{le_trans, lt_of_not-le}
use native.Mathlib.Omega.{arith}
use borrow.Author.Tests.{ltb-true, ltb-false, lt-ltb, le-ltb}
use lib.ListN.{length}
use Rattle.refusal.proofs.Checks.{both}
use Rattle.node.specs.declared.Choice.{Choice}
use Rattle.node.specs.declared.Choice.TheVariants.{Right, Left}
use Rattle.node.specs.Nodes.{subsector_bit, is_node, child_of}
use Rattle.node_route.specs.Routes.{Follow}
use Rattle.node_route.specs.Heights.{stands, height}
use Rattle.node.proofs.Choices.{some_choice, choice_some, no_choice, choice_none, le_larger, larger_is}

-- a list of `k` choices from `w`, and the word that it leads to
pub record Made (nodes : List ℕ) (w k : ℕ) : Type 0 where
  pub choices : List Choice
  pub many : length choices ≡ k
  pub stand : ℕ
  pub leads : Follow nodes w choices stand

pub node_or_end : (w : ℕ) → (w < subsector_bit) ⊎ (subsector_bit ≤ w)
node_or_end w = by (dec_le subsector_bit w)
  where
    by : Dec (subsector_bit ≤ w) → (w < subsector_bit) ⊎ (subsector_bit ≤ w)
    by (yes h) = inr h
    by (no h) = inl (lt_of_not-le h)

module _ (nodes : List ℕ) where
  -- ---- one choice more

  pub stands-none : (w : ℕ) → stands nodes 0 w ≡ is_node w
  unfolding stands
  stands-none w = refl

  stands-more : (k w : ℕ)
      → stands nodes (suc k) w
      ≡ (is_node w && (stands nodes k (child_of nodes w Right) || stands nodes k (child_of nodes w Left)))
  unfolding stands
  stands-more k w = refl

  height-more : (k w : ℕ)
      → height nodes (suc k) w
      ≡ cond (is_node w) (suc (max (height nodes k (child_of nodes w Right)) (height nodes k (child_of nodes w Left)))) 0
  unfolding height
  height-more k w = refl

  pub height-none : (w : ℕ) → height nodes 0 w ≡ 0
  unfolding height
  height-none w = refl

  -- ---- at a node

  pub stands-node : (k : ℕ) {w : ℕ} → w < subsector_bit → (c : Choice) → stands nodes k (child_of nodes w c) ≡ true
      → stands nodes (suc k) w ≡ true
  stands-node k {w} h c e =
      rw (stands-more k w, lt-ltb w subsector_bit h) (choice_some (λ c. stands nodes k (child_of nodes w c)) c e)

  pub stands-not : (k w : ℕ) → ((c : Choice) → stands nodes k (child_of nodes w c) ≡ false)
      → stands nodes (suc k) w ≡ false
  stands-not k w e =
      rw (stands-more k w, choice_none (λ c. stands nodes k (child_of nodes w c)) e) (nothing (is_node w))
    where
      nothing : (b : Bool) → (b && false) ≡ false
      nothing true = refl
      nothing false = refl

  pub stands_child : (k : ℕ) {w : ℕ} → w < subsector_bit → stands nodes (suc k) w ≡ false → (c : Choice)
      → stands nodes k (child_of nodes w c) ≡ false
  stands_child k {w} h e =
      no_choice (λ c. stands nodes k (child_of nodes w c)) (rw (stands-more k w, lt-ltb w subsector_bit h) at e)

  pub height-node : (k : ℕ) {w : ℕ} → w < subsector_bit
      → height nodes (suc k) w ≡ suc (max (height nodes k (child_of nodes w Right)) (height nodes k (child_of nodes w Left)))
  height-node k {w} h = rw (height-more k w, lt-ltb w subsector_bit h)

  -- ---- at a subsector

  pub stands-end : (k : ℕ) {w : ℕ} → subsector_bit ≤ w → stands nodes k w ≡ false
  stands-end zero {w} h = rw (stands-none w) (le-ltb w subsector_bit h)
  stands-end (suc k) {w} h = rw (stands-more k w, le-ltb w subsector_bit h)

  pub height-end : (k : ℕ) {w : ℕ} → subsector_bit ≤ w → height nodes k w ≡ 0
  height-end zero {w} h = height-none w
  height-end (suc k) {w} h = rw (height-more k w, le-ltb w subsector_bit h)

  -- ---- lists of choices

  pub stands_made : (k w : ℕ) → stands nodes k w ≡ true → (m : Made nodes w k) × (m.stand < subsector_bit)
  stands_made zero w e =
      (record { choices = []; many = refl; stand = w; leads = refl }, ltb-true w subsector_bit (sym (stands-none w) ∙ e))
  stands_made (suc k) w e =
      let parts = both (is_node w) _ (sym (stands-more k w) ∙ e) in
      let way = some_choice (λ c. stands nodes k (child_of nodes w c)) parts.1 in
      let (m, on) = stands_made k (child_of nodes w way.0) way.1 in (
        record {
          choices = way.0 ∷ m.choices;
          many = ap suc m.many;
          stand = m.stand;
          leads = (ltb-true w subsector_bit parts.0, m.leads);
        },
        on,
      )

  pub made_stands : (cs : List Choice) (w : ℕ) {v : ℕ} → Follow nodes w cs v → v < subsector_bit
      → stands nodes (length cs) w ≡ true
  made_stands [] w {v} f h = rw (stands-none w, f) (lt-ltb v subsector_bit h)
  made_stands (c ∷ cs) w f h = stands-node (length cs) f.0 c (made_stands cs (child_of nodes w c) f.1 h)

  pub height_made : (k w : ℕ) → stands nodes k w ≡ false → (m : Made nodes w (height nodes k w)) × (subsector_bit ≤ m.stand)
  height_made zero w e = (
    record { choices = []; many = sym (height-none w); stand = w; leads = refl },
    ltb-false w subsector_bit (sym (stands-none w) ∙ e),
  )
  height_made (suc k) w e =
      ⊎_elim
      (λ (h : w < subsector_bit).
      let way = larger_is (λ c. height nodes k (child_of nodes w c)) in
      let (m, end) = height_made k (child_of nodes w way.0) (stands_child k h e way.0) in (
        record {
          choices = way.0 ∷ m.choices;
          many = ap suc (m.many ∙ sym way.1) ∙ sym (height-node k h);
          stand = m.stand;
          leads = (h, m.leads);
        },
        end,
      ))
      (λ (h : subsector_bit ≤ w).
      (record { choices = []; many = sym (height-end (suc k) h); stand = w; leads = refl }, h))
      (node_or_end w)

  pub made_height : (k w : ℕ) → stands nodes k w ≡ false → (cs : List Choice) {v : ℕ} → Follow nodes w cs v
      → subsector_bit ≤ v → length cs ≤ height nodes k w
  made_height k w e [] f h = zero-le
  made_height zero w e (c ∷ cs) f h =
      let end : subsector_bit ≤ w = ltb-false w subsector_bit (sym (stands-none w) ∙ e) in
      let on = f.0 in
      absurd (omega arith)
  made_height (suc k) w e (c ∷ cs) f h =
      let less = made_height k (child_of nodes w c) (stands_child k f.0 e c) cs f.1 h in
      let larger = le_larger (λ c. height nodes k (child_of nodes w c)) c in
      rw (height-node k f.0) (suc-le-suc (le_trans less larger))
