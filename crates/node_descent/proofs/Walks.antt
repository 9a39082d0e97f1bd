-- Laws of the plain walk and of the descent from a word: its four cases, as the code meets them, and what it finds where no
-- list of choices is left standing. Assumes nothing.
use Prim.Native.Nat.{ℕ, zero, suc, ◌+◌, ◌-◌, ◌*◌, ◌%◌, ◌≤◌, ◌<◌, zero-le, suc-le-suc}
use mathlib.Core.Bool.{true, false}
use mathlib.Core.List.{List}
use mathlib.Core.Logic.{⊎_elim}
use mathlib.Core.Path.{◌≡◌, refl, sym, ap, ◌∙◌}
use native.Mathlib.Nat.{le_trans}
use native.Mathlib.Omega.{arith}
use borrow.Author.Tests.{eqb-true, ltb-false, lt-ltb, le-ltb}
use lib.IntN.{ℤ}
use lib.ListN.{length}
use Rattle.refusal.proofs.Checks.{both}
use Rattle.refusal.specs.declared.Refusal.TheVariants.{DescentNodes, DescentSubsectors, DescentChild, DescentLoop}
use Rattle.node.specs.declared.Choice.{Choice}
use Rattle.node_descent.specs.declared.Descent.{Descent}
use Rattle.refusal.specs.declared.Refusal.{Refusal}
use Rattle.std.specs.Prelude.{Result, Ok, Err}
use Rattle.node.specs.Nodes.{nodes_of, subsector_bit, root, child_of, child_ok}
use Rattle.node_route.specs.Heights.{stands, height}
use Rattle.node_descent.specs.Side.{side_at, chosen}
use Rattle.node_descent.specs.Walks.{Walk, ends, goes, end_at, descent_from, nodes_ok, subsectors_ok, descent}
use Rattle.node.proofs.Choices.{le_larger}
use Rattle.node.proofs.Nodes.{ChildrenInRange, child_ok-node}
use Rattle.node_route.proofs.Heights.{node_or_end, stands-none, stands_child, height-node}

-- a descent that ends at a subsector, with the count of nodes passed
abbrev pub found_at : ℕ → ℕ → Result Descent Refusal
found_at subsector count = Ok (record { subsector = subsector; count = count })

module _ (nodes : List ℕ) (x y : ℤ) where
  -- a walk has one end and one count
  pub walk-only : {w s k t l : ℕ} → Walk nodes x y w s k → Walk nodes x y w t l → (t ≡ s) × (l ≡ k)
  walk-only (ends e) (ends f) = (omega arith, refl)
  walk-only (ends e) (goes h g) = absurd (omega arith)
  walk-only (goes h g) (ends f) = absurd (omega arith)
  walk-only (goes h g) (goes k f) = let (s, n) = walk-only g f in (s, ap suc n)

-- a lump that passes its test is of whole nodes
pub nodes_ok-whole : (nodes : List ℕ) → nodes_ok nodes ≡ true → 28 * nodes_of nodes ≡ length nodes
nodes_ok-whole nodes e =
    let even = eqb-true (length nodes % 28) 0 (both _ _ e).0 in
    omega arith

module _ (nodes : List ℕ) (subsectors : ℕ) (x y : ℤ) where
  -- ---- the cases

  pub descent-end : (more count w : ℕ) → subsector_bit ≤ w
      → descent_from nodes subsectors x y more count w ≡ Ok (end_at w count)
  unfolding descent_from
  descent-end zero count w h = rw (le-ltb w subsector_bit h)
  descent-end (suc more) count w h = rw (le-ltb w subsector_bit h)

  pub descent-loop : (count w : ℕ) → w < subsector_bit → descent_from nodes subsectors x y 0 count w ≡ Err DescentLoop
  unfolding descent_from
  descent-loop count w h = rw (lt-ltb w subsector_bit h)

  pub descent_child : (more count w : ℕ) → w < subsector_bit
      → child_ok (nodes_of nodes) subsectors (chosen nodes x y w) ≡ false
      → descent_from nodes subsectors x y (suc more) count w ≡ Err (DescentChild w)
  unfolding descent_from
  descent_child more count w h e = rw (lt-ltb w subsector_bit h, e)

  pub descent-goes : (more count w : ℕ) → w < subsector_bit
      → child_ok (nodes_of nodes) subsectors (chosen nodes x y w) ≡ true
      → descent_from nodes subsectors x y (suc more) count w
      ≡ descent_from nodes subsectors x y more (count + 1) (chosen nodes x y w)
  unfolding descent_from
  descent-goes more count w h e = rw (lt-ltb w subsector_bit h, e)

  pub descent_nodes : nodes_ok nodes ≡ false → descent nodes subsectors x y ≡ Err DescentNodes
  unfolding descent
  descent_nodes n = rw n

  pub descent-subsectors : nodes_ok nodes ≡ true → subsectors_ok (nodes_of nodes) subsectors ≡ false
      → descent nodes subsectors x y ≡ Err DescentSubsectors
  unfolding descent
  descent-subsectors n s = rw (n, s)

  pub descent-root : nodes_ok nodes ≡ true → subsectors_ok (nodes_of nodes) subsectors ≡ true
      → descent nodes subsectors x y ≡ descent_from nodes subsectors x y (nodes_of nodes) 0 (root (nodes_of nodes))
  unfolding descent
  descent-root n s = rw (n, s)

  -- ---- the code's loop, whose answer `d` is the descent with the choices that are left

  module _ (count passed w : ℕ) {d : Result Descent Refusal} (whole : descent_from nodes subsectors x y (count - passed) passed w ≡ d) where
    pub loop_end : subsector_bit ≤ w → ◌≡◌ {A = Result Descent Refusal} (Ok (end_at w passed)) d
    loop_end h = sym (descent-end (count - passed) passed w h) ∙ whole

    pub loop_refused : count ≤ passed → w < subsector_bit → ◌≡◌ {A = Result Descent Refusal} (Err DescentLoop) d
    loop_refused h node =
        let none : count - passed ≡ 0 = omega arith in
        sym (descent-loop passed w node) ∙ (rw none at whole)

    module _ (h : passed < count) (node : w < subsector_bit) where
      pub turn_child : child_ok (nodes_of nodes) subsectors (chosen nodes x y w) ≡ false
          → ◌≡◌ {A = Result Descent Refusal} (Err (DescentChild w)) d
      turn_child bad =
          let more : count - passed ≡ suc (count - (passed + 1)) = omega arith in
          sym (descent_child (count - (passed + 1)) passed w node bad) ∙ (rw more at whole)

      pub turn_goes : child_ok (nodes_of nodes) subsectors (chosen nodes x y w) ≡ true
          → descent_from nodes subsectors x y (count - (passed + 1)) (passed + 1) (chosen nodes x y w) ≡ d
      turn_goes ok =
          let more : count - passed ≡ suc (count - (passed + 1)) = omega arith in
          sym (descent-goes (count - (passed + 1)) passed w node ok) ∙ (rw more at whole)

  -- ---- the walk, where the choices run out

  -- the descent finds the walk's end, and the walk is no longer than the height
  pub record Finds (more count w : ℕ) : Type 0 where
    pub subsector : ℕ
    pub passed : ℕ
    pub found : descent_from nodes subsectors x y more count w ≡ found_at subsector (count + passed)
    pub walk : Walk nodes x y w subsector passed
    pub low : passed ≤ height nodes more w

  finds_end : (more count w : ℕ) → subsector_bit ≤ w → Finds more count w
  finds_end more count w h =
      let none : count ≡ count + 0 = omega arith in
      let back : w ≡ subsector_bit + (w - subsector_bit) = omega arith in
      record {
        subsector = w - subsector_bit;
        passed = 0;
        found = descent-end more count w h ∙ ap (found_at (w - subsector_bit)) none;
        walk = ends back;
        low = zero-le;
      }

  finds_goes : (more count w : ℕ) → w < subsector_bit → child_ok (nodes_of nodes) subsectors (chosen nodes x y w) ≡ true
      → Finds more (count + 1) (chosen nodes x y w) → Finds (suc more) count w
  finds_goes more count w h e f =
      let one : count + 1 + f.passed ≡ count + suc f.passed = omega arith in
      let larger = le_larger (λ (c : Choice). height nodes more (child_of nodes w c)) (side_at nodes x y w) in
      record {
        subsector = f.subsector;
        passed = suc f.passed;
        found = descent-goes more count w h e ∙ f.found ∙ ap (found_at f.subsector) one;
        walk = goes h f.walk;
        low = rw (height-node nodes more h) (suc-le-suc (le_trans f.low larger));
      }

  module _ (in_range : ChildrenInRange nodes subsectors) where
    pub finds : (more count w : ℕ) → (w < subsector_bit → w < nodes_of nodes) → stands nodes more w ≡ false
        → Finds more count w
    finds zero count w r e = finds_end zero count w (ltb-false w subsector_bit (sym (stands-none nodes w) ∙ e))
    finds (suc more) count w r e =
        ⊎_elim
        (λ (h : w < subsector_bit).
        let ok = in_range w (r h) (side_at nodes x y w) in
        let next = child_ok-node (nodes_of nodes) subsectors (chosen nodes x y w) ok in
        finds_goes more count w h ok
        (finds more (count + 1) (chosen nodes x y w) next (stands_child nodes more h e (side_at nodes x y w))))
        (λ (h : subsector_bit ≤ w). finds_end (suc more) count w h)
        (node_or_end w)
