-- Where the verdict is a depth, the descent of every point is its plain walk, and no longer than the depth. Assumes nothing.
use Prim.Native.Nat.{ℕ, ◌+◌, ◌*◌, ◌%◌, ◌≤◌, ◌<◌}
use mathlib.Core.Bool.{Bool, true, false, ◌||◌}
use mathlib.Core.List.{List}
use mathlib.Core.Path.{◌≡◌, refl, ap, ◌∙◌}
use native.Mathlib.Decide.{dec_lt}
use native.Mathlib.Omega.{arith}
use borrow.Author.Tests.{lt-ltb, le-leb, eq-eqb}
use lib.Dec.{ltb, eqb}
use lib.IntN.{ℤ}
use lib.ListN.{length}
use Rattle.record.specs.Nodes.{node_size}
use Rattle.std.specs.Prelude.{Ok}
use Rattle.node.specs.Nodes.{nodes_of, root}
use Rattle.node_descent.specs.Walks.{nodes_ok, subsectors_ok}
use Rattle.node_route.specs.Heights.{graph_verdict}
use Rattle.node_descent.specs.Promises.{Descends}
use Rattle.node.proofs.Nodes.{ChildrenInRange, root-node}
use Rattle.node_route.proofs.Verdict.{depth_verdict}
use Rattle.node_descent.proofs.Walks.{found_at, walk-only, descent-root, finds}

-- a NODES lump and a count of subsectors that have passed every check before the graph's
pub record Passed (nodes : List ℕ) (subsectors : ℕ) : Type 0 where
  pub whole : node_size * nodes_of nodes ≡ length nodes
  pub few : nodes_of nodes ≤ 32767
  pub least : 1 ≤ subsectors
  pub most : subsectors ≤ 32767
  pub alone : nodes_of nodes ≡ 0 → subsectors ≡ 1
  pub in_range : ChildrenInRange nodes subsectors

-- where the verdict is a depth, every point descends
abbrev pub DescentHolds : List ℕ → ℕ → Type 0
DescentHolds nodes subsectors =
    Passed nodes subsectors → (depth : ℕ) → graph_verdict nodes ≡ Ok depth
    → (x y : ℤ) → Descends nodes subsectors x y depth

alone_ok_lem : (count subsectors : ℕ) → (count ≡ 0 → subsectors ≡ 1) → (ltb 0 count || eqb subsectors 1) ≡ true
alone_ok_lem count subsectors one = by (dec_lt 0 count)
  where
    by : Dec (0 < count) → (ltb 0 count || eqb subsectors 1) ≡ true
    by (yes h) = rw (lt-ltb 0 count h)
    by (no h) =
        let e : subsectors ≡ 1 = one (omega arith) in
        rw (eq-eqb subsectors 1 e) (either (ltb 0 count))
      where
        either : (b : Bool) → (b || true) ≡ true
        either true = refl
        either false = refl

module _ (nodes : List ℕ) (subsectors : ℕ) where
  pub nodes_ok_lem : Passed nodes subsectors → nodes_ok nodes ≡ true
  nodes_ok_lem p =
      let whole = p.whole in
      let even : length nodes % 28 ≡ 0 = omega arith in
      rw (eq-eqb (length nodes % 28) 0 even, le-leb (nodes_of nodes) 32767 p.few)

  pub subsectors_ok_lem : Passed nodes subsectors → subsectors_ok (nodes_of nodes) subsectors ≡ true
  subsectors_ok_lem p =
      rw (le-leb 1 subsectors p.least, le-leb subsectors 32767 p.most) (alone_ok_lem (nodes_of nodes) subsectors p.alone)

  pub descent-holds : DescentHolds nodes subsectors
  descent-holds p depth e x y =
      let (off, alone, is) = depth_verdict nodes e in
      let f =
      finds nodes subsectors x y p.in_range (nodes_of nodes) 0 (root (nodes_of nodes))
      (root-node (nodes_of nodes)) off in
      let none : 0 + f.passed ≡ f.passed = omega arith in
      record {
        subsector = f.subsector;
        count = f.passed;
        found = descent-root nodes subsectors x y (nodes_ok_lem p) (subsectors_ok_lem p) ∙ f.found ∙ ap (found_at f.subsector) none;
        walk = f.walk;
        only = λ s k w. walk-only nodes x y f.walk w;
        shallow = rw is at f.low;
      }
