-- What a look at one child and at both says of the search's state. Assumes nothing.
use Prim.Native.Nat.{ℕ, suc, ◌+◌, ◌≤◌, ◌<◌}
use mathlib.Core.Bool.{Bool, true, false, cond}
use mathlib.Core.List.{List}
use mathlib.Core.Path.{◌≡◌, refl, subst⁻¹}
use native.Mathlib.Omega.{arith}
use borrow.Author.Tests.{ltb-true, ltb-false, eqb-true, eqb-false}
use lib.Dec.{eqb}
use Rattle.node.specs.declared.Choice.{Choice}
use Rattle.node.specs.declared.Choice.TheVariants.{Right, Left}
use Rattle.node_graph.specs.declared.Look.{Look}
use Rattle.node_graph.specs.declared.Look.TheVariants.{New, OnPath, Height}
use Rattle.node.specs.Nodes.{nodes_of, subsector_bit, is_node, child_of}
use Rattle.node_route.specs.Heights.{stands}
use Rattle.node_graph.specs.Looks.{path_mark, mark_of, mark_says, look_at, joined, look_below}
use Rattle.node_graph.specs.Searching.{unmet, Tall, Due, State}
use Rattle.node_graph.proofs.Tall.{tall-end, tall-node}

module _ (nodes : List ℕ) (count : ℕ) (words : List ℕ) (sp : ℕ) where
  -- what a look at the child `w` says
  abbrev Said : ℕ → Look → Type 0
  Said w (New v) = (v ≡ w) × (w < count) × (mark_of words w ≡ 0)
  Said w OnPath = (w < count) × (mark_of words w ≡ path_mark)
  Said w (Height a) = Tall nodes w a × (a + (unmet (mark_of words) count + sp) ≤ count) × (w < subsector_bit → mark_of words w ≡ 0 → ⊥)

  -- what a look at both children of the node `i` says
  abbrev pub SaidBelow : ℕ → Look → Type 0
  SaidBelow i (New v) = (c : Choice) × (v ≡ child_of nodes i c) × (v < count) × (mark_of words v ≡ 0) × Due nodes i c
  SaidBelow i OnPath = (c : Choice) × (child_of nodes i c < count) × (mark_of words (child_of nodes i c) ≡ path_mark) × Due nodes i c
  SaidBelow i (Height h) =
      Tall nodes i (suc h) × (h + (unmet (mark_of words) count + sp) ≤ count)
      × ((c : Choice) → child_of nodes i c < subsector_bit → mark_of words (child_of nodes i c) ≡ 0 → ⊥)

  module _ (s : State nodes count words sp) where
    path_or_height : (w : ℕ) → w < count → eqb (mark_of words w) 0 ≡ false → (b : Bool) → eqb (mark_of words w) path_mark ≡ b
        → Said w (cond b OnPath (Height (mark_of words w)))
    path_or_height w l n true e = (l, eqb-true (mark_of words w) path_mark e)
    path_or_height w l n false e =
        let met = eqb-false (mark_of words w) 0 n in
        let off = eqb-false (mark_of words w) path_mark e in
        (s.tall w l met off, s.low w l met off, λ h. met)

    mark_said : (w : ℕ) → w < count → (b : Bool) → eqb (mark_of words w) 0 ≡ b
        → Said w (cond b (New w) (cond (eqb (mark_of words w) path_mark) OnPath (Height (mark_of words w))))
    mark_said w l true e = (refl, l, eqb-true (mark_of words w) 0 e)
    mark_said w l false e = path_or_height w l e (eqb (mark_of words w) path_mark) refl

    said_by : (w : ℕ) → (w < subsector_bit → w < count) → (b : Bool) → is_node w ≡ b
        → Said w (cond b (mark_says w (mark_of words w)) (Height 0))
    said_by w r true e = mark_said w (r (ltb-true w subsector_bit e)) (eqb (mark_of words w) 0) refl
    said_by w r false e =
        let room = s.room in
        let end = ltb-false w subsector_bit e in
        (tall-end nodes w end, omega arith, λ (h : w < subsector_bit). absurd (omega arith))

    said : (w : ℕ) → (w < subsector_bit → w < count) → Said w (look_at words w)
    said w r = said_by w r (is_node w) refl

    module _ (counted : nodes_of nodes ≡ count) (i : ℕ) (node : i < subsector_bit) where
      due_right : Due nodes i Right
      due_right e = let z : ◌≡◌ {A = ℕ} 0 1 = cc in absurd (omega arith)

      due_left : (a : ℕ) → Said (child_of nodes i Right) (Height a) → Due nodes i Left
      due_left a (t, h, m) e = subst⁻¹ (λ (k : ℕ). stands nodes k (child_of nodes i Right) ≡ false) counted (t count (omega arith)).0

      both_said : (r l : Look) → Said (child_of nodes i Right) r → Said (child_of nodes i Left) l → SaidBelow i (joined r l)
      both_said (New v) l (is, h, e) q = (Right, is, rw is h, rw is e, due_right)
      both_said OnPath l (h, e) q = (Right, h, e, due_right)
      both_said (Height a) (New v) p (is, h, e) = (Left, is, rw is h, rw is e, due_left a p)
      both_said (Height a) OnPath p (h, e) = (Left, h, e, due_left a p)
      both_said (Height a) (Height b) (t, h, m) (u, k, n) = (tall-node nodes i a b node t u, omega arith, by)
        where
          by : (c : Choice) → child_of nodes i c < subsector_bit → mark_of words (child_of nodes i c) ≡ 0 → ⊥
          by Right = m
          by Left = n

      pub said_below : ((c : Choice) → child_of nodes i c < subsector_bit → child_of nodes i c < count)
          → SaidBelow i (look_below nodes words i)
      said_below r =
          both_said (look_at words (child_of nodes i Right)) (look_at words (child_of nodes i Left))
          (said (child_of nodes i Right) (r Right))
          (said (child_of nodes i Left) (r Left))
