-- Laws of marks: after the search they mark the reached nodes, and as many of them as there are. Assumes nothing.
use Prim.Native.Nat.{ℕ}
use mathlib.Core.Bool.{◌&&◌}
use mathlib.Core.List.{List, [], ◌∷◌}
use mathlib.Core.Path.{◌≡◌, refl, sym, ◌∙◌}
use native.Mathlib.Omega.{arith}
use lib.ListN.{length}
use Rattle.refusal.proofs.Checks.{same_test}
use Rattle.std.specs.Prelude.{Ok}
use Rattle.node_route.specs.Heights.{member, graph_verdict}
use Rattle.node_route.specs.Reach.{reached_nodes}
use Rattle.node.proofs.Nodes.{nodes_of-whole}
use Rattle.node_route.proofs.Reach.{nodes_held}
use Rattle.node_route.proofs.Verdict.{depth_verdict}
use Rattle.node_graph.specs.Looks.{mark_of}
use Rattle.node_graph.specs.Searching.{Searchable, Explored}
use Rattle.renumber_order.specs.Orders.{all_among}
use Rattle.renumber_order.specs.Places.{marked_ok, marked_below, all_marked}
use Rattle.renumber_order.specs.Judging.{Marks}
use Rattle.renumber_order.proofs.Members.{as_many}
use Rattle.renumber_order.proofs.Marks.{marked-is, is-marked, below-once, below-says}

module _ (nodes : List ℕ) (count : ℕ) (words : List ℕ) where
  -- as many are marked as are reached
  pub marks-many : Marks nodes count words → length (marked_below words count) ≡ length (reached_nodes nodes)
  marks-many m =
      as_many (marked_below words count) (reached_nodes nodes) (below-once words count) m.once
      (λ v. below-says words count v ∙ sym (m.says v))

  pub all-marked : Marks nodes count words → (order : List ℕ) → all_among order (reached_nodes nodes) ≡ all_marked words count order
  all-marked m [] = refl
  all-marked m (x ∷ xs) = λ i. m.says x i && all-marked m xs i

  module _ (depth : ℕ) (g : Searchable nodes count words) (x : Explored nodes (mark_of words) depth)
      (accepted : graph_verdict nodes ≡ Ok depth) where
    -- the search marks the reached nodes
    pub marks_explored : Marks nodes count words
    marks_explored =
        let (straight, alone, high) = depth_verdict nodes accepted in
        let held = nodes_held nodes straight alone g.in_range in
        let counted = nodes_of-whole nodes count g.whole in
        record {
          says = λ v.
              same_test (member v (reached_nodes nodes)) (marked_ok words count v)
              (λ e. let p = held.only v e in let q = x.every v p.0 p.1 in is-marked words count v (rw counted at q.0) q.1)
              (λ e.
              let p = marked-is words count v e in
              held.every v (x.known v (rw counted p.0) p.1, omega (arith, p.0, g.most)));
          once = held.once;
        }
