-- What is answered of the list and of the node graph, by what led there. Assumes nothing.
use Prim.Native.Nat.{ℕ, ◌≤◌}
use mathlib.Core.Bool.{Bool, true, false, ◌&&◌, not}
use mathlib.Core.List.{List}
use mathlib.Core.Path.{◌≡◌, refl, sym, ap, ◌∙◌}
use native.Mathlib.Omega.{arith}
use borrow.Author.Tests.{eq-eqb, ne_eqb, not-true}
use lib.ListN.{length}
use Rattle.refusal.specs.declared.Refusal.{Refusal}
use Rattle.refusal.specs.declared.Refusal.TheVariants.{NodeLoop, NodeShared, RenumberNodes, RenumberLength}
use Rattle.refusal.specs.Checks.{Check}
use Rattle.std.specs.Prelude.{Result, Ok, Err}
use Rattle.refusal.specs.Checks.{unless}
use Rattle.refusal.proofs.Checks.{both, refused-then, pass_then, same_test}
use Rattle.node_route.specs.declared.GraphError.{GraphError}
use Rattle.node_route.specs.declared.GraphError.TheVariants.{HasLoop, HasShared}
use Rattle.node_route.specs.Heights.{repeats, graph_verdict}
use Rattle.node_route.specs.Reach.{reached_nodes}
use Rattle.node_graph.specs.Searching.{Searchable}
use Rattle.renumber_order.specs.Orders.{late_check, many_ok, once_ok, renumber_check}
use Rattle.renumber_order.specs.Places.{marked_ok, marked_below, all_marked, PlacesHeld, Emptied, Filled}
use Rattle.renumber_order.specs.Judging.{Marks, Ordered, OrderJudged, RenumberJudged, graph_check, renumber_graph_check}
use Rattle.renumber_order.proofs.Marks.{marked-is, is-marked, below-few}
use Rattle.renumber_order.proofs.Marking.{marks-many, all-marked}
use Rattle.renumber_order.proofs.FirstPlaces.{placed-none, all-places}

-- a refusal does not pass
refused-passes : {X : Type 0} {r : Refusal} → ◌≡◌ {A = Check} (Err r) (Ok tt) → X
refused-passes e = let z : ◌≡◌ {A = ℕ} 0 1 = cc in absurd (omega arith)

-- ---- the list

module _ (nodes : List ℕ) (count : ℕ) (words order : List ℕ) (room : ℕ) (g : Searchable nodes count words) (m : Marks nodes count words) where
  -- 73
  pub judged-length : (length order ≡ length (marked_below words count) → ⊥) → (last : List ℕ)
      → OrderJudged nodes count order room last (Err RenumberLength)
  judged-length n last =
      record {
        tells = refused-then _
            (ap (λ (b : Bool). unless b RenumberLength)
            (ne_eqb (length order) (length (reached_nodes nodes)) (λ (q : length order ≡ length (reached_nodes nodes)). n (q ∙ sym (marks-many nodes count words m)))));
        ordered = λ e. refused-passes e;
      }

  module _ (long : length order ≡ length (marked_below words count)) (empty : List ℕ) (e : Emptied count words empty) where
    pub order-few : length order ≤ 32767
    order-few = omega (arith, below-few words count, g.most)

    pub held_none : PlacesHeld order 0 empty count
    held_none v l = e.places v l ∙ sym (placed-none order v)

    length-passes : unless (many_ok nodes order) RenumberLength ≡ Ok tt
    length-passes =
        ap (λ (b : Bool). unless b RenumberLength)
        (eq-eqb (length order) (length (reached_nodes nodes)) (long ∙ marks-many nodes count words m))

    -- the marks are still those of the reached nodes
    marks_emptied : Marks nodes count empty
    marks_emptied =
        record {
          says = λ v.
              m.says v
              ∙ same_test (marked_ok words count v) (marked_ok empty count v)
              (λ t. let p = marked-is words count v t in is-marked empty count v p.0 (λ q. p.1 (sym (e.marks v p.0) ∙ q)))
              (λ t. let p = marked-is empty count v t in is-marked words count v p.0 (λ q. p.1 (e.marks v p.0 ∙ q)));
          once = m.once;
        }

    once-says : {after : List ℕ} {b : Bool} → Filled count empty order after b → b ≡ once_ok nodes order
    once-says f = f.tells ∙ ap (λ (t : Bool). t && not (repeats order)) (sym (all-marked nodes count empty marks_emptied order))

    -- 70
    pub judged_nodes : {after : List ℕ} → Filled count empty order after false → (last : List ℕ)
        → OrderJudged nodes count order room last (Err RenumberNodes)
    judged_nodes f last =
        record {
          tells = pass_then length-passes (refused-then _ (ap (λ (b : Bool). unless b RenumberNodes) (sym (once-says f))));
          ordered = λ q. refused-passes q;
        }

    module _ (after : List ℕ) (same : length after ≡ length words) (f : Filled count empty order after true) where
      pub ordered_filled : Ordered nodes count after order
      ordered_filled =
          let p = both (all_marked empty count order) (not (repeats order)) (sym f.tells) in
          record {
            whole = g.whole;
            least = g.least;
            enough = omega (arith, g.enough);
            in_range = g.in_range;
            few = order-few;
            low = λ i l. (marked-is empty count _ (all-places empty count order p.0 i l)).0;
            once = not-true (repeats order) p.1;
            places = f.holds refl;
          }

      -- 72, 71 and 74
      pub judged_late : {a : Check} → a ≡ late_check nodes order room → OrderJudged nodes count order room after a
      judged_late q =
          record {
            tells = pass_then length-passes (pass_then (ap (λ (b : Bool). unless b RenumberNodes) (sym (once-says f))) q);
            ordered = λ _. ordered_filled;
          }

-- ---- the graph and the list

module _ (nodes : List ℕ) (count : ℕ) (order : List ℕ) (room : ℕ) where
  by_graph : {graph : Result ℕ GraphError} → graph_verdict nodes ≡ graph → graph_check graph nodes order room ≡ renumber_graph_check nodes order room
  by_graph e = ap (λ (graph : Result ℕ GraphError). graph_check graph nodes order room) (sym e)

  pub judged-loop : graph_verdict nodes ≡ Err HasLoop → (last : List ℕ) → RenumberJudged nodes count order room last (Err NodeLoop)
  judged-loop e last = record { tells = by_graph e; ordered = λ q. refused-passes q }

  pub judged-shared : graph_verdict nodes ≡ Err HasShared → (last : List ℕ) → RenumberJudged nodes count order room last (Err NodeShared)
  judged-shared e last = record { tells = by_graph e; ordered = λ q. refused-passes q }

  pub judged-order : {depth : ℕ} → graph_verdict nodes ≡ Ok depth → {last : List ℕ} {a : Check}
      → OrderJudged nodes count order room last a → RenumberJudged nodes count order room last a
  judged-order e j = record { tells = j.tells ∙ by_graph e; ordered = j.ordered }

  -- a graph that passes leaves the list
  pub graph_passes : (graph : Result ℕ GraphError) → graph_check graph nodes order room ≡ Ok tt → renumber_check nodes order room ≡ Ok tt
  graph_passes (Err HasLoop) e = refused-passes e
  graph_passes (Err HasShared) e = refused-passes e
  graph_passes (Ok depth) e = e
