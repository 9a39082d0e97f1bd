-- What is answered and written, by what led there. Assumes nothing.
use Rattle.refusal.specs.declared.Refusal.{Refusal}
use Prim.Native.Nat.{ℕ, ◌*◌}
use mathlib.Core.Bool.{Bool}
use mathlib.Core.List.{List, [], ◌∷◌}
use mathlib.Core.Path.{◌≡◌, refl, sym, ap, ◌∙◌}
use native.Mathlib.Omega.{arith}
use borrow.Author.Tests.{ne_eqb, leb-true, le-leb}
use lib.Dec.{eqb, leb}
use lib.ListN.{length}
use Rattle.refusal.specs.declared.Refusal.TheVariants.{RenumberNodes, RenumberChild, RenumberRoot, RenumberLength, RenumberRoom}
use Rattle.refusal.specs.Checks.{Check}
use Rattle.std.specs.Prelude.{Result, Ok, Err}
use Rattle.refusal.specs.Checks.{unless}
use Rattle.refusal.proofs.Checks.{unless_pass, refused-then, pass_then, and_then_pass}
use Rattle.layout.specs.Buffers.{buffer_after}
use Rattle.layout.proofs.LaidOut.{laid_none}
use Rattle.record.specs.Nodes.{node_size}
use Rattle.node_route.specs.declared.GraphError.{GraphError}
use Rattle.node.specs.Nodes.{nodes_of, subsector_bit}
use Rattle.node_route.specs.Heights.{graph_verdict}
use Rattle.node_route.specs.Reach.{reached_nodes}
use Rattle.node_route.proofs.Shared.{words-end}
use Rattle.node_route.proofs.Verdict.{verdict-none}
use Rattle.renumber_order.specs.Orders.{many_ok, once_ok, root_ok, children_ok, renumber_check}
use Rattle.renumber.specs.Renumbering.{renumbered, new_node, renumbering_of}
use Rattle.renumber_order.specs.Judging.{RenumberJudged, graph_check, renumber_graph_check}
use Rattle.renumber.specs.Inner.{NodesRenumbered, Writable}
use Rattle.renumber_order.proofs.Checking.{children_none}
use Rattle.renumber_order.proofs.Outcomes.{graph_passes}

-- ---- the graph and the list

module _ (nodes : List ℕ) (count : ℕ) (order : List ℕ) (room : ℕ) where
  -- what passes can be written
  pub writable : {words : List ℕ} {a : Check} → RenumberJudged nodes count order room words a → a ≡ Ok tt → Writable nodes count words order room
  writable j e =
      let all = graph_passes nodes count order room (graph_verdict nodes) (sym j.tells ∙ e) in
      let p = and_then_pass (unless (many_ok nodes order) RenumberLength) _ all in
      let q = and_then_pass (unless (once_ok nodes order) RenumberNodes) _ p.1 in
      let r = and_then_pass (unless (root_ok nodes order) RenumberRoot) _ q.1 in
      let s = and_then_pass (unless (children_ok nodes order (length order)) RenumberChild) (unless (leb (node_size * length order) room) RenumberRoom) r.1 in
      record {
        ordered = j.ordered e;
        first = unless_pass (children_ok nodes order (length order)) RenumberChild s.0;
        fits = leb-true (node_size * length order) room (unless_pass (leb (node_size * length order) room) RenumberRoom s.1);
      }

-- ---- what is answered and written

module _ (nodes order out : List ℕ) where
  pub renumbered-by : (k : Check) {a : (Result ℕ Refusal)} {last : List ℕ} → renumber_graph_check nodes order (length out) ≡ k
      → a ≡ renumbering_of k (node_size * length order) → last ≡ buffer_after k (renumbered nodes order) out → NodesRenumbered nodes order out a last
  renumbered-by k e p q =
      record {
        answers = p ∙ ap (λ (k : Check). renumbering_of k (node_size * length order)) (sym e);
        writes = q ∙ ap (λ (k : Check). buffer_after k (renumbered nodes order) out) (sym e);
      }

-- without nodes nothing is reached
none-reached : (nodes : List ℕ) → nodes_of nodes ≡ 0 → reached_nodes nodes ≡ []
none-reached nodes e = rw (e, words-end nodes 0 {w = subsector_bit} (omega arith))

pub renumbered-none : (nodes order out : List ℕ) {a : (Result ℕ Refusal)} → nodes_of nodes ≡ 0
    → a ≡ renumbering_of (unless (eqb (length order) 0) RenumberLength) 0 → NodesRenumbered nodes order out a out
renumbered-none nodes [] out none q =
    let empty = none-reached nodes none in
    let passes : renumber_graph_check nodes [] (length out) ≡ Ok tt =
    ap (λ (graph : Result ℕ GraphError). graph_check graph nodes [] (length out)) (verdict-none nodes none) ∙ pass_all empty in
    renumbered-by nodes [] out (Ok tt) passes q (sym (ap (λ (x : List ℕ). buffer_after (Ok tt) x out) (laid_none (new_node nodes []))))
  where
    pass_all : reached_nodes nodes ≡ [] → renumber_check nodes [] (length out) ≡ Ok tt
    pass_all empty =
        sym
        (pass_then (ap (λ (n : ℕ). unless (eqb 0 n) RenumberLength) (ap length empty))
        (pass_then refl (pass_then refl
        (pass_then (ap (λ (b : Bool). unless b RenumberChild) (children_none nodes []))
        (sym (ap (λ (b : Bool). unless b RenumberRoom) (le-leb 0 (length out) (omega arith))))))))
renumbered-none nodes (x ∷ xs) out none q =
    let empty = ap length (none-reached nodes none) in
    let refuses : renumber_graph_check nodes (x ∷ xs) (length out) ≡ Err RenumberLength =
    ap (λ (graph : Result ℕ GraphError). graph_check graph nodes (x ∷ xs) (length out)) (verdict-none nodes none)
    ∙ sym
    (refused-then _
    (ap (λ (b : Bool). unless b RenumberLength) (ne_eqb (length (x ∷ xs)) (length (reached_nodes nodes)) (λ (h : length (x ∷ xs) ≡ length (reached_nodes nodes)). omega arith)))) in
    renumbered-by nodes (x ∷ xs) out (Err RenumberLength) refuses
    (q ∙ ap (λ (b : Bool). renumbering_of (unless b RenumberLength) 0) (ne_eqb (length (x ∷ xs)) 0 (λ (h : length (x ∷ xs) ≡ 0). omega arith))) refl
