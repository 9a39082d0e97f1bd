-- At the end of the search the marked nodes are the reached ones: a child is met twice among theirs exactly if it is shared.
-- Assumes nothing.
use Prim.Native.Nat.{ℕ, ◌<◌}
use mathlib.Core.Bool.{true, false}
use mathlib.Core.List.{List}
use mathlib.Core.Path.{◌≡◌, ap, ◌∙◌}
use native.Mathlib.Omega.{arith}
use Rattle.std.specs.Prelude.{Ok, Err}
use Rattle.node_route.specs.declared.GraphError.{GraphError}
use Rattle.node.specs.Nodes.{nodes_of, subsector_bit}
use Rattle.node_route.specs.Routes.{Reached, Shared}
use Rattle.node_route.specs.Heights.{repeats, graph_verdict}
use Rattle.node.proofs.Nodes.{nodes_of-whole}
use Rattle.node_route.proofs.Verdict.{verdict-shared, verdict_depth}
use Rattle.node_route.proofs.Places.{places-shared, shared-places}
use Rattle.node_sharing.specs.Children.{child_words}
use Rattle.node_sharing.proofs.Places.{Marked, repeats-twice, twice-repeats}
use Rattle.node_graph.specs.Looks.{mark_of}
use Rattle.node_graph.specs.Searching.{Searchable, Explored}

module _ (nodes : List ℕ) (count : ℕ) (words : List ℕ) (depth : ℕ) (g : Searchable nodes count words)
    (x : Explored nodes (mark_of words) depth) where
  counted : nodes_of nodes ≡ count
  counted = nodes_of-whole nodes count g.whole

  reached : (i : ℕ) → Marked nodes words count i → Reached nodes i
  reached i m = x.known i (rw counted m.low) m.marked

  node : (i : ℕ) → Marked nodes words count i → i < subsector_bit
  node i m = let h = m.low in let k = g.most in omega arith

  marked-shared : repeats (child_words nodes words count) ≡ true → Shared nodes
  marked-shared e =
      let t = repeats-twice nodes words count e in
      places-shared nodes
      (record {
        node = t.node;
        choice = t.choice;
        node' = t.node';
        choice' = t.choice';
        different = t.different;
        reached = reached t.node t.at;
        reached' = reached t.node' t.at';
        made = node t.node t.at;
        made' = node t.node' t.at';
        child = t.child;
      })

  marked : (i : ℕ) → Reached nodes i → i < subsector_bit → Marked nodes words count i
  marked i r h = let (l, n) = x.every i r h in record { low = rw counted at l; marked = n }

  shared-marked : Shared nodes → repeats (child_words nodes words count) ≡ true
  shared-marked s =
      let p = shared-places nodes x.straight s in
      twice-repeats nodes words count
      (record {
        node = p.node;
        choice = p.choice;
        node' = p.node';
        choice' = p.choice';
        different = p.different;
        at = marked p.node p.reached p.made;
        at' = marked p.node' p.reached' p.made';
        child = p.child;
      })

  pub answers-shared : repeats (child_words nodes words count) ≡ true → graph_verdict nodes ≡ Err GraphError.HasShared
  answers-shared e = verdict-shared nodes x.straight (marked-shared e)

  pub answers_depth : repeats (child_words nodes words count) ≡ false → graph_verdict nodes ≡ Ok depth
  answers_depth e =
      let alone : Shared nodes → ⊥ = λ (s : Shared nodes). (let t = shared-marked s in let z : ◌≡◌ {A = ℕ} 0 1 = cc in omega arith) in
      verdict_depth nodes x.straight alone ∙ ap Ok x.high
