-- The graph's verdict is what the routes say, as a statement. The proof is proofs/Verdict.antt. Assumes nothing.
use Rattle.std.specs.Prelude.{ℕ, List, ◌↔◌, ◌≡◌, Ok, Err}
use Rattle.node_route.specs.declared.GraphError.{GraphError}
use Rattle.node_route.specs.Routes.{Loop, Shared, Depth}
use Rattle.node_route.specs.Heights.{graph_verdict}

-- the verdict is a loop exactly if there is one, otherwise a shared child exactly if there is one, and otherwise the depth
pub record VerdictHolds (nodes : List ℕ) : Type 0 where
  pub loop : graph_verdict nodes ≡ Err GraphError.HasLoop ↔ Loop nodes
  pub shared : (Loop nodes → ⊥) → graph_verdict nodes ≡ Err GraphError.HasShared ↔ Shared nodes
  pub neither : (Loop nodes → ⊥) → (Shared nodes → ⊥) → (depth : ℕ) × (graph_verdict nodes ≡ Ok depth)
  pub deep : (depth : ℕ) → graph_verdict nodes ≡ Ok depth → Depth nodes depth
