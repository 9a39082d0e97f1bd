-- Not for the reader of promises: what only contracts of inner functions cite. Assumes nothing.
use Rattle.std.specs.Prelude.{ℕ, ◌*◌, ◌<◌, ◌≤◌, Bool, List, ◌≡◌, length, Err}
use Rattle.refusal.specs.declared.Refusal.{Refusal}
use Rattle.wad.specs.Header.{most_bytes}
use Rattle.node.specs.Nodes.{nodes_of}
use Rattle.node_route.specs.Heights.{graph_verdict}
use Rattle.node_graph.specs.Judging.{cleared}
use Rattle.map_lumps.specs.Lumps.{map_lumps}
use Rattle.map_check.specs.Verdict.{graph_answer, map_check}
use Rattle.node_path.specs.Ways.{way_of, bytes_of, printed}
use Rattle.reason.specs.declared.Reason.{Reason}
use Rattle.reason.specs.Printing.{field_length, field_printed, answer_by}

-- a check below 31 refused the map with `r`
pub record RefusedBelow (wad dir : List ℕ) (count marker : ℕ) (r : Refusal) : Type 0 where
  pub long : 16 * count ≤ length dir
  pub marked : marker < count
  pub small : length wad ≤ most_bytes
  pub lent : ℕ
  pub refused : map_check dir count marker (map_lumps wad dir marker) lent ≡ Err r

-- what is told of it
pub record RefusalTold (hexen : Bool) (lumps : List (List ℕ)) (r : Refusal) (out : List ℕ) (answer : Reason)
    (after : List ℕ) : Type 0 where
  pub answers : answer ≡ answer_by (Err r) (field_length r) (length out)
  pub prints : after ≡ field_printed hexen lumps r out

-- what is told where only the node graph is left to judge
pub record GraphTold (nodes : List ℕ) (marker : ℕ) (words out : List ℕ) (answer : Reason) (wordsThen outThen : List ℕ) : Type 0 where
  pub answers : answer ≡ answer_by (graph_answer (graph_verdict nodes) marker) (length (way_of nodes (graph_verdict nodes))) (length out)
  pub leaves : wordsThen ≡ cleared words (4 * nodes_of nodes)
  pub prints : outThen ≡ printed out (bytes_of (way_of nodes (graph_verdict nodes)))
