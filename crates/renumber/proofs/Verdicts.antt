-- What is promised of a map, by what led there: no marker, a check below 31, or the node graph and the list. Assumes nothing.
use Prim.Native.Nat.{ℕ, ◌*◌}
use mathlib.Core.List.{List}
use mathlib.Core.Path.{◌≡◌, refl, sym, ◌∙◌}
use lib.ListN.{length}
use Rattle.refusal.specs.declared.Refusal.{Refusal}
use Rattle.std.specs.Prelude.{Result, Ok, Err}
use Rattle.layout.specs.Buffers.{buffer_after}
use Rattle.record.specs.Nodes.{node_size}
use Rattle.wad.specs.Map.{marker_answer}
use Rattle.node_route.specs.declared.GraphError.{GraphError}
use Rattle.node_route.specs.declared.GraphError.TheVariants.{HasLoop, HasShared}
use Rattle.node.specs.Nodes.{nodes_of}
use Rattle.node_route.specs.Heights.{graph_verdict}
use Rattle.node_graph.specs.Judging.{cleared}
use Rattle.map_check.specs.Verdict.{Verdict, graph_answer, judged, words_by, check_at, nodes_at, verdict_by, words_after_by}
use Rattle.renumber.specs.Renumbering.{renumbered, check_by, lump_by, renumbering_of, Renumbers}
use Rattle.renumber.specs.Inner.{RenumbersAt, NodesRenumbered}
use Rattle.renumber_order.specs.Judging.{graph_check}

module _ (wad : List ℕ) (marker : ℕ) (order out : List ℕ) where
  -- the answer to a verdict, and the output afterwards
  abbrev answered : Verdict → Result ℕ Refusal
  answered v = renumbering_of (check_by v wad order (length out)) (node_size * length order)

  abbrev written : Verdict → List ℕ
  written v = buffer_after (check_by v wad order (length out)) (lump_by v wad order) out

  answers_by : (graph : Result ℕ GraphError)
      → renumbering_of (graph_check graph (nodes_at wad marker) order (length out)) (node_size * length order) ≡ answered (graph_answer graph marker)
  answers_by (Err HasLoop) = refl
  answers_by (Err HasShared) = refl
  answers_by (Ok depth) = refl

  writes-by : (graph : Result ℕ GraphError)
      → buffer_after (graph_check graph (nodes_at wad marker) order (length out)) (renumbered (nodes_at wad marker) order) out ≡ written (graph_answer graph marker)
  writes-by (Err HasLoop) = refl
  writes-by (Err HasShared) = refl
  writes-by (Ok depth) = refl

  module _ (words : List ℕ) where
    pub at_refused : {r : Refusal} → check_at wad marker (length words) ≡ Err r → RenumbersAt wad marker words order out (Err r) words out
    at_refused e =
        record {
          answers = λ j. answered (judged (sym e j) (graph_verdict (nodes_at wad marker)) marker);
          leaves = λ j. words_by (sym e j) (nodes_at wad marker) words;
          writes = λ j. written (judged (sym e j) (graph_verdict (nodes_at wad marker)) marker);
        }

    pub at_nodes : {a : (Result ℕ Refusal)} {wordsThen outThen : List ℕ} → check_at wad marker (length words) ≡ Ok tt
        → NodesRenumbered (nodes_at wad marker) order out a outThen → wordsThen ≡ cleared words (4 * nodes_of (nodes_at wad marker))
        → RenumbersAt wad marker words order out a wordsThen outThen
    at_nodes e t w =
        let graph = graph_verdict (nodes_at wad marker) in
        record {
          answers = t.answers ∙ answers_by graph ∙ (λ j. answered (judged (sym e j) graph marker));
          leaves = w ∙ (λ j. words_by (sym e j) (nodes_at wad marker) words);
          writes = t.writes ∙ writes-by graph ∙ (λ j. written (judged (sym e j) graph marker));
        }

module _ (wad name words order out : List ℕ) where
  pub renumbers_nowhere : {r : Refusal} → marker_answer wad name ≡ Err r → Renumbers wad name words order out (Err r) words out
  renumbers_nowhere e =
      record {
        answers = λ j. answered wad 0 order out (verdict_by wad words (sym e j));
        leaves = λ j. words_after_by wad words (sym e j);
        writes = λ j. written wad 0 order out (verdict_by wad words (sym e j));
      }

  pub renumbers_at : {marker : ℕ} {a : (Result ℕ Refusal)} {wordsThen outThen : List ℕ} → marker_answer wad name ≡ Ok marker
      → RenumbersAt wad marker words order out a wordsThen outThen → Renumbers wad name words order out a wordsThen outThen
  renumbers_at {marker} e t =
      record {
        answers = t.answers ∙ (λ j. answered wad marker order out (verdict_by wad words (sym e j)));
        leaves = t.leaves ∙ (λ j. words_after_by wad words (sym e j));
        writes = t.writes ∙ (λ j. written wad marker order out (verdict_by wad words (sym e j)));
      }
