-- The verdict on a map, as the row of all checks in the order of 01's table, and what the lent work words hold afterwards.
-- Assumes nothing.
use Rattle.std.specs.Prelude.{ℕ, ◌*◌, List, ◌≡◌, length, Result, Ok, Err}
use Rattle.refusal.specs.Checks.{Check}
use Rattle.refusal.specs.declared.Refusal.{Refusal}
use Rattle.refusal.specs.Checks.{◌and_then◌}
use Rattle.wad.specs.Header.{head_of, entry_count}
use Rattle.wad.specs.Entries.{directory_of}
use Rattle.wad.specs.Map.{marker_answer}
use Rattle.node_route.specs.declared.GraphError.{GraphError}
use Rattle.node_route.specs.Refusals.{refusal_of}
use Rattle.node.specs.Nodes.{nodes_of}
use Rattle.node_route.specs.Heights.{graph_verdict}
use Rattle.node_graph.specs.Judging.{cleared}
use Rattle.map_check.specs.declared.Accepted.{Accepted}
use Rattle.record.specs.Subsectors.{subsector_size}
use Rattle.record_table.specs.Lumps.{SSECTORS, NODES}
use Rattle.map_lumps.specs.Lumps.{map_lumps, map_lump, record_count}
use Rattle.map_lumps.specs.Run.{run_check}
use Rattle.map_lumps.specs.Games.{game_at}
use Rattle.map_check.specs.Lumps.{lumps_check}

-- what is answered of a map: accepted, or the refusal
abbrev pub Verdict : Type 0
Verdict = Result Accepted Refusal

-- accepted with this depth and marker
abbrev pub accepted : ℕ → ℕ → Verdict
accepted depth marker = Ok (record { depth = depth; marker = marker })

-- 12 to 30, of the map whose marker is entry `marker` of a directory of `count` entries
abbrev pub map_check : List ℕ → ℕ → ℕ → List (List ℕ) → ℕ → Check
map_check dir count marker lumps lent = run_check dir count marker and_then lumps_check (game_at dir count marker) lumps lent

-- 31, 32, or accepted
abbrev pub graph_answer : Result ℕ GraphError → ℕ → Verdict
graph_answer (Ok depth) marker = accepted depth marker
graph_answer (Err e) marker = Err (refusal_of e)

-- the verdict by all checks below 31, and where they pass by the node graph
abbrev pub judged : Check → Result ℕ GraphError → ℕ → Verdict
judged (Ok _) graph marker = graph_answer graph marker
judged (Err r) graph marker = Err r

-- the words afterwards: as found below 31, else the first four for each node zero
abbrev pub words_by : Check → List ℕ → List ℕ → List ℕ
words_by (Ok _) nodes words = cleared words (4 * nodes_of nodes)
words_by (Err r) nodes words = words

-- the check of the map at entry `marker` of a file
abbrev pub check_at : List ℕ → ℕ → ℕ → Check
check_at wad marker lent =
    map_check (directory_of wad) (entry_count (head_of wad)) marker (map_lumps wad (directory_of wad) marker) lent

-- its NODES lump, and its count of subsectors
abbrev pub nodes_at : List ℕ → ℕ → List ℕ
nodes_at wad marker = map_lump (map_lumps wad (directory_of wad) marker) NODES

abbrev pub subsectors_at : List ℕ → ℕ → ℕ
subsectors_at wad marker = record_count (map_lumps wad (directory_of wad) marker) SSECTORS subsector_size

-- 1 to 11 by the search for the marker, then the rest
abbrev pub verdict_by : List ℕ → List ℕ → Result ℕ Refusal → Verdict
verdict_by wad words (Ok marker) = judged (check_at wad marker (length words)) (graph_verdict (nodes_at wad marker)) marker
verdict_by wad words (Err r) = Err r

abbrev pub words_after_by : List ℕ → List ℕ → Result ℕ Refusal → List ℕ
words_after_by wad words (Ok marker) = words_by (check_at wad marker (length words)) (nodes_at wad marker) words
words_after_by wad words (Err r) = words

-- the verdict on the map of an asked name
abbrev pub verdict : List ℕ → List ℕ → List ℕ → Verdict
verdict wad name words = verdict_by wad words (marker_answer wad name)

-- what the lent words hold afterwards
abbrev pub words_after : List ℕ → List ℕ → List ℕ → List ℕ
words_after wad name words = words_after_by wad words (marker_answer wad name)

-- what is promised of the map check: the verdict, and the words afterwards
pub record Answered (wad name words : List ℕ) (answer : Verdict) (after : List ℕ) : Type 0 where
  pub verdicts : answer ≡ verdict wad name words
  pub leaves : after ≡ words_after wad name words

-- and from a marker on that was found
pub record AnsweredAt (wad : List ℕ) (marker : ℕ) (words : List ℕ) (answer : Verdict) (after : List ℕ) : Type 0 where
  pub verdicts : answer ≡ verdict_by wad words (Ok marker)
  pub leaves : after ≡ words_after_by wad words (Ok marker)
