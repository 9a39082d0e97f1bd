-- Demand 2's frame, demand 3, and W-205's game, of any file, any asked name, any work words and any point. The proofs are in
-- proofs/Demands.antt. Assumes nothing.
use Rattle.std.specs.Prelude.{ℕ, ◌+◌, ◌*◌, ◌/◌, List, ◌↔◌, ◌≡◌, leb, ℤ, length, Ok, Err}
use Rattle.refusal.specs.declared.Refusal.TheVariants.{NodeLoop, NodeShared}
use Rattle.wad.specs.Header.{head_of, entry_count}
use Rattle.wad.specs.Entries.{directory_of}
use Rattle.wad.specs.Lump.{entry_answer, entry_lump}
use Rattle.wad.specs.Map.{marker_answer}
use Rattle.record.specs.Subsectors.{subsector_size}
use Rattle.record_table.specs.Lumps.{SSECTORS, NODES}
use Rattle.node.specs.Nodes.{nodes_of}
use Rattle.node_route.specs.Routes.{Loop, Shared, Depth}
use Rattle.node_route.specs.Reach.{OneMore}
use Rattle.node_descent.specs.Promises.{Descends}
use Rattle.map_lumps.specs.Lumps.{map_lumps}
use Rattle.map_lumps.specs.Run.{run_check}
use Rattle.map_lumps.specs.Games.{game_at, game_by, game_answer}
use Rattle.map_check.specs.Verdict.{accepted, check_at, nodes_at, subsectors_at, verdict}

-- ---- demand 2: what alters a verdict

-- entry `marker` is the marker of the map `name`, and its ten lumps follow
abbrev pub MapAt : List ℕ → List ℕ → ℕ → Type 0
MapAt wad name marker =
    (marker_answer wad name ≡ Ok marker) × (run_check (directory_of wad) (entry_count (head_of wad)) marker ≡ Ok tt)

-- two files of one length, with the same header and directory, and the same bytes in the ten lumps of the map `name`
pub record SameMap (wad wad' name : List ℕ) : Type 0 where
  pub long : length wad ≡ length wad'
  pub header : head_of wad ≡ head_of wad'
  pub directory : directory_of wad ≡ directory_of wad'
  pub lumps : (marker : ℕ) → MapAt wad name marker
      → map_lumps wad (directory_of wad) marker ≡ map_lumps wad' (directory_of wad') marker

-- both lots of words are enough for the map's nodes, or both are too few
abbrev pub SameShortage : List ℕ → List ℕ → List ℕ → List ℕ → Type 0
SameShortage wad name words words' =
    (marker : ℕ) → MapAt wad name marker
    → leb (4 * nodes_of (nodes_at wad marker)) (length words) ≡ leb (4 * nodes_of (nodes_at wad marker)) (length words')

-- nothing else alters the verdict on a map
abbrev pub Frame : Type 0
Frame =
    (wad wad' name words words' : List ℕ) → SameMap wad wad' name → SameShortage wad name words words'
    → verdict wad name words ≡ verdict wad' name words'

-- ---- demand 3: loop, depth and descent

-- every check below 31 passes, of the map whose marker is entry `marker`
pub record Below31 (wad name words : List ℕ) (marker : ℕ) : Type 0 where
  pub marks : marker_answer wad name ≡ Ok marker
  pub passes : check_at wad marker (length words) ≡ Ok tt

-- the NODES lump and the count of subsectors of the map at entry `marker` are those that a caller is handed
pub record HandedOver (wad : List ℕ) (marker : ℕ) : Type 0 where
  -- entry marker + 7 is not refused, and its part of the file is the NODES lump
  pub nodes_offset : ℕ
  pub nodes_entry : entry_answer wad (marker + NODES) ≡ Ok (record { offset = nodes_offset; size = length (nodes_at wad marker) })
  pub nodes_part : entry_lump wad (marker + NODES) ≡ nodes_at wad marker
  -- entry marker + 6 is not refused, and its size divided by 4 is the count of subsectors
  pub ssectors_offset : ℕ
  pub ssectors_size : ℕ
  pub ssectors_entry : entry_answer wad (marker + SSECTORS) ≡ Ok (record { offset = ssectors_offset; size = ssectors_size })
  pub subsectors : ssectors_size / subsector_size ≡ subsectors_at wad marker

pub record Demand3 (wad name words : List ℕ) : Type 0 where
  -- if every check below 31 passes, the map is refused for a loop exactly if some list of as many choices as there
  -- are nodes is still on a node
  pub loop : (marker : ℕ) → Below31 wad name words marker
      → verdict wad name words ≡ Err NodeLoop ↔ Loop (nodes_at wad marker)
  -- and no other map is refused for a loop
  pub loop_only : verdict wad name words ≡ Err NodeLoop
      → (marker : ℕ) × (Below31 wad name words marker × Loop (nodes_at wad marker))
  -- otherwise it is refused for a shared node or subsector exactly if two different lists of choices lead to one
  pub shared : (marker : ℕ) → Below31 wad name words marker → (Loop (nodes_at wad marker) → ⊥)
      → verdict wad name words ≡ Err NodeShared ↔ Shared (nodes_at wad marker)
  -- and no other map is refused for one
  pub shared_only : verdict wad name words ≡ Err NodeShared
      → (marker : ℕ) × (Below31 wad name words marker × ((Loop (nodes_at wad marker) → ⊥) × Shared (nodes_at wad marker)))
  -- and otherwise it is accepted, with its exact depth
  pub neither : (marker : ℕ) → Below31 wad name words marker → (Loop (nodes_at wad marker) → ⊥)
      → (Shared (nodes_at wad marker) → ⊥) → (depth : ℕ) × (verdict wad name words ≡ accepted depth marker)
  pub exact : (depth marker : ℕ) → verdict wad name words ≡ accepted depth marker → Depth (nodes_at wad marker) depth
  -- an accepted map reaches one subsector more than nodes, each by one list of choices
  pub one_more : (depth marker : ℕ) → verdict wad name words ≡ accepted depth marker → OneMore (nodes_at wad marker)
  -- the nodes and the count of subsectors of an accepted map are what its entries hand over
  pub handed : (depth marker : ℕ) → verdict wad name words ≡ accepted depth marker → HandedOver wad marker
  -- on every accepted map the descent of every point is not refused, and is its plain walk, with a count of at most
  -- the depth
  pub descends : (depth marker : ℕ) → verdict wad name words ≡ accepted depth marker
      → (x y : ℤ) → Descends (nodes_at wad marker) (subsectors_at wad marker) x y depth

-- ---- W-205: the game

-- the game that a caller is told of an accepted map, by its marker, is the one that it was judged by
abbrev pub GameTold : Type 0
GameTold =
    (wad name words : List ℕ) (depth marker : ℕ) → verdict wad name words ≡ accepted depth marker
    → game_answer wad marker ≡ game_by (Ok tt) (game_at (directory_of wad) (entry_count (head_of wad)) marker)
