-- The examples of 01, "Examples", (a) to (l), of W-205 and of W-214, of the definitions. The proof is
-- proofs/Examples.antt. Assumes nothing.
use Rattle.std.specs.Prelude.{ℕ, zero, suc, ◌+◌, ◌-◌, ◌*◌, ◌/◌, ◌≤◌, Bool, true, false, List, [], ◌∷◌, ◌++◌, ◌≡◌, ℤ, pos, negsuc, ◌-ℤ◌, ◌*ℤ◌, length, replicate, Ok, Err}
use Rattle.endian.specs.Unsigned.{u16_bytes, u32_bytes}
use Rattle.refusal.specs.declared.Refusal.TheVariants.{DescentLoop}
use Rattle.name.specs.Names.{name_ok, same_name}
use Rattle.record_table.specs.Lumps.{lump_name, THINGS, LINEDEFS, SIDEDEFS, VERTEXES, SEGS, SSECTORS, NODES, SECTORS, REJECT, BLOCKMAP}
use Rattle.node.specs.declared.Choice.{Choice}
use Rattle.node.specs.declared.Choice.TheVariants.{Right, Left}
use Rattle.node_route.specs.declared.GraphError.{GraphError}
use Rattle.node.specs.Nodes.{subsector_bit, is_node, child_ok}
use Rattle.node_route.specs.Heights.{graph_verdict}
use Rattle.node_descent.specs.Side.{side}
use Rattle.node_descent.specs.Walks.{descent}
use Rattle.map_lumps.specs.Games.{behavior, game_answer}
use Rattle.map_check.specs.Verdict.{verdict}
use Rattle.map_lumps.specs.Sizes.{reject_size}
use Rattle.map_blockmap.specs.Blockmap.{linedefs_named, list_ok}
use Rattle.picture_paint.specs.Buffers.{paint_check}
use Rattle.picture_paint.specs.Pixels.{plane_of, by_colour, by_cover}
use Rattle.export_maps.specs.declared.MapAnswer.{MapAnswer}
use Rattle.export_maps.specs.declared.GameAnswer.{GameAnswer}
use Rattle.export_maps.specs.Maps.{map_out, game_out}

-- (b)'s bytes, and the letters D E M O 1
abbrev demo1 : List ℕ
demo1 = 0x44 ∷ 0x45 ∷ 0x4D ∷ 0x4F ∷ 0x31 ∷ 0x00 ∷ 0x00 ∷ 0x00 ∷ []

abbrev letters : List ℕ
letters = 68 ∷ 69 ∷ 77 ∷ 79 ∷ 49 ∷ 0 ∷ 0 ∷ 0 ∷ []

-- -32,768
abbrev lowest : ℤ
lowest = negsuc 32767

-- a node of the two children, all else 0
abbrev node : ℕ → ℕ → List ℕ
node right left = replicate 24 0 ++ u16_bytes right ++ u16_bytes left

-- an entry of a file
abbrev entry : ℕ → ℕ → ℕ → List ℕ
entry place offset size = u32_bytes offset ++ u32_bytes size ++ lump_name place

abbrev map01 : List ℕ
map01 = 77 ∷ 65 ∷ 80 ∷ 48 ∷ 49 ∷ 0 ∷ 0 ∷ 0 ∷ []

-- so many subsectors, all of the first seg alone
abbrev ssectors : ℕ → List ℕ
ssectors zero = []
ssectors (suc n) = u16_bytes 1 ++ u16_bytes 0 ++ ssectors n

-- the smallest map with so many subsectors and these nodes, whole: one linedef of `size` bytes, one sidedef, vertex, seg and
-- sector, and one empty cell; `more` are entries after its own. NODES begins at byte `at`, and ends at byte `end`
abbrev map_with : ℕ → List ℕ → ℕ → List ℕ → List ℕ
map_with size more subsectors nodes =
    let at = 58 + size + 4 * subsectors in
    let end = at + length nodes in
    (80 ∷ 87 ∷ 65 ∷ 68 ∷ []) ++ u32_bytes (11 + length more / 16) ++ u32_bytes (end + 41)
    ++ replicate (size - 2) 0 ++ u16_bytes 65535
    ++ replicate 30 0 ++ replicate 4 0 ++ replicate 12 0
    ++ ssectors subsectors
    ++ nodes ++ replicate 26 0 ++ replicate 1 0
    ++ u16_bytes 0 ++ u16_bytes 0 ++ u16_bytes 1 ++ u16_bytes 1 ++ u16_bytes 5 ++ u16_bytes 0 ++ u16_bytes 65535
    ++ u32_bytes 0 ++ u32_bytes 0 ++ map01 ++ entry THINGS 0 0 ++ entry LINEDEFS 12 size ++ entry SIDEDEFS (12 + size) 30
    ++ entry VERTEXES (42 + size) 4 ++ entry SEGS (46 + size) 12 ++ entry SSECTORS (58 + size) (4 * subsectors)
    ++ entry NODES at (length nodes) ++ entry SECTORS end 26 ++ entry REJECT (end + 26) 1 ++ entry BLOCKMAP (end + 27) 14
    ++ more

-- Doom's, and an entry that makes it Hexen's
abbrev map_of : ℕ → List ℕ → List ℕ
map_of subsectors nodes = map_with 14 [] subsectors nodes

abbrev behavior_entry : List ℕ
behavior_entry = u32_bytes 0 ++ u32_bytes 0 ++ behavior

-- what the map check answers a caller on that map
abbrev map_judged : ℕ → List ℕ → List ℕ → MapAnswer
map_judged subsectors nodes words = map_out (verdict (map_of subsectors nodes) map01 words)

abbrev accepted_at : ℕ → MapAnswer
accepted_at depth = record { status = record { number = 0; place = 0; «record» = 0 }; depth = depth; marker = 0 }

abbrev refused_as : ℕ → ℕ → MapAnswer
refused_as number place = record { status = record { number = number; place = place; «record» = 0 }; depth = 0; marker = 0 }

-- the nodes of (g), with its two children the same and different, (h), (i) and (j)
abbrev two_alike : List ℕ
two_alike = node 0x8000 0x8000

abbrev one_node : List ℕ
one_node = node 0x8000 0x8001

abbrev own_left : List ℕ
own_left = node 0x8000 0

abbrev two_nodes : List ℕ
two_nodes = node 0 0x8000 ++ node 0x8000 0x8001

abbrev three_nodes : List ℕ
three_nodes = node 1 0x8002 ++ node 0x8000 0x8001 ++ node 0 0x8003

-- W-205: on a map of two subsectors and one node, with four words
abbrev judged_with : ℕ → List ℕ → MapAnswer
judged_with size more = map_out (verdict (map_with size more 2 one_node) map01 (replicate 4 7))

abbrev game_with : ℕ → List ℕ → ℕ → GameAnswer
game_with size more marker = game_out (game_answer (map_with size more 2 one_node) marker)

abbrev game_is : Bool → GameAnswer
game_is hexen = record { status = record { number = 0; place = 0; «record» = 0 }; hexen = hexen }

-- a BLOCKMAP of two cells, whose lists are `0 65535` at word 6 and `0 330 331 333 65535` at word 8
abbrev blockmap : List ℕ
blockmap =
    u16_bytes 0 ++ u16_bytes 0 ++ u16_bytes 2 ++ u16_bytes 1 ++ u16_bytes 6 ++ u16_bytes 8
    ++ u16_bytes 0 ++ u16_bytes 65535
    ++ u16_bytes 0 ++ u16_bytes 330 ++ u16_bytes 331 ++ u16_bytes 333 ++ u16_bytes 65535

-- (l)'s picture
abbrev picture : List ℕ
picture =
    0x01 ∷ 0x00 ∷ 0x03 ∷ 0x00 ∷ 0x00 ∷ 0x00 ∷ 0x00 ∷ 0x00 ∷ 0x0C ∷ 0x00 ∷ 0x00 ∷ 0x00
    ∷ 0x01 ∷ 0x01 ∷ 0x00 ∷ 0x07 ∷ 0x00 ∷ 0xFF ∷ []

-- W-214: the sides of (-1, y), (0, y) and (1, y) by a line from (0, 0) in the direction (0, dy)
abbrev by_upright : ℤ → ℤ → List Choice
by_upright y dy =
    side (negsuc 0) y (pos 0) (pos 0) (pos 0) dy
    ∷ side (pos 0) y (pos 0) (pos 0) (pos 0) dy
    ∷ side (pos 1) y (pos 0) (pos 0) (pos 0) dy ∷ []

-- the sides of (x, -1), (x, 0) and (x, 1) by a line from (0, 0) in the direction (dx, 0)
abbrev by_level : ℤ → ℤ → List Choice
by_level x dx =
    side x (negsuc 0) (pos 0) (pos 0) dx (pos 0)
    ∷ side x (pos 0) (pos 0) (pos 0) dx (pos 0)
    ∷ side x (pos 1) (pos 0) (pos 0) dx (pos 0) ∷ []

pub record Examples : Type 0 where
  -- (a) REJECT for 1, 3 and 10 sectors
  pub a : (reject_size 1 ≡ 1) × ((reject_size 3 ≡ 2) × (reject_size 10 ≡ 13))
  -- (b) 44 45 4D 4F 31 00 00 00 is a name, and is DEMO1
  pub b : (name_ok demo1 ≡ true) × (same_name demo1 letters ≡ true)
  -- (c) start (0, 0), direction (0, 64): (1, 0) right, (0, 5) and (-1, 0) left
  pub c_right : side (pos 1) (pos 0) (pos 0) (pos 0) (pos 0) (pos 64) ≡ Right
  pub c_on : side (pos 0) (pos 5) (pos 0) (pos 0) (pos 0) (pos 64) ≡ Left
  pub c_left : side (negsuc 0) (pos 0) (pos 0) (pos 0) (pos 0) (pos 64) ≡ Left
  -- (d) start and direction (-32768, -32768), point (32767, 32767): both products are -2,147,450,880, so left
  pub d_product : (pos 32767 -ℤ lowest) *ℤ lowest ≡ negsuc 2147450879
  pub d_left : side (pos 32767) (pos 32767) lowest lowest lowest lowest ≡ Left
  -- (e) 0x8000 is no node but subsector 0, which is in range; 0xFFFF is never in range
  pub e_first : (is_node 0x8000 ≡ false) × (0x8000 ≡ subsector_bit + 0)
  pub e_in_range : (count subsectors : ℕ) → 1 ≤ subsectors → child_ok count subsectors 0x8000 ≡ true
  pub e_never : (count subsectors : ℕ) → subsectors ≤ 32767 → child_ok count subsectors 0xFFFF ≡ false
  -- (f) no nodes, one subsector: depth 0, answer 0, count 0
  pub f_depth : graph_verdict [] ≡ Ok 0
  pub f_descent : (x y : ℤ) → descent [] 1 x y ≡ Ok (record { subsector = 0; count = 0 })
  -- (g), by W-202: one node, both children subsector 0: a whole map with it is refused 32 at place 7, whatever the words hold
  pub g : graph_verdict two_alike ≡ Err GraphError.HasShared
  pub g-refused : (a b c d : ℕ) → map_judged 1 two_alike (a ∷ b ∷ c ∷ d ∷ []) ≡ refused_as 32 7
  -- with subsectors 0 and 1 it has depth 1, and is accepted
  pub g-different : graph_verdict one_node ≡ Ok 1
  pub g-accepted : (a b c d : ℕ) → map_judged 2 one_node (a ∷ b ∷ c ∷ d ∷ []) ≡ accepted_at 1
  -- (h) one node whose left child is itself: a whole map with it is refused 31 at place 7
  pub h : graph_verdict own_left ≡ Err GraphError.HasLoop
  pub h-refused : (a b c d : ℕ) → map_judged 1 own_left (a ∷ b ∷ c ∷ d ∷ []) ≡ refused_as 31 7
  -- (i) two nodes, node 0 its own child, the root's children different subsectors: accepted, depth 1
  pub i : graph_verdict two_nodes ≡ Ok 1
  pub i-accepted : map_judged 2 two_nodes (replicate 8 7) ≡ accepted_at 1
  -- (j) three nodes, root 2 has node 0, node 0 has node 1, all else different subsectors: accepted, depth 3
  pub j : graph_verdict three_nodes ≡ Ok 3
  pub j-accepted : map_judged 4 three_nodes (replicate 12 7) ≡ accepted_at 3
  -- (k) the lists are good, and name no linedef and three
  pub k_none : linedefs_named blockmap 6 ≡ []
  pub k_three : linedefs_named blockmap 8 ≡ 330 ∷ 331 ∷ 333 ∷ []
  pub k_good : (list_ok blockmap 0 6 ≡ true) × (list_ok blockmap 334 8 ≡ true)
  -- (l) colour 0 7 0, cover 0 1 0
  pub l_accepted : paint_check picture 3 3 ≡ Ok tt
  pub l_colour : plane_of by_colour picture ≡ 0 ∷ 7 ∷ 0 ∷ []
  pub l_cover : plane_of by_cover picture ≡ 0 ∷ 1 ∷ 0 ∷ []
  -- W-205: with BEHAVIOR after the ten a linedef has 16 bytes, without it 14; either map is accepted with the depth of its nodes
  pub hexen_accepted : judged_with 16 behavior_entry ≡ accepted_at 1
  pub hexen_size : judged_with 14 behavior_entry ≡ refused_as 20 2
  pub doom_accepted : judged_with 14 [] ≡ accepted_at 1
  pub doom_size : judged_with 16 [] ≡ refused_as 20 2
  -- the game is told by the marker's entry alone, whatever the lumps hold; the entry after the marker has no eleventh one
  pub game_hexen : game_with 14 behavior_entry 0 ≡ game_is true
  pub game_doom : game_with 16 [] 0 ≡ game_is false
  pub game-later : game_with 16 behavior_entry 1 ≡ game_is false
  pub game-past : game_with 16 behavior_entry 12 ≡ record { status = record { number = 7; place = 0; «record» = 0 }; hexen = false }
  -- W-214: lines up, down, to the east and to the west; points on either side of each and on it, wherever along it
  pub up : (y : ℤ) → by_upright y (pos 64) ≡ Left ∷ Left ∷ Right ∷ []
  pub down : (y : ℤ) → by_upright y (negsuc 63) ≡ Right ∷ Right ∷ Left ∷ []
  pub east : (x : ℤ) → by_level x (pos 64) ≡ Right ∷ Right ∷ Left ∷ []
  pub west : (x : ℤ) → by_level x (negsuc 63) ≡ Left ∷ Left ∷ Right ∷ []
  -- by a line of no direction every point goes right
  pub none : (x y px py : ℤ) → side x y px py (pos 0) (pos 0) ≡ Right
  -- so that (h)'s node, its own left child by such a line, loops and no point takes it, and its own right child is met by all
  pub unmet : (x y : ℤ) → descent own_left 1 x y ≡ Ok (record { subsector = 0; count = 1 })
  pub met : (x y : ℤ) → descent (node 0 0x8000) 1 x y ≡ Err DescentLoop
