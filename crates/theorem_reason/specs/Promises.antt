-- What holds of a reason as a caller is handed it: the answer of `reason::judge_map` and the lent output afterwards,
-- for any file, name, work words and output (02, W-211: "Prove that each printed reason holds of the map's bytes").
-- Assumes nothing.
use Rattle.std.specs.Prelude.{ℕ, Bool, true, false, List, ◌⊎◌, ◌≡◌, take, drop, length as size, Ok, Err}
use Rattle.endian.specs.Unsigned.{u32_at}
use Rattle.refusal.specs.declared.Refusal.{Refusal}
use Rattle.refusal.specs.declared.Refusal.TheVariants.{ReasonRoom, NodeLoop}
use Rattle.refusal.specs.Table.{number_of, record_of}
use Rattle.reason_range.specs.declared.Field.{Field}
use Rattle.reason_range.specs.Fields.{FirstOut}
use Rattle.wad.specs.Header.{head_of, entry_count}
use Rattle.wad.specs.Entries.{directory_of}
use Rattle.wad.specs.Map.{marker_answer}
use Rattle.reason_blockmap.specs.Reasons.{SizeTold, WordTold}
use Rattle.node.specs.declared.Choice.{Choice}
use Rattle.map_lumps.specs.Lumps.{map_lumps}
use Rattle.map_lumps.specs.Games.{game_at}
use Rattle.map_check.specs.Verdict.{accepted, nodes_at, verdict}
use Rattle.node_path.specs.Ways.{bytes_of}
use Rattle.node_path.specs.Promises.{LoopTold, RouteTold}
use Rattle.reason_record.specs.Reasons.{InOrder}
use Rattle.reason.specs.declared.Reason.{Reason}
use Rattle.reason.specs.Printing.{ReasonTold}
use Rattle.reason_field.specs.Named.{field_ok, named_fields}
use Rattle.theorem_reason.specs.NamedBytes.{named_bytes, named_size}

-- the field that an output says: the four 32-bit numbers in its first 16 bytes
abbrev pub field_in : List ℕ → Field
field_in out = record { offset = u32_at out 0; number = u32_at out 4; least = u32_at out 8; most = u32_at out 12 }

-- `f` is a field of the refused record, and holds of the map's bytes
pub record FieldTold (hexen : Bool) (lumps : List (List ℕ)) (number i : ℕ) (f : Field) : Type 0 where
  -- it is out of its range, and every field before it is in its range
  pub first : FirstOut (named_fields hexen lumps number i) f
  -- it holds the two bytes at its offset inside the record (with 28: inside the lump), or it is BLOCKMAP's size
  pub holds : WordTold (named_bytes hexen lumps number i) f ⊎ ((number ≡ 28) × SizeTold (named_bytes hexen lumps number i) f)
  -- a record's fields stand in byte order; BLOCKMAP's stand in the order of its checks
  pub order : (number ≡ 28 → ⊥) → InOrder 0 (named_size hexen number) (named_fields hexen lumps number i)

-- of the map at entry `marker` of a file
abbrev pub FieldToldAt : List ℕ → ℕ → Refusal → Field → Type 0
FieldToldAt wad marker r f =
    FieldTold (game_at (directory_of wad) (entry_count (head_of wad)) marker) (map_lumps wad (directory_of wad) marker)
    (number_of r) (record_of r) f

-- the first `n` bytes of an output are the choices `cs`, one byte each
pub record ChoicesIn (out : List ℕ) (n : ℕ) (cs : List Choice) : Type 0 where
  pub long : n ≡ size cs
  pub bytes : take n out ≡ bytes_of cs

-- `answer` was given, and the lent output held `before` and now holds `after`
pub record ReasonHolds (wad name words before : List ℕ) (answer : Reason) (after : List ℕ) : Type 0 where
  -- the verdict is the map check's own, unless the output is too short (85)
  pub own : (answer.verdict ≡ Err ReasonRoom → ⊥) → answer.verdict ≡ verdict wad name words
  -- 23 to 28: the output says a field that holds of the map
  pub field : (r : Refusal) → answer.verdict ≡ Err r → field_ok (number_of r) ≡ true
      → (marker : ℕ) × ((marker_answer wad name ≡ Ok marker) × ((answer.length ≡ 16) × FieldToldAt wad marker r (field_in after)))
  -- 31 (loop): the output lists choices that lead from the root into the loop
  pub loop : answer.verdict ≡ Err NodeLoop
      → (marker : ℕ) × ((marker_answer wad name ≡ Ok marker)
      × ((cs : List Choice) × (ChoicesIn after answer.length cs × LoopTold (nodes_at wad marker) cs)))
  -- an accepted map: the output lists a route as long as the depth
  pub route : (depth marker : ℕ) → answer.verdict ≡ accepted depth marker
      → (cs : List Choice) × (ChoicesIn after answer.length cs × RouteTold (nodes_at wad marker) depth cs)
  -- every other refusal prints nothing
  pub nothing : (r : Refusal) → answer.verdict ≡ Err r → field_ok (number_of r) ≡ false → (r ≡ NodeLoop → ⊥) → answer.length ≡ 0
  -- the bytes behind what is printed are as found
  pub rest : drop answer.length after ≡ drop answer.length before

-- whatever `reason::judge_map` promises of an answer and an output, the reason holds
abbrev pub ReasonsHold : Type 0
ReasonsHold = (wad name words before : List ℕ) (answer : Reason) (wordsThen after : List ℕ)
    → ReasonTold wad name words before answer wordsThen after → ReasonHolds wad name words before answer after
