-- What is printed with a verdict, how long it is, and what is answered where the output has no room for it (02, W-211).
-- Assumes nothing.
use Rattle.std.specs.Prelude.{ℕ, Bool, ◌&&◌, cond, List, ◌≡◌, leb, length, Result, Ok, Err}
use Rattle.refusal.specs.declared.Refusal.{Refusal}
use Rattle.refusal.specs.declared.Refusal.TheVariants.{ReasonRoom}
use Rattle.refusal.specs.Checks.{Check}
use Rattle.refusal.specs.Table.{number_of, record_of}
use Rattle.reason_range.specs.Fields.{put_field}
use Rattle.wad.specs.Header.{head_of, entry_count}
use Rattle.wad.specs.Entries.{directory_of}
use Rattle.wad.specs.Map.{marker_answer}
use Rattle.node_route.specs.Heights.{graph_verdict}
use Rattle.map_lumps.specs.Lumps.{map_lumps}
use Rattle.map_lumps.specs.Games.{game_at}
use Rattle.map_check.specs.Verdict.{Verdict, check_at, nodes_at, verdict_by, words_after_by, verdict, words_after}
use Rattle.node_path.specs.Ways.{way_of, bytes_of, printed}
use Rattle.reason.specs.declared.Reason.{Reason}
use Rattle.reason_field.specs.Named.{field_ok, named_field}

-- four numbers of 32 bits with 23 to 28, nothing with the other refusals below 31
abbrev pub field_length : Refusal → ℕ
field_length r = cond (field_ok (number_of r)) 16 0

-- the output with the field that a refusal names, where there is room; else as it was
abbrev pub field_printed : Bool → List (List ℕ) → Refusal → List ℕ → List ℕ
field_printed hexen lumps r out =
    cond (field_ok (number_of r) && leb 16 (length out)) (put_field out (named_field hexen lumps (number_of r) (record_of r))) out

-- how much there is to print, by the checks below 31, and where they pass by the node graph
abbrev pub length_by : Check → List ℕ → ℕ
length_by (Ok _) nodes = length (way_of nodes (graph_verdict nodes))
length_by (Err r) nodes = field_length r

-- the output afterwards
abbrev pub out_by : Check → Bool → List (List ℕ) → List ℕ → List ℕ → List ℕ
out_by (Ok _) hexen lumps nodes out = printed out (bytes_of (way_of nodes (graph_verdict nodes)))
out_by (Err r) hexen lumps nodes out = field_printed hexen lumps r out

-- nothing is printed where no marker was found
abbrev pub printed_length : List ℕ → List ℕ → Result ℕ Refusal → ℕ
printed_length wad words (Ok marker) = length_by (check_at wad marker (length words)) (nodes_at wad marker)
printed_length wad words (Err r) = 0

abbrev pub printed_out : List ℕ → List ℕ → List ℕ → Result ℕ Refusal → List ℕ
printed_out wad words out (Ok marker) =
    out_by (check_at wad marker (length words)) (game_at (directory_of wad) (entry_count (head_of wad)) marker)
    (map_lumps wad (directory_of wad) marker) (nodes_at wad marker) out
printed_out wad words out (Err r) = out

-- the verdict and the length; 85, and neither of them, where the output is shorter
abbrev pub answer_by : Verdict → ℕ → ℕ → Reason
answer_by verdict length room =
    cond (leb length room) (record { verdict = verdict; length = length }) (record { verdict = Err ReasonRoom; length = 0 })

-- what is promised: the answer, the words afterwards, which are as the check leaves them, and the output
pub record ReasonTold (wad name words out : List ℕ) (answer : Reason) (wordsThen outThen : List ℕ) : Type 0 where
  pub answers : answer ≡ answer_by (verdict wad name words) (printed_length wad words (marker_answer wad name)) (length out)
  pub leaves : wordsThen ≡ words_after wad name words
  pub prints : outThen ≡ printed_out wad words out (marker_answer wad name)

-- and from a marker on that was found
pub record ReasonToldAt (wad : List ℕ) (marker : ℕ) (words out : List ℕ) (answer : Reason) (wordsThen outThen : List ℕ) : Type 0 where
  pub answers : answer ≡ answer_by (verdict_by wad words (Ok marker)) (printed_length wad words (Ok marker)) (length out)
  pub leaves : wordsThen ≡ words_after_by wad words (Ok marker)
  pub prints : outThen ≡ printed_out wad words out (Ok marker)
