-- The answer on a map's hazard: the map check's status, and where it accepts the hazard's number, place and record. Assumes nothing.
use Rattle.std.specs.Prelude.{ℕ, List, ◌≡◌, Option, Some, None, Result, Ok, Err}
use Rattle.refusal.specs.declared.Refusal.{Refusal}
use Rattle.refusal.specs.Status.{accepted, refused}
use Rattle.record_table.specs.Lumps.{SSECTORS, BLOCKMAP}
use Rattle.map_check.specs.Verdict.{verdict, words_after}
use Rattle.hazard.specs.declared.Hazard.{Hazard}
use Rattle.hazard.specs.declared.Hazard.TheVariants.{SegTwice, LongList, HighNumber}
use Rattle.hazard.specs.Hazards.{hazard_by}
use Rattle.export_maps.specs.declared.hazards.HazardAnswer.{HazardAnswer}

-- the table of hazards: number, place and record of each
abbrev pub hazard_out : Hazard → HazardAnswer
hazard_out (SegTwice k) = record { status = accepted; hazard = 1; place = SSECTORS; «record» = k }
hazard_out (LongList i) = record { status = accepted; hazard = 2; place = BLOCKMAP; «record» = i }
hazard_out (HighNumber place i) = record { status = accepted; hazard = 3; place = place; «record» = i }

-- a hazard, or none
abbrev pub finding_out : Option Hazard → HazardAnswer
finding_out None = record { status = accepted; hazard = 0; place = 0; «record» = 0 }
finding_out (Some h) = hazard_out h

-- the map check's refusal, or what is found
abbrev pub answer_out : Result (Option Hazard) Refusal → HazardAnswer
answer_out (Ok finding) = finding_out finding
answer_out (Err r) = record { status = refused r; hazard = 0; place = 0; «record» = 0 }

-- the answer, and the words as the map check leaves them
pub record HazardJudged (wad name words : List ℕ) (answer : HazardAnswer) (after : List ℕ) : Type 0 where
  pub answers : answer ≡ answer_out (hazard_by wad (verdict wad name words))
  pub leaves : after ≡ words_after wad name words
