-- Laws of the output after a reason: what it holds where there was room, and that nothing changed where there was none. Assumes nothing.
use Prim.Native.Nat.{ℕ, ◌≤◌}
use mathlib.Core.Bool.{Bool, true, false, ◌&&◌, cond}
use mathlib.Core.List.{List, ◌++◌}
use mathlib.Core.Path.{◌≡◌, refl, ap, ◌∙◌}
use borrow.Author.Tests.{leb-true}
use lib.Dec.{leb}
use lib.ListN.{length, drop, take, length-map}
use lib.Seq.{take_at, drop_at}
use Rattle.refusal.specs.Checks.{Check}
use Rattle.std.specs.Prelude.{Ok, Err}
use Rattle.refusal.specs.Table.{number_of, record_of}
use Rattle.reason_range.specs.declared.Field.{Field}
use Rattle.reason_range.specs.Fields.{put_field}
use Rattle.reason_range.proofs.Said.{fields_said}
use Rattle.node.specs.declared.Choice.{Choice}
use Rattle.node_route.specs.Heights.{graph_verdict}
use Rattle.node_path.specs.Ways.{way_of, choice_byte, bytes_of, printed}
use Rattle.reason_field.specs.Named.{field_ok, named_field}
use Rattle.reason.specs.Printing.{length_by, out_by}
use Rattle.theorem_reason.specs.Promises.{field_in, ChoicesIn}

-- ---- a field

-- what is written reads back as the field
pub field_in_put : (out : List ℕ) (f : Field) → 16 ≤ length out → field_in (put_field out f) ≡ f
field_in_put out f h =
    let s = fields_said out f h in
    λ i. record { offset = s.offset i; number = s.number i; least = s.least i; most = s.most i }

put_short : (b : Bool) (out put : List ℕ) → leb (cond b 16 0) (length out) ≡ false → cond (b && leb 16 (length out)) put out ≡ out
put_short true out put e = ap (λ (c : Bool). cond c put out) e
put_short false out put e = refl

put_rest : (b : Bool) (out : List ℕ) (f : Field) → leb (cond b 16 0) (length out) ≡ true
    → drop (cond b 16 0) (cond (b && leb 16 (length out)) (put_field out f) out) ≡ drop (cond b 16 0) out
put_rest true out f e = ap (λ (c : Bool). drop 16 (cond c (put_field out f) out)) e ∙ (fields_said out f (leb-true 16 (length out) e)).rest
put_rest false out f e = refl

-- ---- a list of choices

module _ (out : List ℕ) (cs : List Choice) where
  -- as many bytes as choices
  bytes-long : length (bytes_of cs) ≡ length cs
  bytes-long = length-map cs choice_byte

  printed-room : leb (length cs) (length out) ≡ true → printed out (bytes_of cs) ≡ bytes_of cs ++ drop (length (bytes_of cs)) out
  printed-room e =
      ap (λ (c : Bool). cond c (bytes_of cs ++ drop (length (bytes_of cs)) out) out) (ap (λ (n : ℕ). leb n (length out)) bytes-long ∙ e)

  pub printed-short : leb (length cs) (length out) ≡ false → printed out (bytes_of cs) ≡ out
  printed-short e =
      ap (λ (c : Bool). cond c (bytes_of cs ++ drop (length (bytes_of cs)) out) out) (ap (λ (n : ℕ). leb n (length out)) bytes-long ∙ e)

  pub printed-choices : leb (length cs) (length out) ≡ true → ChoicesIn (printed out (bytes_of cs)) (length cs) cs
  printed-choices e =
      record {
        long = refl;
        bytes = ap (take (length cs)) (printed-room e) ∙ take_at (bytes_of cs) (drop (length (bytes_of cs)) out) (length cs) bytes-long;
      }

  pub printed-rest : leb (length cs) (length out) ≡ true → drop (length cs) (printed out (bytes_of cs)) ≡ drop (length cs) out
  printed-rest e =
      ap (drop (length cs)) (printed-room e) ∙ drop_at (bytes_of cs) (drop (length (bytes_of cs)) out) (length cs) bytes-long
      ∙ ap (λ (n : ℕ). drop n out) bytes-long

-- ---- by the checks below 31

module _ (hexen : Bool) (lumps : List (List ℕ)) (nodes out : List ℕ) where
  -- without room the output is as found
  pub out_by-short : (c : Check) → leb (length_by c nodes) (length out) ≡ false → out_by c hexen lumps nodes out ≡ out
  out_by-short (Ok _) e = printed-short out (way_of nodes (graph_verdict nodes)) e
  out_by-short (Err r) e = put_short (field_ok (number_of r)) out (put_field out (named_field hexen lumps (number_of r) (record_of r))) e

  -- with room what is behind the printed bytes is
  pub out_by-rest : (c : Check) → leb (length_by c nodes) (length out) ≡ true
      → drop (length_by c nodes) (out_by c hexen lumps nodes out) ≡ drop (length_by c nodes) out
  out_by-rest (Ok _) e = printed-rest out (way_of nodes (graph_verdict nodes)) e
  out_by-rest (Err r) e = put_rest (field_ok (number_of r)) out (named_field hexen lumps (number_of r) (record_of r)) e
