-- What is told, by what led there: a refusal without a field, with one that has room or has not, or the node graph. Assumes nothing.
use Prim.Native.Nat.{ℕ, ◌≤◌, ◌<◌}
use mathlib.Core.Bool.{Bool, true, false, ◌&&◌, cond}
use mathlib.Core.List.{List}
use mathlib.Core.Path.{◌≡◌, refl, sym, ap, ◌∙◌, subst⁻¹}
use native.Mathlib.Omega.{arith}
use borrow.Author.Tests.{leb-true, le-leb, lt-leb}
use lib.Dec.{leb}
use lib.ListN.{length}
use Rattle.refusal.specs.declared.Refusal.{Refusal}
use Rattle.refusal.specs.declared.Refusal.TheVariants.{ReasonRoom}
use Rattle.std.specs.Prelude.{Ok, Err, Option, Some, None, if◌then◌else◌}
use Rattle.reason_range.specs.declared.Field.{Field}
use Rattle.refusal.specs.Table.{number_of, record_of}
use Rattle.refusal.proofs.Checks.{both}
use Rattle.reason_range.specs.Fields.{put_field}
use Rattle.wad.specs.Header.{head_of, entry_count}
use Rattle.wad.specs.Entries.{directory_of}
use Rattle.wad.specs.Map.{marker_answer}
use Rattle.node_route.specs.Heights.{graph_verdict}
use Rattle.map_lumps.specs.Lumps.{map_lumps}
use Rattle.map_lumps.specs.Games.{game_at}
use Rattle.map_check.specs.Verdict.{Verdict, judged, words_by, check_at, nodes_at, verdict_by, words_after_by}
use Rattle.map_check.proofs.Passing.{run_long}
use Rattle.theorem_map.proofs.Refusing.{past_run, past-counts, refused-by}
use Rattle.reason.specs.declared.Reason.{Reason}
use Rattle.reason_field.specs.Named.{field_ok, named_field}
use Rattle.reason.specs.Printing.{length_by, out_by, printed_length, printed_out, answer_by, ReasonTold, ReasonToldAt}
use Rattle.reason_field.specs.Naming.{named_count, Nameable}
use Rattle.reason.specs.Inner.{RefusedBelow, RefusalTold, GraphTold}
use Rattle.reason_field.proofs.Counting.{blockmap-within}

pub answer_fits : (v : Verdict) (l room : ℕ) → l ≤ room → record { verdict = v; length = l } ≡ answer_by v l room
answer_fits v l room h = rw (le-leb l room h)

pub answer_short : (v : Verdict) (l room : ℕ) → room < l → record { verdict = Err ReasonRoom; length = 0 } ≡ answer_by v l room
answer_short v l room h = rw (lt-leb l room h)

-- 23 to 28
pub field_numbers : (n : ℕ) → field_ok n ≡ true → (23 ≤ n) × (n ≤ 28)
field_numbers n e = let p = both (leb 23 n) (leb n 28) e in (leb-true 23 n p.0, leb-true n 28 p.1)

-- whether a field is named
pub bare-none : (b : Bool) (f : Field) → ◌≡◌ {A = Option Field} None (if b then Some f else None) → b ≡ false
bare-none true f e = cc
bare-none false f e = refl

pub named-some : (b : Bool) (f g : Field) → ◌≡◌ {A = Option Field} (Some g) (if b then Some f else None) → (b ≡ true) × (g ≡ f)
named-some true f g e = (refl, cc)
named-some false f g e = cc

module _ (hexen : Bool) (lumps : List (List ℕ)) (r : Refusal) (out : List ℕ) {a : Reason} where
  pub told_none : field_ok (number_of r) ≡ false → a ≡ answer_by (Err r) 0 (length out) → RefusalTold hexen lumps r out a out
  told_none e q =
      record {
        answers = q ∙ ap (λ (b : Bool). answer_by (Err r) (cond b 16 0) (length out)) (sym e);
        prints = ap (λ (b : Bool). cond (b && leb 16 (length out)) (put_field out (named_field hexen lumps (number_of r) (record_of r))) out) (sym e);
      }

  pub told-short : field_ok (number_of r) ≡ true → length out < 16 → a ≡ answer_by (Err r) 16 (length out) → RefusalTold hexen lumps r out a out
  told-short e h q =
      record {
        answers = q ∙ ap (λ (b : Bool). answer_by (Err r) (cond b 16 0) (length out)) (sym e);
        prints = (λ j. cond (sym e j && sym (lt-leb 16 (length out) h) j) (put_field out (named_field hexen lumps (number_of r) (record_of r))) out);
      }

  pub told-field : {after : List ℕ} → field_ok (number_of r) ≡ true → 16 ≤ length out → a ≡ record { verdict = Err r; length = 16 }
      → after ≡ put_field out (named_field hexen lumps (number_of r) (record_of r)) → RefusalTold hexen lumps r out a after
  told-field e h q w =
      record {
        answers = q ∙ answer_fits (Err r) 16 (length out) h ∙ ap (λ (b : Bool). answer_by (Err r) (cond b 16 0) (length out)) (sym e);
        prints = w ∙ (λ j. cond (sym e j && sym (le-leb 16 (length out) h) j) (put_field out (named_field hexen lumps (number_of r) (record_of r))) out);
      }

-- what a refusal with a field leaves to rely on
module _ {wad dir : List ℕ} {count marker : ℕ} {r : Refusal} (b : RefusedBelow wad dir count marker r) (e : field_ok (number_of r) ≡ true) where
  pub nameable : {hexen : Bool} {number i : ℕ} → hexen ≡ game_at dir count marker → number ≡ number_of r → i ≡ record_of r
      → Nameable hexen wad dir marker number i
  nameable {hexen} {number} {i} g n k =
      let numbers = field_numbers (number_of r) e in
      let past = past_run dir count marker (map_lumps wad dir marker) b.lent b.refused (omega (arith, numbers.0)) in
      let long = run_long dir count marker past.0 in
      let within = blockmap-within wad dir marker in
      subst⁻¹ (λ (h : Bool). Nameable h wad dir marker number i) g
      (subst⁻¹ (λ (m : ℕ). Nameable (game_at dir count marker) wad dir marker m i) n
      (subst⁻¹ (λ (m : ℕ). Nameable (game_at dir count marker) wad dir marker (number_of r) m) k
      (record {
        counted =
            record {
              long = omega (arith, b.long);
              counts = past-counts (game_at dir count marker) (map_lumps wad dir marker) b.lent past.1 (omega (arith, numbers.0));
            };
        low = numbers.0;
        high = numbers.1;
        inside =
            refused-by (game_at dir count marker) (map_lumps wad dir marker) b.lent past.1 (omega (arith, numbers.0))
            (λ m j. m ≤ 27 → j < named_count (game_at dir count marker) (map_lumps wad dir marker) m)
            (λ j h _ _. h) (λ j h _ _. h) (λ j h _ _. h) (λ j h _ _. h) (λ j h _ _. h) (λ j _ h. absurd (omega arith)) (λ h. absurd (omega arith));
        small = omega (arith, b.small);
      })))

-- ---- from a marker on

module _ (wad : List ℕ) (marker : ℕ) (words out : List ℕ) where
  pub told-refused : {r : Refusal} {a : Reason} {after : List ℕ} → check_at wad marker (length words) ≡ Err r
      → RefusalTold (game_at (directory_of wad) (entry_count (head_of wad)) marker) (map_lumps wad (directory_of wad) marker) r out a after
      → ReasonToldAt wad marker words out a words after
  told-refused e t =
      record {
        answers = t.answers ∙ (λ j. answer_by (judged (sym e j) (graph_verdict (nodes_at wad marker)) marker) (length_by (sym e j) (nodes_at wad marker)) (length out));
        leaves = λ j. words_by (sym e j) (nodes_at wad marker) words;
        prints = t.prints ∙ (λ j. out_by (sym e j) (game_at (directory_of wad) (entry_count (head_of wad)) marker) (map_lumps wad (directory_of wad) marker) (nodes_at wad marker) out);
      }

  pub told_graph : {a : Reason} {wordsThen outThen : List ℕ} → check_at wad marker (length words) ≡ Ok tt
      → GraphTold (nodes_at wad marker) marker words out a wordsThen outThen → ReasonToldAt wad marker words out a wordsThen outThen
  told_graph e t =
      record {
        answers = t.answers ∙ (λ j. answer_by (judged (sym e j) (graph_verdict (nodes_at wad marker)) marker) (length_by (sym e j) (nodes_at wad marker)) (length out));
        leaves = t.leaves ∙ (λ j. words_by (sym e j) (nodes_at wad marker) words);
        prints = t.prints ∙ (λ j. out_by (sym e j) (game_at (directory_of wad) (entry_count (head_of wad)) marker) (map_lumps wad (directory_of wad) marker) (nodes_at wad marker) out);
      }

module _ (wad name words out : List ℕ) where
  pub told_nowhere : {r : Refusal} → marker_answer wad name ≡ Err r
      → ReasonTold wad name words out (record { verdict = Err r; length = 0 }) words out
  told_nowhere {r} e =
      record {
        answers = answer_fits (Err r) 0 (length out) (omega arith) ∙ (λ j. answer_by (verdict_by wad words (sym e j)) (printed_length wad words (sym e j)) (length out));
        leaves = λ j. words_after_by wad words (sym e j);
        prints = λ j. printed_out wad words out (sym e j);
      }

  pub told_at : {m : ℕ} {a : Reason} {wordsThen outThen : List ℕ} → marker_answer wad name ≡ Ok m
      → ReasonToldAt wad m words out a wordsThen outThen → ReasonTold wad name words out a wordsThen outThen
  told_at e t =
      record {
        answers = t.answers ∙ (λ j. answer_by (verdict_by wad words (sym e j)) (printed_length wad words (sym e j)) (length out));
        leaves = t.leaves ∙ (λ j. words_after_by wad words (sym e j));
        prints = t.prints ∙ (λ j. printed_out wad words out (sym e j));
      }
