-- The map check's answer by what led there: a marker that was found, a check that refused, or the node graph.
-- Assumes nothing.
use Prim.Native.Nat.{ℕ, zero, suc, ◌<◌}
use mathlib.Core.Bool.{Bool, true, false}
use mathlib.Core.List.{List}
use mathlib.Core.Path.{◌≡◌, refl, sym, ap, ◌∙◌}
use native.Mathlib.Omega.{arith}
use lib.ListN.{length}
use Rattle.refusal.specs.declared.Refusal.{Refusal}
use Rattle.refusal.specs.declared.Refusal.TheVariants.{MapName}
use Rattle.refusal.specs.Checks.{Check}
use Rattle.std.specs.Prelude.{Result, Ok, Err}
use Rattle.refusal.specs.Checks.{unless, ◌and_then◌}
use Rattle.refusal.proofs.Checks.{and_then_pass}
use Rattle.wad.specs.Header.{head_of, entry_count}
use Rattle.wad.specs.Entries.{directory_of, entry_name, file_check}
use Rattle.wad.specs.Map.{find_marker, found, marker_answer}
use Rattle.name.specs.Names.{same_name, map_name_ok}
use Rattle.wad.proofs.Search.{find_marker-none, find_marker-found, find_marker_on}
use Rattle.node_route.specs.Heights.{graph_verdict}
use Rattle.map_check.specs.Verdict.{Verdict, judged, words_by, check_at, nodes_at, verdict_by, words_after_by, Answered, AnsweredAt}
use Rattle.map_check.specs.Inner.{AnsweredBy}

-- ---- a marker that was found

module _ (dir name : List ℕ) where
  below_by : (n : ℕ) (b : Bool) → same_name (entry_name dir n) name ≡ b → {m : ℕ} → find_marker dir name (suc n) ≡ Ok m
      → (find_marker dir name n ≡ Ok m → m < n) → m < suc n
  below_by n true e {m} q rec =
      let same : n ≡ m = (let f = find_marker-found dir name n (suc n) refl refl e in cc) in omega arith
  below_by n false e {m} q rec = let h = rec (sym (find_marker_on dir name n (suc n) refl refl e) ∙ q) in omega arith

  pub find_marker-below : (n : ℕ) {m : ℕ} → find_marker dir name n ≡ Ok m → m < n
  find_marker-below zero e = let f = find_marker-none dir name in let z : ◌≡◌ {A = ℕ} 0 1 = cc in absurd (omega arith)
  find_marker-below (suc n) e = below_by n (same_name (entry_name dir n) name) refl e (find_marker-below n)

found-by : (c : Check) (a : Result ℕ Refusal) {m : ℕ} → found c a ≡ Ok m → (c ≡ Ok tt) × (a ≡ Ok m)
found-by (Ok _) a e = (refl, e)
found-by (Err r) a e = let z : ◌≡◌ {A = ℕ} 0 1 = cc in absurd (omega arith)

-- the file passes, and the marker is one of its entries
pub marker_known : (wad name : List ℕ) {m : ℕ} → marker_answer wad name ≡ Ok m → (file_check wad ≡ Ok tt) × (m < entry_count (head_of wad))
marker_known wad name e =
    let p = found-by (file_check wad and_then unless (map_name_ok name) MapName) (find_marker (directory_of wad) name (entry_count (head_of wad))) e in (
      (and_then_pass (file_check wad) (unless (map_name_ok name) MapName) p.0).0,
      find_marker-below (directory_of wad) name (entry_count (head_of wad)) p.1,
    )

-- ---- answers

module _ (wad : List ℕ) (marker : ℕ) (words : List ℕ) where
  pub answered-refused : {r : Refusal} → check_at wad marker (length words) ≡ Err r → AnsweredAt wad marker words (Err r) words
  answered-refused e =
      record {
        verdicts = sym (ap (λ (k : Check). judged k (graph_verdict (nodes_at wad marker)) marker) e);
        leaves = sym (ap (λ (k : Check). words_by k (nodes_at wad marker) words) e);
      }

  pub answered_graph : {a : Verdict} {after : List ℕ} → check_at wad marker (length words) ≡ Ok tt
      → AnsweredBy (nodes_at wad marker) marker words a after → AnsweredAt wad marker words a after
  answered_graph e g =
      record {
        verdicts = g.verdicts ∙ sym (ap (λ (k : Check). judged k (graph_verdict (nodes_at wad marker)) marker) e);
        leaves = g.leaves ∙ sym (ap (λ (k : Check). words_by k (nodes_at wad marker) words) e);
      }

module _ (wad name words : List ℕ) where
  pub answered-none : {r : Refusal} → marker_answer wad name ≡ Err r → Answered wad name words (Err r) words
  answered-none e =
      record {
        verdicts = sym (ap (verdict_by wad words) e);
        leaves = sym (ap (words_after_by wad words) e);
      }

  pub answered_at : {m : ℕ} {a : Verdict} {after : List ℕ} → marker_answer wad name ≡ Ok m
      → AnsweredAt wad m words a after → Answered wad name words a after
  answered_at e g =
      record {
        verdicts = g.verdicts ∙ sym (ap (verdict_by wad words) e);
        leaves = g.leaves ∙ sym (ap (words_after_by wad words) e);
      }
