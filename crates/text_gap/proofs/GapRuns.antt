-- Laws of a gap read comment by comment. Those of one byte are in Scans. Assumes nothing.
use Prim.Native.Nat.{ℕ, zero, suc, ◌+◌, ◌-◌, ◌≤◌, ◌<◌}
use mathlib.Core.Bool.{Bool, true, false, not, ◌&&◌, cond, and-eq-true_iff, true≢false}
use mathlib.Core.List.{List}
use mathlib.Core.Path.{◌≡◌, refl, sym, ap, ◌∙◌, subst}
use native.Mathlib.Omega.{arith}
use borrow.Author.Tests.{ltb-true, ltb-false, not-true, not-false}
use denote.Enum.Bare.{sameb}
use lib.Dec.{eqb, ltb}
use lib.ListN.{get_or, length}
use Rattle.text_gap.specs.declared.Mode.{Mode}
use Rattle.text_gap.specs.declared.Mode.TheVariants.{Between, Line, Opening, Comment, Star, Stop}
use Rattle.text_gap.specs.contracts.Mode.{the_type}
use Rattle.text_gap.specs.declared.Gap.{Gap}
use Rattle.text_byte.specs.Bytes.{newline, star, slash, is_blank, opens_line, opens_comment}
use Rattle.text_gap.specs.Gaps.{mode_after, is_stop, gap, gap_from}
use Rattle.text_byte.specs.Spans.{span_end}
use Rattle.text_gap.specs.Passing.{blank_at, other_at, other_end, starts_token, Stays, is_between, Ends}
use Rattle.text_gap.proofs.Scans.{gap_more, gap-stop, gap-done}
use Rattle.text_byte.proofs.Spans.{cond_on, span_done, span_stops, by_test}

module _ (text : List ℕ) (mode : Mode) where
  abbrev Kept : (ℕ → Bool) → Type 0
  Kept test = (i : ℕ) → test i ≡ true → mode ≡ mode_after mode (get_or text i 0) (get_or text (i + 1) 0)

  -- the mode stays over places that pass a test
  stays_for : (test : ℕ → Bool) → is_stop mode ≡ false → Kept test → (n at : ℕ) → n + at ≡ length text → Stays text mode at (span_end test at n)
  unfolding span_end
  stays_for test moves keeps zero at k = record { same = refl; onward = omega arith; inside = omega arith }
  stays_for test moves keeps (suc n) at k =
      let next = stays_for test moves keeps n (at + 1) (omega arith) in
      let o = next.onward in
      cond_on (Stays text mode at) (test at)
      (λ t. record {
        same = gap_more text mode at (length text) (omega arith) (keeps at t) refl moves ∙ next.same;
        onward = omega arith;
        inside = next.inside;
      })
      (λ _. record { same = refl; onward = omega arith; inside = omega arith })

  pub stays_span : (test : ℕ → Bool) → is_stop mode ≡ false → Kept test → (at : ℕ) {to : ℕ} → at ≤ length text → to ≡ span_end test at (length text - at) → Stays text mode at to
  stays_span test moves keeps at h e = subst (Stays text mode at) (sym e) (stays_for test moves keeps (length text - at) at (omega arith))

-- of each mode which bytes keep it
abbrev between' : List ℕ → ℕ → Mode
between' text i = cond (opens_line (get_or text i 0) (get_or text (i + 1) 0)) Line (cond (opens_comment (get_or text i 0) (get_or text (i + 1) 0)) Opening Stop)

pub between-kept : (text : List ℕ) (i : ℕ) → blank_at text i ≡ true → Between ≡ mode_after Between (get_or text i 0) (get_or text (i + 1) 0)
between-kept text i e = ap (λ (b : Bool). cond b Between (between' text i)) (sym e)

pub line_kept : (text : List ℕ) (i : ℕ) → other_at text newline i ≡ true → Line ≡ mode_after Line (get_or text i 0) (get_or text (i + 1) 0)
line_kept text i e = ap (λ (b : Bool). cond b Between Line) (sym (not-true (eqb (get_or text i 0) newline) e))

pub comment-kept : (text : List ℕ) (i : ℕ) → other_at text star i ≡ true → Comment ≡ mode_after Comment (get_or text i 0) (get_or text (i + 1) 0)
comment-kept text i e = ap (λ (b : Bool). cond b Star Comment) (sym (not-true (eqb (get_or text i 0) star) e))

-- white space alone is passed over
pub blanks_same : (text : List ℕ) (from : ℕ) {to : ℕ} → to ≡ span_end (blank_at text) from (length text - from)
    → gap_from text Between from (length text - from) ≡ gap_from text Between to (length text - to)
blanks_same text from {to} e =
    by_test (ltb (length text) from)
    (λ l. let h = ltb-true (length text) from l in
    let same : to ≡ from = e ∙ span_done (blank_at text) from (length text) (omega arith) in
    ap (λ (k : ℕ). gap_from text Between k (length text - k)) (sym same))
    (λ l. let h = ltb-false (length text) from l in
    (stays_span text Between (blank_at text) refl (between-kept text) from (omega arith) e).same)

-- neither white space nor a comment begins with such a byte
begins : (blank slash' x y : Bool) → blank ≡ false → slash' ≡ false
    → Stop ≡ cond blank Between (cond (slash' && x) Line (cond (slash' && y) Opening Stop))
begins true slash' x y e f = absurd (true≢false e)
begins false true x y e f = absurd (true≢false f)
begins false false x y e f = refl

-- a token begins there
pub token-starts : (text : List ℕ) (at : ℕ) → starts_token text at ≡ true → gap_from text Between at (length text - at) ≡ gap Stop at
token-starts text at e =
    let b = get_or text at 0 in
    let c = get_or text (at + 1) 0 in
    let inside = (and-eq-true_iff (ltb at (length text)) (not (is_blank b) && not (eqb b slash))).0 e in
    let other = (and-eq-true_iff (not (is_blank b)) (not (eqb b slash))).0 inside.1 in
    gap-stop text Between at (length text) (ltb-true at (length text) inside.0)
    (begins (is_blank b) (eqb b slash) (eqb c slash) (eqb c star) (not-true (is_blank b) other.0) (not-true (eqb b slash) other.1)) refl refl

-- the code's test whether a mode is between tokens
pub is_same : (m : Mode) → is_between m ≡ sameb the_type m Between
is_same Between = refl
is_same Line = refl
is_same Opening = refl
is_same Comment = refl
is_same Star = refl
is_same Stop = refl

-- a mode that is between tokens
pub between_is : (m : Mode) → is_between m ≡ true → m ≡ Between
between_is Between e = refl
between_is Line e = absurd (true≢false (sym e))
between_is Opening e = absurd (true≢false (sym e))
between_is Comment e = absurd (true≢false (sym e))
between_is Star e = absurd (true≢false (sym e))
between_is Stop e = absurd (true≢false (sym e))

module _ (text : List ℕ) where
  -- a byte, and what is read behind it
  pub ends-behind : (m : Mode) (at : ℕ) {next : Mode} {g : Gap} → at < length text → next ≡ mode_after m (get_or text at 0) (get_or text (at + 1) 0)
      → is_stop next ≡ false → Ends text next (at + 1) g → Ends text m at g
  ends-behind m at h e s r = record {
    same = gap_more text m at (length text) h e refl s ∙ r.same;
    onward = λ b. let k = r.onward b in omega (arith, k);
    ended = r.ended;
  }

  -- between tokens further on, or at the text's end in a comment
  pub ends-between : (m : Mode) (at to : ℕ) → gap_from text m at (length text - at) ≡ gap_from text Between to (length text - to) → at < to → Ends text m at (gap Between to)
  ends-between m at to e h = record { same = e; onward = λ _. h; ended = λ f. absurd (true≢false f) }

  pub ends_open : (m n : Mode) (at to : ℕ) → is_between n ≡ false → gap_from text m at (length text - at) ≡ gap_from text n to (length text - to) → length text ≤ to
      → Ends text m at (gap n to)
  ends_open m n at to b e h = record { same = e; onward = λ f. absurd (true≢false (sym f ∙ b)); ended = λ _. gap-done text n to (length text) h }

  -- a token's first byte
  stopped : (at n : ℕ) → gap_from text Stop at n ≡ gap Stop at
  unfolding gap_from
  stopped at zero = refl
  stopped at (suc n) = refl

  pub ends-stop : (m : Mode) (at : ℕ) → at < length text → Stop ≡ mode_after m (get_or text at 0) (get_or text (at + 1) 0) → Ends text m at (gap Stop at)
  ends-stop m at h e = record {
    same = gap-stop text m at (length text) h e refl refl ∙ sym (stopped at (length text - at));
    onward = λ f. absurd (true≢false (sym f));
    ended = λ _. stopped at (length text - at);
  }

  -- the byte that was looked for stands there
  byte_there : (b from : ℕ) {at : ℕ} → at ≡ other_end text b from → from ≤ length text → at < length text → eqb (get_or text at 0) b ≡ true
  byte_there b from {at} e h k =
      let stop = span_stops (other_at text b) (length text - from) from (omega (arith, h, k, e)) in
      not-false (eqb (get_or text at 0) b) (ap (other_at text b) e ∙ stop)

  pub line_stays : (from : ℕ) {at : ℕ} → at ≡ other_end text newline from → from ≤ length text → Stays text Line from at
  line_stays from e h = stays_span text Line (other_at text newline) refl (line_kept text) from h e

  pub line-closes : (from : ℕ) {at : ℕ} → at ≡ other_end text newline from → from ≤ length text → at < length text → Ends text Line from (gap Between (at + 1))
  line-closes from {at} e h k =
      let s = line_stays from e h in
      let o = s.onward in
      let b = byte_there newline from e h k in
      ends-between Line from (at + 1) (s.same ∙ gap_more text Line at (length text) k (ap (λ (x : Bool). cond x Between Line) (sym b)) refl refl) (omega (arith, o))

  pub comment_stays : (from : ℕ) {at : ℕ} → at ≡ other_end text star from → from ≤ length text → Stays text Comment from at
  comment_stays from e h = stays_span text Comment (other_at text star) refl (comment-kept text) from h e

  -- a star in a comment: it closes before a slash, and before any other byte the comment goes on
  pub star-met : (from : ℕ) {at : ℕ} → at ≡ other_end text star from → from ≤ length text → at < length text
      → gap_from text Comment from (length text - from) ≡ gap_from text Star (at + 1) (length text - (at + 1))
  star-met from {at} e h k =
      (comment_stays from e h).same
      ∙ gap_more text Comment at (length text) k (ap (λ (x : Bool). cond x Star Comment) (sym (byte_there star from e h k))) refl refl

  pub star-closes : (at : ℕ) → at < length text → eqb (get_or text at 0) slash ≡ true
      → gap_from text Star at (length text - at) ≡ gap_from text Between (at + 1) (length text - (at + 1))
  star-closes at h e =
      gap_more text Star at (length text) h (ap (λ (x : Bool). cond x Between (cond (eqb (get_or text at 0) star) Star Comment)) (sym e)) refl refl

  pub star-passes : (at : ℕ) → at < length text → eqb (get_or text at 0) slash ≡ false
      → gap_from text Star at (length text - at) ≡ gap_from text Comment at (length text - at)
  star-passes at h e =
      by_test (eqb (get_or text at 0) star)
      (λ s. gap_more text Star at (length text) h (λ i. cond (sym e i) Between (cond (sym s i) Star Comment)) refl refl
      ∙ sym (gap_more text Comment at (length text) h (ap (λ (x : Bool). cond x Star Comment) (sym s)) refl refl))
      (λ s. gap_more text Star at (length text) h (λ i. cond (sym e i) Between (cond (sym s i) Star Comment)) refl refl
      ∙ sym (gap_more text Comment at (length text) h (ap (λ (x : Bool). cond x Star Comment) (sym s)) refl refl))
