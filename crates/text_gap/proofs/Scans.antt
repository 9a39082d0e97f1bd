-- Laws of a gap read byte by byte: one place more, a stop, the end, and how far it reaches. Assumes nothing.
use Prim.Native.Nat.{ℕ, zero, suc, ◌+◌, ◌-◌, ◌≤◌, ◌<◌}
use mathlib.Core.Bool.{Bool, true, false, cond}
use mathlib.Core.List.{List}
use mathlib.Core.Path.{◌≡◌, sym, ap, ◌∙◌}
use native.Mathlib.Omega.{arith}
use lib.ListN.{get_or}
use Rattle.text_byte.proofs.Spans.{left, none, cond_on, Reach, reach_step}
use Rattle.text_gap.specs.declared.Mode.{Mode}
use Rattle.text_gap.specs.declared.Gap.{Gap}
use Rattle.text_gap.specs.Gaps.{mode_after, is_stop, gap_from}

module _ (text : List ℕ) (mode : Mode) (at end : ℕ) where
  abbrev after : Mode
  after = mode_after mode (get_or text at 0) (get_or text (at + 1) 0)

  gap_next : Mode → Gap
  gap_next m = cond (is_stop m) (record { mode = m; at = at }) (gap_from text m (at + 1) (end - (at + 1)))

  gap_step : at < end → gap_from text mode at (end - at) ≡ gap_next after
  unfolding gap_from gap_next
  gap_step h = ap (gap_from text mode at) (left at end h)

  pub gap_more : {m : Mode} {b : Bool} → at < end → m ≡ after → b ≡ is_stop m → b ≡ false
      → gap_from text mode at (end - at) ≡ gap_from text m (at + 1) (end - (at + 1))
  unfolding gap_next
  gap_more {m} h e s t =
      gap_step h ∙ ap gap_next (sym e)
      ∙ ap (λ (x : Bool). cond x (gapped m) (gap_from text m (at + 1) (end - (at + 1)))) (sym s ∙ t)
    where
      gapped : Mode → Gap
      gapped m = record { mode = m; at = at }

  pub gap-stop : {m : Mode} {b : Bool} → at < end → m ≡ after → b ≡ is_stop m → b ≡ true
      → gap_from text mode at (end - at) ≡ record { mode = m; at = at }
  unfolding gap_next
  gap-stop {m} h e s t =
      gap_step h ∙ ap gap_next (sym e)
      ∙ ap (λ (x : Bool). cond x (gapped m) (gap_from text m (at + 1) (end - (at + 1)))) (sym s ∙ t)
    where
      gapped : Mode → Gap
      gapped m = record { mode = m; at = at }

  pub gap-done : end ≤ at → gap_from text mode at (end - at) ≡ record { mode = mode; at = at }
  unfolding gap_from
  gap-done h = ap (gap_from text mode at) (none at end h)

pub gap_reach : (text : List ℕ) (mode : Mode) (at n : ℕ) → Reach at n (gap_from text mode at n).at
unfolding gap_from
gap_reach text mode at zero = (omega arith, omega arith)
gap_reach text mode at (suc n) =
    let m = mode_after mode (get_or text at 0) (get_or text (at + 1) 0) in
    let r = gap_reach text m (at + 1) n in
    cond_on (λ (s : Gap). Reach at (suc n) s.at) (is_stop m) (λ _. (omega arith, omega arith)) (λ _. reach_step at n r)
