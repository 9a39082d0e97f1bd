-- Laws of the first field out of its range: what a function that looks at one field after the other has to show, and that there is one where
-- not all are in range. Assumes nothing.
use mathlib.Core.Bool.{Bool, true, false, ◌&&◌, cond, true≢false}
use mathlib.Core.List.{List, [], ◌∷◌, ◌++◌}
use mathlib.Core.Path.{◌≡◌, refl, sym, ap, subst, ◌∙◌}
use Rattle.reason_range.specs.declared.Field.{Field}
use Rattle.std.specs.Prelude.{Ok, Err}
use Rattle.std.specs.Result.{result_and}
use Rattle.reason_range.specs.Fields.{in_range, all_in, no_field, first_of, first_out, fields_check, named_by, FirstOut}

pub first_of_in : (f g : Field) → in_range f ≡ true → g ≡ first_of f g
first_of_in f g e = sym (ap (λ (b : Bool). cond b g f) e)

pub first_of-out : (f g : Field) → in_range f ≡ false → f ≡ first_of f g
first_of-out f g e = sym (ap (λ (b : Bool). cond b g f) e)

pub all_in-none : all_in [] ≡ true
unfolding all_in
all_in-none = refl

pub all_in-more : (f : Field) (fs : List Field) → all_in (f ∷ fs) ≡ (in_range f && all_in fs)
unfolding all_in
all_in-more f fs = refl

pub first_out-none : first_out [] ≡ no_field
unfolding first_out
first_out-none = refl

pub first_out-more : (f : Field) (fs : List Field) → first_out (f ∷ fs) ≡ first_of f (first_out fs)
unfolding first_out
first_out-more f fs = refl

-- the field that the check of a row names
pub named-check : (fs : List Field) → named_by (fields_check fs) ≡ first_out fs
named-check [] = sym first_out-none
named-check (f ∷ fs) = by_test (in_range f) (named-check fs) ∙ sym (first_out-more f fs)
  where
    by_test : (b : Bool) → named_by (fields_check fs) ≡ first_out fs
        → named_by (result_and (cond b (Ok (tt {0})) (Err f)) (fields_check fs)) ≡ cond b (first_out fs) f
    by_test true e = e
    by_test false e = refl

-- ---- where not all are in range, there is a first that is not

-- one more field in front, by its test
ahead : (f : Field) (fs : List Field) (b : Bool) → in_range f ≡ b → (all_in fs ≡ false → FirstOut fs (first_out fs))
    → (b && all_in fs) ≡ false → FirstOut (f ∷ fs) (first_out (f ∷ fs))
ahead f fs true e rest q =
    let r = rest q in
    subst (FirstOut (f ∷ fs)) (first_of_in f (first_out fs) e ∙ sym (first_out-more f fs))
    (record {
      before = f ∷ r.before;
      after = r.after;
      stands = ap (λ (l : List Field). f ∷ l) r.stands;
      good = rw (all_in-more f r.before, e) r.good;
      out = r.out;
    })
ahead f fs false e rest q =
    subst (FirstOut (f ∷ fs)) (first_of-out f (first_out fs) e ∙ sym (first_out-more f fs))
    (record { before = []; after = fs; stands = refl; good = all_in-none; out = e })

pub first_out_lem : (fs : List Field) → all_in fs ≡ false → FirstOut fs (first_out fs)
first_out_lem [] e = absurd (true≢false (sym all_in-none ∙ e))
first_out_lem (f ∷ fs) e = ahead f fs (in_range f) refl (first_out_lem fs) (sym (all_in-more f fs) ∙ e)

-- ---- what holds of each field holds of the first

-- `P` holds of each of a row
abbrev pub Each : (Field → Type 0) → List Field → Type 0
Each P [] = Unit
Each P (f ∷ fs) = P f × Each P fs

each_at : (P : Field → Type 0) (before after : List Field) (f : Field) → Each P (before ++ (f ∷ after)) → P f
each_at P [] after f h = h.0
each_at P (g ∷ before) after f h = each_at P before after f h.1

pub first_holds : (P : Field → Type 0) (fs : List Field) (f : Field) → Each P fs → FirstOut fs f → P f
first_holds P fs f h o = each_at P o.before o.after f (subst (Each P) o.stands h)
