-- Things: the fields, read out of the bytes that were made of them, are those fields, and the bytes are the row of the fields, by the
-- game. Assumes nothing.
-- It stands in specs/ because the law `lossless` of each kind's `impl` cites it. Plain terms: what needs a tactic is a lemma of
-- `record_field`'s proofs/.
use Prim.Native.Nat.{ℕ}
use mathlib.Core.Bool.{Bool, true, false, ◌&&◌, ◌||◌}
use mathlib.Core.Path.{◌≡◌, refl, sym, ap, ◌∙◌}
use mathlib.Core.List.{List, [], ◌∷◌}
use borrow.Author.Tests.{eqb-true}
use lib.Dec.{eqb}
use lib.IntN.{pos}
use Rattle.endian.specs.Signed.{between}
use Rattle.endian.proofs.Unsigned.{u16_whole}
use Rattle.refusal.proofs.Checks.{both}
use Rattle.record_field.specs.Fields.{no_args, args_zero}
use Rattle.record_field.specs.Lossless.{Codec}
use Rattle.record_field.proofs.Fields.{i16_whole, args-whole, args_none, zero_is}
use Rattle.record_field.proofs.FieldRows.{byte, number, signed16, written-whole}
use Rattle.record_thing.specs.declared.Thing.{Thing}
use Rattle.record_thing.specs.Things.{thing_size, thing_of, thing_fields_ok, thing_bytes, ThingFits}

-- a Doom thing that a write accepts has neither id nor height, action or arguments
record Plain (t : Thing) : Type 0 where
  id : pos 0 ≡ t.id
  height : pos 0 ≡ t.height
  action : 0 ≡ t.action
  args : no_args ≡ t.args

plain : (t : Thing) → ThingFits false t → Plain t
plain t h =
    let id = between t.id 0 0 in
    let height = between t.height 0 0 in
    let action = eqb t.action 0 in
    let rest : (id && height && action && args_zero t.args) ≡ true =
    sym (ap (λ (b : Bool). b || (id && height && action && args_zero t.args)) h.game) ∙ h.fields in
    let p = both (id && height && action) (args_zero t.args) rest in
    let q = both (id && height) action p.0 in
    let r = both id height q.0 in
    record {
      id = zero_is t.id r.0;
      height = zero_is t.height r.1;
      action = sym (eqb-true t.action 0 q.1);
      args = args_none t.args h.args p.1;
    }

pub thing : (hexen : Bool) → Codec (thing_size hexen) (thing_of hexen) (thing_bytes hexen) (ThingFits hexen)
thing false =
    record {
      length_encode = λ t. refl;
      decode_encode = λ t h.
          let z = plain t h in
          λ i. record {
            hexen = sym h.game i;
            id = z.id i;
            x = i16_whole t.x h.x i;
            y = i16_whole t.y h.y i;
            height = z.height i;
            angle = u16_whole t.angle i;
            kind = u16_whole t.kind i;
            flags = u16_whole t.flags i;
            action = z.action i;
            args = z.args i;
          };
      encode_decode = written-whole (signed16 ∷ signed16 ∷ number ∷ number ∷ number ∷ []);
    }
thing true =
    record {
      length_encode = λ t. refl;
      decode_encode = λ t h. λ i. record {
        hexen = sym h.game i;
        id = i16_whole t.id h.id i;
        x = i16_whole t.x h.x i;
        y = i16_whole t.y h.y i;
        height = i16_whole t.height h.height i;
        angle = u16_whole t.angle i;
        kind = u16_whole t.kind i;
        flags = u16_whole t.flags i;
        action = t.action;
        args = args-whole t.args h.args i;
      };
      encode_decode =
          written-whole (signed16 ∷ signed16 ∷ signed16 ∷ signed16 ∷ number ∷ number ∷ number
          ∷ byte ∷ byte ∷ byte ∷ byte ∷ byte ∷ byte ∷ []);
    }

-- what was read is accepted
pub thing-good : (hexen : Bool) (bytes : List ℕ) → thing_fields_ok (thing_of hexen bytes) ≡ true
thing-good true bytes = refl
thing-good false bytes = refl
