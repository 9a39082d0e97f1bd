-- Linedefs: the fields, read out of the bytes that were made of them, are those fields, and the bytes are the row of the fields, by the
-- game. Assumes nothing.
-- It stands in specs/ because the law `lossless` of each kind's `impl` cites it. Plain terms: what needs a tactic is a lemma of
-- `record_field`'s proofs/.
use Prim.Native.Nat.{ℕ}
use mathlib.Core.Bool.{Bool, true, false, ◌&&◌, cond}
use mathlib.Core.Path.{◌≡◌, refl, sym, ap, ◌∙◌}
use mathlib.Core.List.{List, [], ◌∷◌, ◌++◌}
use borrow.Author.Tests.{eqb-true, leb-true, le-leb}
use lib.Dec.{leb, eqb}
use lib.ListN.{get_or}
use Rattle.endian.specs.Unsigned.{Bytes, u16_at, u16_bytes}
use Rattle.endian.proofs.Unsigned.{u16_whole}
use Rattle.refusal.proofs.Checks.{both}
use Rattle.record_field.specs.Fields.{args_at, args_zero, action_bytes}
use Rattle.record_field.specs.Lossless.{Codec}
use Rattle.record_field.proofs.Fields.{byte-whole, byte-most, args-whole, args_none}
use Rattle.record_field.proofs.FieldRows.{byte, number, written-whole}
use Rattle.record_linedef.specs.declared.Linedef.{Linedef}
use Rattle.record_linedef.specs.Linedefs.{linedef_size, linedef_of, linedef_fields_ok, linedef_bytes, LinedefFits}

-- its test by the game
abbrev fields : Linedef → Bool → Bool
fields l hexen = cond hexen (leb l.special 255 && eqb l.tag 0) (args_zero l.args)

-- Hexen's bytes of what some bytes say, with a special of its own
abbrev special_first : List ℕ → ℕ → List ℕ
special_first bytes special =
    u16_bytes (u16_at bytes 0) ++ u16_bytes (u16_at bytes 2) ++ u16_bytes (u16_at bytes 4)
    ++ action_bytes special (args_at bytes 7)
    ++ u16_bytes (u16_at bytes 12) ++ u16_bytes (u16_at bytes 14)

pub linedef : (hexen : Bool) → Codec (linedef_size hexen) (linedef_of hexen) (linedef_bytes hexen) (LinedefFits hexen)
linedef false =
    record {
      length_encode = λ l. refl;
      decode_encode = λ l h. λ i. record {
        hexen = sym h.game i;
        start = u16_whole l.start i;
        end = u16_whole l.end i;
        flags = u16_whole l.flags i;
        special = u16_whole l.special i;
        tag = u16_whole l.tag i;
        args = args_none l.args h.args (sym (ap (fields l) h.game) ∙ h.fields) i;
        right = u16_whole l.right i;
        left = u16_whole l.left i;
      };
      encode_decode = written-whole (number ∷ number ∷ number ∷ number ∷ number ∷ number ∷ number ∷ []);
    }
linedef true =
    record {
      length_encode = λ l. refl;
      decode_encode = λ l h.
          let good = both (leb l.special 255) (eqb l.tag 0) (sym (ap (fields l) h.game) ∙ h.fields) in
          λ i. record {
            hexen = sym h.game i;
            start = u16_whole l.start i;
            end = u16_whole l.end i;
            flags = u16_whole l.flags i;
            special = byte-whole l.special (leb-true l.special 255 good.0) i;
            tag = sym (eqb-true l.tag 0 good.1) i;
            args = args-whole l.args h.args i;
            right = u16_whole l.right i;
            left = u16_whole l.left i;
          };
      encode_decode = λ bytes e h.
          ap (special_first bytes) (byte-whole (get_or bytes 6 0) (byte-most bytes 6 h))
          ∙ written-whole (number ∷ number ∷ number ∷ byte ∷ byte ∷ byte ∷ byte ∷ byte ∷ byte ∷ number ∷ number ∷ []) bytes e h;
    }

pub linedef-good : (hexen : Bool) (bytes : List ℕ) → Bytes bytes → linedef_fields_ok (linedef_of hexen bytes) ≡ true
linedef-good true bytes h = ap (λ (b : Bool). b && true) (le-leb (get_or bytes 6 0) 255 (byte-most bytes 6 h))
linedef-good false bytes h = refl
