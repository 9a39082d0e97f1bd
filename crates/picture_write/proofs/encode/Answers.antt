-- `picture_write::encode` meets its contract: what is given, the length and the room are the definition's check, and the lump is
-- stored where it passed. Assumes nothing.
use Prim.Native.Nat.{◌≤◌}
use mathlib.Core.Path.{◌≡◌, sym, ap}
use native.Mathlib.Omega.{arith}
use lib.ListN.{length}
use Rattle.std.specs.Prelude.{Ok}
use Rattle.picture_write.specs.Lump.{written_length}
use Rattle.picture_write.specs.Encoding.{given_check}
use Rattle.picture_write.proofs.Checks.{room_passed, lump-stored, encoded_by}
use Rattle.picture_write.proofs.encode.Goals as goal
use Rattle.picture_write.proofs.encode.Goals.{In_ok-judge_given, Else-out-length}

-- 55 to 57 have passed
passed : (c : In_ok-judge_given)
    → (let a = c.args in given_check a.picture a.colour.now a.cover.now ≡ Ok tt)
passed c = sym c.in_ok-judge_given.ensures

-- 58 too
room : (c : Else-out-length)
    → (let a = c.args in
    written_length a.picture a.cover.now ≤ length a.out.now)
room c = omega (arith, c.written_length-length.ensures, c.if-out-length.false)

pub returns : goal.returns
returns c =
    let a = c.args in
    encoded_by a.picture a.colour.now a.cover.now a.out.now (Ok tt)
    (room_passed a.picture a.colour.now a.cover.now (length a.out.now) (passed (goal.at.returns c).In_ok-judge_given) (room (goal.at.returns c).Else-out-length))
    (ap Ok c.written_length-length.ensures)
    (lump-stored a.picture a.colour.now a.cover.now a.out.now (room (goal.at.returns c).Else-out-length) c.write_columns.ensures
    c.write_header.ensures)
