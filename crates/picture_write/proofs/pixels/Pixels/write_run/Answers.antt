-- `picture_write::pixels::Pixels::write_run` meets its contract: a run of none is nothing, any other its post. Assumes nothing.
use Prim.Native.Nat.{ℕ, zero, suc, ◌<◌}
use mathlib.Core.Path.{◌≡◌, refl, ap, ◌∙◌}
use native.Mathlib.Nat.{not-suc-le-zero}
use native.Mathlib.Omega.{arith}
use lib.ListN.{length}
use Rattle.picture_write.specs.Runs.{post_of}
use Rattle.picture_write.specs.Pixels.{pixel_at}
use Rattle.picture_write.specs.Inner.Runs.{run_bytes}
use Rattle.picture_write.proofs.Runs.{length-post}
use Rattle.picture_write.proofs.pixels.Pixels.write_run.Goals as goal
use Rattle.picture_write.proofs.pixels.Pixels.write_run.Goals.{Else-count-eq0}

some : (colour : ℕ → ℕ) (row count : ℕ) → 0 < count → run_bytes colour row count ≡ post_of colour row count
some colour row zero h = absurd (not-suc-le-zero h)
some colour row (suc count) h = refl

-- the bytes that are written are the post
post : (c : Else-count-eq0)
    → (let a = c.args.self.now in
    let f = pixel_at a.colour.now a.cover.width c.args.column in run_bytes f c.args.row c.args.count ≡ post_of f c.args.row c.args.count)
post c = let a = c.args.self.now in some (pixel_at a.colour.now a.cover.width c.args.column) c.args.row c.args.count (omega (arith, c.if-count-eq0.false))

pub write_post-requires-clause-room : goal.write_post-requires-clause-room
write_post-requires-clause-room c =
    let a = c.args.self.now in
    let e = ap length (post (goal.at.write_post-requires-clause-room c).Else-count-eq0) ∙ length-post (pixel_at a.colour.now a.cover.width c.args.column) c.args.row c.args.count in
    omega (arith, e, c.requires.room)

pub returns-clause-value : goal.returns-clause-value
returns-clause-value c =
    let a = c.args.self.now in
    let e = ap length (post (goal.at.returns-clause-value c).Else-count-eq0) ∙ length-post (pixel_at a.colour.now a.cover.width c.args.column) c.args.row c.args.count in
    omega (arith, e)
