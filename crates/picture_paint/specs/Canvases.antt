-- Not for the reader of promises: what only contracts of inner functions cite, what stays of a canvas that is painted on.
-- Assumes nothing.
use Rattle.std.specs.Prelude.{◌≡◌}
use Rattle.picture_paint.specs.declared.canvas.Canvas.{Canvas}

-- the same picture, on the same two planes
pub record IsSamePicture (old new : Canvas) : Type 0 where
  pub lump : new.lump.now ≡ old.lump.now
  pub width : new.width ≡ old.width
  pub colour : new.colour.ghost_name ≡ old.colour.ghost_name
  pub cover : new.cover.ghost_name ≡ old.cover.ghost_name
