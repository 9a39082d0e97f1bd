-- Answers on a map, on its game, on a point's descent, and on its draw order. Assumes nothing.
use Rattle.std.specs.Prelude.{true, false, List, ◌≡◌, ℕ, ℤ, length, Result, Ok, Err}
use Rattle.refusal.specs.declared.Refusal.{Refusal}
use Rattle.map_lumps.specs.declared.run.Game.{Game}
use Rattle.map_lumps.specs.declared.run.Game.TheVariants.{Doom, Hexen}
use Rattle.map_check.specs.Verdict.{Verdict, verdict, words_after}
use Rattle.node_descent.specs.declared.Descent.{Descent}
use Rattle.draw_order.specs.Lists.{draw_order}
use Rattle.draw_order.specs.Promises.{order_answer, words_drawn}
use Rattle.export_maps.specs.declared.MapAnswer.{MapAnswer}
use Rattle.export_maps.specs.declared.GameAnswer.{GameAnswer}
use Rattle.export_maps.specs.declared.DescentAnswer.{DescentAnswer}
use Rattle.export_maps.specs.declared.OrderAnswer.{OrderAnswer}
use Rattle.refusal.specs.Status.{accepted, refused}

-- depth and marker of an accepted map
abbrev pub map_out : Verdict → MapAnswer
map_out (Ok a) = record { status = accepted; depth = a.depth; marker = a.marker }
map_out (Err r) = record { status = refused r; depth = 0; marker = 0 }

-- the map check's answer, and the words afterwards
pub record MapJudged (wad name words : List ℕ) (answer : MapAnswer) (after : List ℕ) : Type 0 where
  pub answers : answer ≡ map_out (verdict wad name words)
  pub leaves : after ≡ words_after wad name words

-- whether a map is Hexen's
abbrev pub game_out : Result Game Refusal → GameAnswer
game_out (Ok Doom) = record { status = accepted; hexen = false }
game_out (Ok Hexen) = record { status = accepted; hexen = true }
game_out (Err r) = record { status = refused r; hexen = false }

-- the subsector of a point, and how many nodes were passed
abbrev pub descent_out : Result Descent Refusal → DescentAnswer
descent_out (Ok d) = record { status = accepted; subsector = d.subsector; count = d.count }
descent_out (Err r) = record { status = refused r; subsector = 0; count = 0 }

-- how many subsectors are listed
abbrev pub order_out : Result ℕ Refusal → OrderAnswer
order_out (Ok count) = record { status = accepted; count = count }
order_out (Err r) = record { status = refused r; count = 0 }

-- the draw order's answer, and the words afterwards
pub record OrderDrawn (nodes : List ℕ) (subsectors : ℕ) (x y : ℤ) (words : List ℕ) (answer : OrderAnswer) (after : List ℕ) : Type 0 where
  pub answers : answer ≡ order_out (order_answer (draw_order nodes subsectors x y (length words)))
  pub leaves : after ≡ words_drawn nodes subsectors x y words
