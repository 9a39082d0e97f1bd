-- The examples of 01 compute. Assumes nothing.
use mathlib.Core.Bool.{Bool, true, false, cond}
use mathlib.Core.Path.{◌≡◌, refl}
use borrow.Author.Tests.{lt-ltb, le-ltb}
use lib.IntN.{pos}
use lib.Signed.{le_z}
use Rattle.refusal.specs.Checks.{each}
use Rattle.wad.specs.Map.{find_marker}
use Rattle.node.specs.declared.Choice.TheVariants.{Right}
use Rattle.node_descent.specs.Side.{left_if, side_at}
use Rattle.node_route.specs.Heights.{stands, height, words_from, graph_verdict}
use Rattle.node_descent.specs.Walks.{descent_from, descent}
use Rattle.map_blockmap.specs.Blockmap.{list_ends, numbers_from}
use Rattle.picture.specs.Judging.{posts_check}
use Rattle.picture_paint.specs.Pixels.{over_posts, list_of}
use Rattle.theorem_examples.specs.Examples.{Examples}

-- neither answer of an upright line without direction is left
right : (t : Bool) → left_if (cond t false false) ≡ Right
right true = refl
right false = refl

pub examples : Examples
unfolding each find_marker stands height words_from graph_verdict side_at descent_from descent list_ends numbers_from posts_check over_posts list_of
examples =
    record {
      a = (refl, (refl, refl));
      b = (refl, refl);
      c_right = refl;
      c_on = refl;
      c_left = refl;
      d_product = refl;
      d_left = refl;
      e_first = (refl, refl);
      e_in_range = λ count subsectors h. lt-ltb 0 subsectors h;
      e_never = λ count subsectors h. le-ltb 32767 subsectors h;
      f_depth = refl;
      f_descent = λ x y. refl;
      g = refl;
      g-refused = λ a b c d. refl;
      g-different = refl;
      g-accepted = λ a b c d. refl;
      h = refl;
      h-refused = λ a b c d. refl;
      i = refl;
      i-accepted = refl;
      j = refl;
      j-accepted = refl;
      k_none = refl;
      k_three = refl;
      k_good = (refl, refl);
      l_accepted = refl;
      l_colour = refl;
      l_cover = refl;
      hexen_accepted = refl;
      hexen_size = refl;
      doom_accepted = refl;
      doom_size = refl;
      game_hexen = refl;
      game_doom = refl;
      game-later = refl;
      game-past = refl;
      up = λ y. refl;
      down = λ y. refl;
      east = λ x. refl;
      west = λ x. refl;
      none = λ x y px py. right (le_z x px);
      unmet = λ x y. rw (right (le_z x (pos 0)));
      met = λ x y. rw (right (le_z x (pos 0)));
    }
