-- Where the graph's verdict is a depth of at most 256, and there are words enough, the draw order lists each reached subsector once;
-- so on every accepted map. Assumes nothing.
use Prim.Native.Nat.{ℕ, ◌+◌, ◌-◌, ◌≤◌, ◌<◌}
use mathlib.Core.Bool.{Bool, true, false}
use mathlib.Core.List.{List, [], ◌∷◌}
use mathlib.Core.Path.{◌≡◌, refl, sym, ap, ◌∙◌}
use native.Mathlib.Decide.{dec_lt}
use native.Mathlib.Omega.{arith}
use borrow.Author.Tests.{le-leb}
use lib.IntN.{ℤ}
use lib.ListN.{length}
use Rattle.std.specs.Prelude.{Ok}
use Rattle.std.specs.Prelude.{Ok}
use Rattle.node.specs.Nodes.{nodes_of, subsector_bit, root}
use Rattle.node_route.specs.Routes.{Reached}
use Rattle.node_route.specs.Heights.{stands, height, words_from, repeats, graph_verdict}
use Rattle.node_route.specs.Reach.{HoldsOnce}
use Rattle.node.proofs.Nodes.{nodes_in_range, root-last}
use Rattle.node_route.proofs.Verdict.{depth_verdict}
use Rattle.node_route.proofs.Shared.{member_follow}
use Rattle.node_route.proofs.Reach.{nodes_in, nodes_held, nodes_few}
use Rattle.node_descent.proofs.Descends.{Passed, nodes_ok_lem, subsectors_ok_lem, descent-holds}
use Rattle.map_check.specs.Verdict.{nodes_at, subsectors_at}
use Rattle.theorem_map.proofs.Demands.{known, known_passed}
use Rattle.draw_order.specs.Lists.{listed, most_passed, root_order, order_check, draw_order}
use Rattle.theorem_draw.specs.Promises.{Draws}
use Rattle.theorem_draw.specs.Accepted.{DrawsAccepted}
use Rattle.draw_order.proofs.Lists.{root_none, root-some}
use Rattle.theorem_draw.proofs.Fronts.{front, front_end, follow_front, front_words, front_repeats, front_length, walk_front, node_front}

module _ (nodes : List ℕ) (subsectors : ℕ) (x y : ℤ) (p : Passed nodes subsectors) where
  -- 40, 41 and 45 pass
  order-passes : (lent : ℕ) → nodes_of nodes + 1 ≤ lent → order_check nodes subsectors lent ≡ Ok tt
  order-passes lent enough =
      rw (nodes_ok_lem nodes subsectors p, subsectors_ok_lem nodes subsectors p, le-leb (nodes_of nodes + 1) lent enough)

  draw_passes : (lent : ℕ) → nodes_of nodes + 1 ≤ lent → draw_order nodes subsectors x y lent ≡ root_order nodes subsectors x y
  unfolding draw_order
  draw_passes lent enough = rw (order-passes lent enough)

  -- the whole list
  abbrev all : List ℕ
  all = front nodes x y (nodes_of nodes) (root (nodes_of nodes))

  root_front : stands nodes (nodes_of nodes) (root (nodes_of nodes)) ≡ false
      → height nodes (nodes_of nodes) (root (nodes_of nodes)) ≤ most_passed → 0 + length all ≤ nodes_of nodes + 1
      → root_order nodes subsectors x y ≡ listed all
  root_front off low room = by (dec_lt 0 (nodes_of nodes))
    where
      by : Dec (0 < nodes_of nodes) → root_order nodes subsectors x y ≡ listed all
      by (yes h) =
          let last = root-last (nodes_of nodes) h in
          let few = p.few in
          root-some nodes subsectors x y h
          ∙ node_front nodes x y subsectors p.in_range (nodes_of nodes) most_passed 0 (nodes_of nodes - 1) (omega arith) (omega arith)
          (rw last at off) (rw last at low) (rw last at room)
          ∙ ap (λ (w : ℕ). listed (front nodes x y (nodes_of nodes) w)) (sym last)
      by (no h) =
          let none : nodes_of nodes ≡ 0 = omega arith in
          let end : subsector_bit ≤ root (nodes_of nodes) = rw none (omega arith) in
          let zeroth : root (nodes_of nodes) - subsector_bit ≡ 0 = rw none in
          root_none nodes subsectors x y none
          ∙ ap listed (sym (front_end nodes x y (nodes_of nodes) end ∙ ap (λ (v : ℕ). v ∷ []) zeroth))

  once_by : (b : Bool) → repeats all ≡ b → stands nodes (nodes_of nodes) (root (nodes_of nodes)) ≡ false
      → repeats (words_from nodes (nodes_of nodes) (root (nodes_of nodes))) ≡ false → b ≡ false
  once_by true e off alone =
      let twice = front_repeats nodes x y (nodes_of nodes) (root (nodes_of nodes)) off e in
      let z : ◌≡◌ {A = ℕ} 0 1 = cc in absurd (omega arith)
  once_by false e off alone = refl

  holds : stands nodes (nodes_of nodes) (root (nodes_of nodes)) ≡ false
      → repeats (words_from nodes (nodes_of nodes) (root (nodes_of nodes))) ≡ false
      → HoldsOnce (λ s. Reached nodes (subsector_bit + s)) all
  holds off alone =
      record {
        every = λ s r. follow_front nodes x y (nodes_of nodes) (root (nodes_of nodes)) off r.choices s r.leads;
        only = λ s m.
            let way =
            member_follow nodes (nodes_of nodes) (root (nodes_of nodes)) (subsector_bit + s)
            (front_words nodes x y (nodes_of nodes) (root (nodes_of nodes)) s off m) in
            record { choices = way.choices; leads = way.leads };
        once = once_by (repeats all) refl off alone;
      }

  pub draws : (depth : ℕ) → graph_verdict nodes ≡ Ok depth → depth ≤ most_passed
      → (lent : ℕ) → nodes_of nodes + 1 ≤ lent → Draws nodes subsectors x y lent
  draws depth e shallow lent enough =
      let (off, alone, is) = depth_verdict nodes e in
      let inside = nodes_in_range nodes subsectors p.in_range in
      let long = front_length nodes x y (nodes_of nodes) (root (nodes_of nodes)) off in
      let room : 0 + length all ≤ nodes_of nodes + 1 = (let few = nodes_few nodes off alone inside in omega arith) in
      let low : height nodes (nodes_of nodes) (root (nodes_of nodes)) ≤ most_passed = rw is shallow in
      let d = descent-holds nodes subsectors p depth e x y in
      let (rest, begins) = walk_front nodes x y d.walk (nodes_of nodes) off in
      record {
        list = all;
        drawn = draw_passes lent enough ∙ root_front off low room;
        each = holds off alone;
        first = d.subsector;
        rest = rest;
        begins = begins;
        count = d.count;
        descends = d.found;
        node_words = nodes_in nodes (nodes_of nodes) (root (nodes_of nodes));
        each_node = nodes_held nodes off alone inside;
        one_more = long;
      }

-- an accepted map has passed what is asked
pub draws_accepted : (wad name words : List ℕ) → DrawsAccepted wad name words
draws_accepted wad name words depth marker e shallow x y lent enough =
    let k = known wad name words depth marker e in
    draws (nodes_at wad marker) (subsectors_at wad marker) x y (known_passed wad name words depth marker k) depth k.deep shallow lent enough
