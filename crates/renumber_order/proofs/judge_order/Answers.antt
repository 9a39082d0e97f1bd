-- `renumber_order::judge_order` meets its contract: the length, the list's numbers, and then the rest. Assumes nothing.
use mathlib.Core.Bool.{Bool}
use mathlib.Core.Path.{◌≡◌, sym, ◌∙◌, subst}
use native.Mathlib.Omega.{arith}
use lib.ListN.{length}
use Rattle.node_graph.proofs.Words.{searchable}
use Rattle.renumber_order.specs.Places.{marked_below, Filled}
use Rattle.renumber_order.proofs.Outcomes.{judged-length, order-few, held_none, judged_nodes, ordered_filled, judged_late}
use Rattle.renumber_order.proofs.judge_order.Goals as goal
use Rattle.renumber_order.proofs.judge_order.Goals.{Else-order-marked_count, After-fill_places}

-- the list is as long as there are marks
long : (c : Else-order-marked_count)
    → (let a = c.args in length a.order.now ≡ length (marked_below a.words.now a.graph.now.count))
long c = c.if-order-marked_count.false ∙ c.marked_count.ensures

-- what the list's numbers told
abbrev Told : After-fill_places → Bool → Type 0
Told c =
    let a = c.args in
    Filled a.graph.now.count c.empty_places.new.words a.order.now c.fill_places.new.words

-- the words are as many as they were
kept : (c : After-fill_places)
    → (length c.fill_places.new.words ≡ length c.args.words.now)
kept c = c.fill_places.auto.words ∙ c.empty_places.auto.words

pub returns-then-order-marked_count : goal.returns-then-order-marked_count
returns-then-order-marked_count c =
    judged-length c.args.graph.now.nodes.now c.args.graph.now.count c.args.words.now c.args.order.now c.args.room (searchable c.args.graph.now c.requires.0) c.requires.1
    (λ (q : length c.args.order.now ≡ length (marked_below c.args.words.now c.args.graph.now.count)). c.if-order-marked_count.true (q ∙ sym c.marked_count.ensures)) _

pub fill_places-requires-clause-count_in_bounds : goal.fill_places-requires-clause-count_in_bounds
fill_places-requires-clause-count_in_bounds c =
    let e = goal.at.fill_places-requires-clause-count_in_bounds c in (
      omega (arith, c.empty_places.auto.words, c.requires.0),
      order-few c.args.graph.now.nodes.now c.args.graph.now.count c.args.words.now c.args.order.now c.args.room (searchable c.args.graph.now c.requires.0) c.requires.1 (long e.Else-order-marked_count)
          _ c.empty_places.ensures,
    )

pub fill_places-requires-clause-places_held : goal.fill_places-requires-clause-places_held
fill_places-requires-clause-places_held c =
    let e = goal.at.fill_places-requires-clause-places_held c in
    held_none c.args.graph.now.nodes.now c.args.graph.now.count c.args.words.now c.args.order.now c.args.room (searchable c.args.graph.now c.requires.0) c.requires.1
    (long e.Else-order-marked_count) _ c.empty_places.ensures

pub returns-then-not-fill_places : goal.returns-then-not-fill_places
returns-then-not-fill_places c =
    let e = goal.at.returns-then-not-fill_places c in
    judged_nodes c.args.graph.now.nodes.now c.args.graph.now.count c.args.words.now c.args.order.now c.args.room (searchable c.args.graph.now c.requires.0) c.requires.1
    (long e.Else-order-marked_count) _ c.empty_places.ensures
    (subst (Told e.After-fill_places) c.if-not-fill_places.true c.fill_places.ensures) _

pub judge_places-requires : goal.judge_places-requires
judge_places-requires c =
    let e = goal.at.judge_places-requires c in
    ordered_filled c.args.graph.now.nodes.now c.args.graph.now.count c.args.words.now c.args.order.now c.args.room (searchable c.args.graph.now c.requires.0) c.requires.1
    (long e.Else-order-marked_count) _ c.empty_places.ensures c.fill_places.new.words (kept e.After-fill_places)
    (subst (Told e.After-fill_places) c.if-not-fill_places.false c.fill_places.ensures)

pub returns : goal.returns
returns c =
    let e = goal.at.returns c in
    judged_late c.args.graph.now.nodes.now c.args.graph.now.count c.args.words.now c.args.order.now c.args.room (searchable c.args.graph.now c.requires.0) c.requires.1
    (long e.Else-order-marked_count) _ c.empty_places.ensures c.fill_places.new.words (kept e.After-fill_places)
    (subst (Told e.After-fill_places) c.if-not-fill_places.false c.fill_places.ensures) c.judge_places.ensures
