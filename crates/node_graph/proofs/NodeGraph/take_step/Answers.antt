-- `node_graph::NodeGraph::take_step` meets its contract: what the look says of the path's end is what each answer has to show.
-- Assumes nothing.
use Prim.Native.Nat.{ℕ, ◌-◌}
use mathlib.Core.List.{List}
use mathlib.Core.Path.{refl, subst, subst⁻¹}
use Rattle.node_graph.specs.declared.Look.{Look}
use Rattle.node_graph.specs.Looks.{path_of}
use Rattle.node_graph.proofs.Looks.{SaidBelow}
use Rattle.node_graph.proofs.Words.{searchable, top_said, top_looped, push_fits, state_push, state_finish}
use Rattle.node_graph.proofs.NodeGraph.take_step.Goals as goal
use Rattle.node_graph.proofs.NodeGraph.take_step.Goals.{After-look_below}

-- what a look at the path's end says
abbrev Said : List ℕ → ℕ → List ℕ → ℕ → Look → Type 0
Said nodes count words sp = SaidBelow nodes count words sp (path_of words count (sp - 1))

said : (c : After-look_below) → Said c.args.self.now.nodes.now c.args.self.now.count c.args.words.now c.args.sp c.look_below.result
said c =
    subst⁻¹ (Said c.args.self.now.nodes.now c.args.self.now.count c.args.words.now c.args.sp) c.look_below.ensures
    (top_said _ _ _ (searchable c.args.self.now c.requires.0) _ c.requires.1 c.requires.2)

pub push-requires : goal.push-requires
push-requires c =
    let (way, is, l, new, due) = subst (Said c.args.self.now.nodes.now c.args.self.now.count c.args.words.now c.args.sp) c.in-New.is (said (goal.at.push-requires c).After-look_below) in
    (l, push_fits _ _ _ (searchable c.args.self.now c.requires.0) _ c.requires.1 c.requires.2 _ l new, c.args.self.now.most)

pub returns-in-New : goal.returns-in-New
returns-in-New c =
    let (way, is, l, new, due) = subst (Said c.args.self.now.nodes.now c.args.self.now.count c.args.words.now c.args.sp) c.in-New.is (said (goal.at.returns-in-New c).After-look_below) in
    rw c.push.ensures (state_push _ _ _ (searchable c.args.self.now c.requires.0) _ c.requires.1 c.requires.2 _ l new way is due)

pub returns-in-OnPath : goal.returns-in-OnPath
returns-in-OnPath c =
    let (way, l, on, due) = subst (Said c.args.self.now.nodes.now c.args.self.now.count c.args.words.now c.args.sp) c.in-OnPath.is (said (goal.at.returns-in-OnPath c).After-look_below) in
    (refl, top_looped _ _ _ (searchable c.args.self.now c.requires.0) _ c.requires.1 c.requires.2 way l on due)

pub returns-in-Height : goal.returns-in-Height
returns-in-Height c =
    let (tall, low, children) = subst (Said c.args.self.now.nodes.now c.args.self.now.count c.args.words.now c.args.sp) c.in-Height.is (said (goal.at.returns-in-Height c).After-look_below) in
    state_finish _ _ _ (searchable c.args.self.now c.requires.0) _ c.requires.1 c.requires.2 _ tall low children
