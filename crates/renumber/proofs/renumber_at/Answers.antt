-- `renumber::renumber_at` meets its contract: a check below 31 refuses, or the node graph and the list answer. Assumes nothing.
use Prim.Native.Nat.{ℕ, ◌*◌}
use mathlib.Core.List.{List}
use mathlib.Core.Path.{◌≡◌, refl, sym, ap, ◌∙◌, subst, subst⁻¹}
use native.Mathlib.Omega.{arith}
use lib.ListN.{length}
use Rattle.std.specs.Prelude.{Result, Ok, Err}
use Rattle.refusal.specs.declared.Refusal.{Refusal}
use Rattle.std.specs.Result.{IsErr, IsErrAnd}
use Rattle.node.specs.Nodes.{nodes_of}
use Rattle.node_graph.specs.Judging.{cleared}
use Rattle.map_check.specs.Verdict.{check_at, nodes_at}
use Rattle.map_check.proofs.Passing.{check-same, nodes_same, long_at, judgeable_at}
use Rattle.renumber.specs.Inner.{RenumbersAt, NodesRenumbered}
use Rattle.renumber.proofs.Verdicts.{at_refused, at_nodes}
use Rattle.renumber.proofs.renumber_at.Goals as goal
use Rattle.renumber.proofs.renumber_at.Goals.{After-from_residual, After-judge_below, In_ok-judge_below, After-lump}

is_err : (x : Result ℕ Refusal) (f : Refusal) → IsErr x → IsErrAnd x (λ r. r ≡ f) → x ≡ Err f
is_err (Ok n) f h k = cc
is_err (Err r) f h k = ap Err k

-- the check below 31 is that of the file's own directory
below : (c : After-judge_below)
    → c.judge_below.result ≡ check_at c.args.wad.now c.args.marker (length c.args.words.now)
below c =
    c.judge_below.ensures
    ∙ check-same c.args.wad.now c.args.marker _ c.directory_of-dir.ensures.result_value c.entry_count.ensures

below' : (c : In_ok-judge_below)
    → c.judge_below.result ≡ check_at c.args.wad.now c.args.marker (length c.args.words.now)
below' c =
    c.judge_below.ensures
    ∙ check-same c.args.wad.now c.args.marker _ c.directory_of-dir.ensures.result_value c.entry_count.ensures

-- it passes
passes : (c : In_ok-judge_below)
    → check_at c.args.wad.now c.args.marker (length c.args.words.now) ≡ Ok tt
passes c = sym (below' c) ∙ c.in_ok-judge_below.was

-- the NODES lump is that of the map
nodes : (c : After-lump)
    → c.lump.result.now ≡ nodes_at c.args.wad.now c.args.marker
nodes c =
    nodes_same c.args.wad.now c.args.marker c.directory_of-dir.ensures.result_value c.lump.ensures

-- the refusal is handed on
handed_on : (c : After-from_residual) → c.from_residual.result ≡ Err c.in_err-judge_below.field-0.0
handed_on c = is_err c.from_residual.result c.in_err-judge_below.field-0.0 c.from_residual.ensures.0 c.from_residual.ensures.1

pub returns-in_err-judge_below : goal.returns-in_err-judge_below
returns-in_err-judge_below c =
    let a = c.args in
    let e = handed_on (goal.at.returns-in_err-judge_below c).After-from_residual in
    subst⁻¹ (λ (x : Result ℕ Refusal). RenumbersAt a.wad.now a.marker a.words.now a.order.now a.out.now x a.words.now a.out.now) e
    (at_refused a.wad.now a.marker a.order.now a.out.now a.words.now (sym (below (goal.at.returns-in_err-judge_below c).After-judge_below) ∙ c.in_err-judge_below.was))

pub invariant_of-lumps : goal.invariant_of-lumps
invariant_of-lumps c =
    let long = long_at c.args.wad.now c.args.marker _ (passes (goal.at.invariant_of-lumps c).In_ok-judge_below) in
    record { present = omega (arith, c.directory_of-dir.ensures.result_len) }

pub renumber_nodes-requires : goal.renumber_nodes-requires
renumber_nodes-requires c =
    judgeable_at c.args.wad.now c.args.marker _ (passes (goal.at.renumber_nodes-requires c).In_ok-judge_below) (nodes (goal.at.renumber_nodes-requires c).After-lump) c.args.words.now refl

pub returns : goal.returns
returns c =
    at_nodes c.args.wad.now c.args.marker c.args.order.now c.args.out.now c.args.words.now (passes (goal.at.returns c).In_ok-judge_below)
    (subst (λ (l : List ℕ). NodesRenumbered l c.args.order.now c.args.out.now c.renumber_nodes.result c.renumber_nodes.new.out) (nodes (goal.at.returns c).After-lump) c.renumber_nodes.ensures.nodes_renumbered)
    (c.renumber_nodes.ensures.words_after ∙ ap (λ (l : List ℕ). cleared c.args.words.now (4 * nodes_of l)) (nodes (goal.at.returns c).After-lump))
