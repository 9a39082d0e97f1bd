-- `map_check::judge_at` meets its contract: a check below 31 refuses, or the node graph answers. Assumes nothing.
use Prim.Native.Nat.{ℕ}
use mathlib.Core.List.{List}
use mathlib.Core.Path.{◌≡◌, refl, sym, ap, ◌∙◌, subst}
use native.Mathlib.Omega.{arith}
use lib.ListN.{length}
use Rattle.std.proofs.lemmas.Result.{err_from_is_err_and}
use Rattle.std.specs.Prelude.{Ok, Err}
use Rattle.map_check.specs.Verdict.{Verdict, check_at, nodes_at}
use Rattle.map_check.specs.Inner.{AnsweredBy}
use Rattle.map_check.proofs.Passing.{check-same, nodes_same, long_at, judgeable_at}
use Rattle.map_check.proofs.Answers.{answered-refused, answered_graph}
use Rattle.map_check.proofs.judge_at.Goals as goal
use Rattle.map_check.proofs.judge_at.Goals.{In_ok-judge_below, After-lump}

-- every check below 31 passes
passes : (c : In_ok-judge_below)
    → check_at c.args.wad.now c.args.marker (length c.args.words.now) ≡ Ok tt
passes c =
    sym
    (c.in_ok-judge_below.ensures
    ∙ check-same c.args.wad.now c.args.marker _ c.directory_of-dir.ensures.result_value c.entry_count.ensures)

-- the NODES lump is that of the map
nodes : (c : After-lump)
    → c.lump.result.now ≡ nodes_at c.args.wad.now c.args.marker
nodes c =
    nodes_same c.args.wad.now c.args.marker c.directory_of-dir.ensures.result_value c.lump.ensures

pub returns-in_err-judge_below : goal.returns-in_err-judge_below
returns-in_err-judge_below c =
    let refused =
    answered-refused c.args.wad.now c.args.marker c.args.words.now
    (sym
    (c.in_err-judge_below.ensures
    ∙ check-same c.args.wad.now c.args.marker _ c.directory_of-dir.ensures.result_value c.entry_count.ensures)) in
    let p = err_from_is_err_and c.from_residual.result c.from_residual.ensures.1 in
    let is : ◌≡◌ {A = Verdict} c.from_residual.result (Err c.in_err-judge_below.field-0.0) = p.1 ∙ ap Err p.2 in
    record { verdicts = is ∙ refused.verdicts; leaves = refused.leaves }

pub invariant_of-lumps : goal.invariant_of-lumps
invariant_of-lumps c =
    let long = long_at c.args.wad.now c.args.marker _ (passes (goal.at.invariant_of-lumps c).In_ok-judge_below) in
    record { present = omega (arith, c.directory_of-dir.ensures.result_len) }

pub judge_graph-requires : goal.judge_graph-requires
judge_graph-requires c =
    judgeable_at c.args.wad.now c.args.marker _ (passes (goal.at.judge_graph-requires c).In_ok-judge_below)
    (nodes (goal.at.judge_graph-requires c).After-lump) c.args.words.now refl

pub returns : goal.returns
returns c =
    let words = c.args.words.now in
    answered_graph c.args.wad.now c.args.marker words (passes (goal.at.returns c).In_ok-judge_below)
    (subst
    (λ (l : List ℕ). AnsweredBy l c.args.marker words c.judge_graph.result c.judge_graph.new.words)
    (nodes (goal.at.returns c).After-lump)
    c.judge_graph.ensures)
