-- `reason::judge_at` meets its contract: a check below 31 refuses, or the node graph answers. Assumes nothing.
use Prim.Native.Nat.{ℕ}
use mathlib.Core.List.{List}
use mathlib.Core.Path.{◌≡◌, refl, sym, ◌∙◌, subst}
use native.Mathlib.Omega.{arith}
use lib.ListN.{length}
use Rattle.std.specs.Prelude.{Ok}
use Rattle.wad.specs.Header.{head_of, entry_count}
use Rattle.wad.proofs.Listing.{file-header, file_sound}
use Rattle.map_lumps.specs.Lumps.{map_lumps}
use Rattle.map_lumps.specs.Games.{game_at}
use Rattle.map_check.specs.Verdict.{check_at, nodes_at}
use Rattle.map_check.proofs.Passing.{check-same, nodes_same, long_at, judgeable_at}
use Rattle.reason.specs.Inner.{RefusalTold, GraphTold}
use Rattle.reason.proofs.Printing.{told-refused, told_graph}
use Rattle.reason.proofs.judge_at.Goals as goal
use Rattle.reason.proofs.judge_at.Goals.{After-judge_below, In_default, After-lump}

-- the check below 31 is that of the file's own directory
below : (c : After-judge_below)
    → c.judge_below.result ≡ check_at c.args.wad.now c.args.marker (length c.args.words.now)
below c =
    c.judge_below.ensures
    ∙ check-same c.args.wad.now c.args.marker _ c.directory_of-dir.ensures.result_value c.entry_count.ensures

below' : (c : In_default)
    → c.judge_below.result ≡ check_at c.args.wad.now c.args.marker (length c.args.words.now)
below' c =
    c.judge_below.ensures
    ∙ check-same c.args.wad.now c.args.marker _ c.directory_of-dir.ensures.result_value c.entry_count.ensures

-- it passes
passes : (c : In_default)
    → check_at c.args.wad.now c.args.marker (length c.args.words.now) ≡ Ok tt
passes c = sym (below' c) ∙ c.in_default.is

-- the NODES lump is that of the map
nodes : (c : After-lump)
    → c.lump.result.now ≡ nodes_at c.args.wad.now c.args.marker
nodes c =
    nodes_same c.args.wad.now c.args.marker c.directory_of-dir.ensures.result_value c.lump.ensures

pub tell_refusal-requires : goal.tell_refusal-requires
tell_refusal-requires c =
    let sound = file_sound c.args.wad.now (file-header c.args.wad.now c.requires.0) in
    record {
      long = omega (arith, c.entry_count.ensures, c.directory_of-dir.ensures.result_len);
      marked = omega (arith, c.entry_count.ensures, c.requires.1);
      small = sound.high;
      lent = length c.args.words.now;
      refused = sym c.judge_below.ensures ∙ c.in-Err.is;
    }

pub returns-in-Err : goal.returns-in-Err
returns-in-Err c =
    told-refused c.args.wad.now c.args.marker c.args.words.now c.args.out.now
    (sym (below (goal.at.returns-in-Err c).After-judge_below) ∙ c.in-Err.is)
    (subst
    (λ (d : List ℕ). RefusalTold (game_at d (entry_count (head_of c.args.wad.now)) c.args.marker) (map_lumps c.args.wad.now d c.args.marker) c.in-Err.r c.args.out.now c.tell_refusal.result c.tell_refusal.new.out)
    c.directory_of-dir.ensures.result_value
    (subst
    (λ (n : ℕ). RefusalTold (game_at c.directory_of-dir.result.now n c.args.marker) (map_lumps c.args.wad.now c.directory_of-dir.result.now c.args.marker) c.in-Err.r c.args.out.now c.tell_refusal.result c.tell_refusal.new.out)
    c.entry_count.ensures
    c.tell_refusal.ensures))

pub invariant_of-lumps : goal.invariant_of-lumps
invariant_of-lumps c =
    let long = long_at c.args.wad.now c.args.marker _ (passes (goal.at.invariant_of-lumps c).In_default) in
    record { present = omega (arith, c.directory_of-dir.ensures.result_len) }

pub tell_graph-requires : goal.tell_graph-requires
tell_graph-requires c =
    judgeable_at c.args.wad.now c.args.marker _ (passes (goal.at.tell_graph-requires c).In_default) (nodes (goal.at.tell_graph-requires c).After-lump) c.args.words.now refl

pub returns : goal.returns
returns c =
    told_graph c.args.wad.now c.args.marker c.args.words.now c.args.out.now (passes (goal.at.returns c).In_default)
    (subst
    (λ (l : List ℕ). GraphTold l c.args.marker c.args.words.now c.args.out.now c.tell_graph.result c.tell_graph.new.words c.tell_graph.new.out)
    (nodes (goal.at.returns c).After-lump)
    c.tell_graph.ensures)
