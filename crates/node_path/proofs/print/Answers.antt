-- `node_path::print` meets its contract: each turn prints the choice by the rule, and goes on at its child. Assumes nothing.
use Prim.Native.Nat.{◌<◌}
use mathlib.Core.Path.{refl, ap, ◌∙◌}
use native.Mathlib.Omega.{arith}
use borrow.Author.Rules.{rules}
use lib.ListN.{length, length-set}
use Rattle.node_graph.specs.Looks.{mark_of}
use Rattle.node_path.proofs.Choices.{choices-none, bytes-store, word_more, print_root}
use Rattle.node_path.proofs.print.Goals as goal

pub loop-j-init : goal.loop-j-init
loop-j-init g c =
    let nodes = c.args.graph.now.nodes.now in
    let rule = g.R.MarkRule.choice nodes (mark_of c.args.words.now) in
    (search rules, print_root nodes rule _ _ _ c.requires.printable, rw (choices-none nodes rule 0), refl)

pub loop-j-preserved : goal.loop-j-preserved
loop-j-preserved g c =
    let loop = c.loop-j in
    let nodes = c.args.graph.now.nodes.now in
    let rule = g.R.MarkRule.choice nodes (mark_of c.args.words.now) in
    let told = c.choose-choice.ensures in
    let h : loop.j < length c.args.out.now = omega arith in (
      search rules,
      word_more nodes rule _ _ _ _ loop.invariant.1 told c.child_of-node.ensures.0,
      bytes-store nodes rule _ _ _ _ _ h loop.invariant.2 (told ∙ ap rule loop.invariant.1) c.byte_of.ensures,
      simp length-set loop.invariant.3,
    )
