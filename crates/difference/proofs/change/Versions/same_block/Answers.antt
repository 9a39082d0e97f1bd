-- `difference::change::Versions::same_block` meets its contract: the block is one run of bytes. Assumes nothing.
use Rattle.std.proofs.Common.{sym, ◌∙◌}
use Rattle.difference.proofs.Comparing.{run_same}
use Rattle.difference.proofs.change.Versions.same_block.Goals as goal

pub returns : goal.returns
returns c =
    let v = c.args.self.now in
    λ e. run_same v.size v.old.now v.new.now c.args.i c.args.n v.has_size (sym c.same.ensures ∙ e)
