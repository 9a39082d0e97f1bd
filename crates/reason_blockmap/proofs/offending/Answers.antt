-- `reason_blockmap::offending` meets its contract: the numbers of what is named fit. Assumes nothing.
use Prim.Native.Nat.{ℕ}
use native.Mathlib.Omega.{arith}
use borrow.Author.Rules.{rules}
use Rattle.reason_blockmap.proofs.Reasons.{named_fits}
use Rattle.reason_blockmap.proofs.offending.Goals as goal

pub returns-in_err-check-clause-fits : goal.returns-in_err-check-clause-fits
returns-in_err-check-clause-fits c = named_fits c.args.lump.now c.args.linedefs c.args.cell (λ (i : ℕ). omega (arith, c.type_inv.lump i)) c.from_residual.result (search rules)

pub returns-in_err-check-2-clause-fits : goal.returns-in_err-check-2-clause-fits
returns-in_err-check-2-clause-fits c = named_fits c.args.lump.now c.args.linedefs c.args.cell (λ (i : ℕ). omega (arith, c.type_inv.lump i)) c.from_residual-in_err-check-2.result (search rules)

pub returns-in_err-check-3-clause-fits : goal.returns-in_err-check-3-clause-fits
returns-in_err-check-3-clause-fits c = named_fits c.args.lump.now c.args.linedefs c.args.cell (λ (i : ℕ). omega (arith, c.type_inv.lump i)) c.from_residual-in_err-check-3.result (search rules)

pub returns-clause-fits : goal.returns-clause-fits
returns-clause-fits c = named_fits c.args.lump.now c.args.linedefs c.args.cell (λ (i : ℕ). omega (arith, c.type_inv.lump i)) c.after_rows.result (search rules)
