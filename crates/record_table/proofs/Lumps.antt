-- Every kind's sizes and place agree with the table of lumps: one test, computed. Assumes nothing.
use mathlib.Core.Path.{refl}
use Rattle.record_table.specs.Lumps.{KindsAgree}

pub kinds_agree : KindsAgree
kinds_agree = refl
