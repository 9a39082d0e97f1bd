-- `SidedefAnswer::from` meets its contract: the default of a record is all 0. Assumes nothing.
use Rattle.std.proofs.Common.{rules}
use Rattle.export_records.proofs.Zeros.{name-zeros}
use Rattle.export_records.proofs.SidedefAnswerFromResultSidedefRefusal.from.Goals as goal

pub returns-in-Err : goal.returns-in-Err
returns-in-Err c =
    let d = c.default.result in
    let zero = c.default.ensures in
    let upper = name-zeros d.upper zero.1.1.0 in
    let lower = name-zeros d.lower zero.1.1.1.0 in
    let middle = name-zeros d.middle zero.1.1.1.1.0 in
    search (rules, upper, lower, middle)
