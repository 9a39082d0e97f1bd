-- `index_find::halves::compare` meets its contract: the order of two names is that of their keys. Assumes nothing.
use Prim.Native.Nat.{ℕ}
use mathlib.Core.Bool.{false, cond}
use mathlib.Core.List.{List}
use mathlib.Core.Path.{◌≡◌, ap, ◌∙◌}
use borrow.Author.Rules.{rules}
use lib.ListN.{length}
use Rattle.std.specs.Ordering.{nat_cmp}
use Rattle.std.specs.declared.cmp.Ordering.TheVariants.{Less, Equal, Greater}
use Rattle.name.specs.Names.{same_bytes}
use Rattle.index.specs.declared.IndexRecord.{IndexRecord}
use Rattle.index.specs.Keys.{key_of}
use Rattle.index.specs.Records.{below_from}
use Rattle.index_find.specs.Finding.{name_in}
use Rattle.index_find.proofs.Comparing.{above_key, equal_key, order_by}
use Rattle.index_find.proofs.halves.compare.Goals as goal

pub returns : goal.returns
returns c =
    let a = c.args in
    let name = c.record-record.result.name in
    let own = c.key_of.ensures in
    let asked = c.key_of-2.ensures in
    let named : name ≡ name_in a.at.now.index.now a.i = ap (λ (r : IndexRecord). r.name) c.record-record.ensures in
    let long : length name ≡ 8 = search rules in
    let long-asked : length a.asked ≡ 8 = search rules in
    let above = above_key a.asked name asked.1 own.1 ∙ ap (λ (n : List ℕ). below_from 8 0 a.asked n false) named in
    let equal = equal_key name a.asked own.1 asked.1 long long-asked ∙ ap (λ (n : List ℕ). same_bytes n a.asked) named in
    c.cmp.ensures ∙ (λ x. nat_cmp (own.0 x) (asked.0 x)) ∙ order_by (key_of 8 name) (key_of 8 a.asked)
    ∙ (λ x. cond (above x) Greater (cond (equal x) Equal Less))
