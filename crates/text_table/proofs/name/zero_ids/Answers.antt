-- `text_table::name::zero_ids` meets its contract: the names of the code are those of the table. Assumes nothing.
use Rattle.std.proofs.Common.{true, ◌≡◌, ℕ, List, Bor, ap, ◌∙◌, rules}
use Rattle.std.proofs.iter.runs.Made.{chains}
use Rattle.std.specs.List.{list_any}
use Rattle.text_table.specs.Table.{zero_id_names}
use Rattle.text_table.specs.Names.{is_name}
use Rattle.text_table.proofs.name.zero_ids.Goals as goal

pub returns : goal.returns
unfolding zero_id_names
returns c =
    let word = c.args.namespace.now in
    let one : c.any.result ≡ list_any (λ (n : Bor (List ℕ)). is_name word true n.now) c.iter.result.rest.now = search (rules, chains) in
    one ∙ ap (list_any (λ (n : Bor (List ℕ)). is_name word true n.now)) c.iter.ensures.rest
