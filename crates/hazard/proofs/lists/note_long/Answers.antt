-- `hazard::lists::note_long` meets its contract: the offsets from `at` on are noted, and `named` is how many linedefs are named from
-- there on. Assumes nothing.
use Prim.Native.Nat.{ℕ, ◌+◌, ◌-◌}
use mathlib.Core.Path.{◌≡◌, refl, sym, ap, ◌∙◌, subst}
use native.Mathlib.Omega.{arith}
use borrow.Author.Rules.{rules}
use Rattle.map_blockmap.specs.Blockmap.{word_count}
use Rattle.hazard.specs.Inner.{LongNoted}
use Rattle.hazard.proofs.ListLengths.{named_from, named_none, named_more, named-few, long-more}
use Rattle.hazard.proofs.lists.note_long.Goals as goal

pub loop-at-init : goal.loop-at-init
loop-at-init c = (search rules, (sym (named_none c.args.lump.now), c.requires))

-- no list names more linedefs than there are words
pub count_on-named-requires : goal.count_on-named-requires
count_on-named-requires c =
    let l = c.loop-at in
    let lump = c.args.lump.now in
    let few = named-few lump (word_count lump - l.at) in
    let named = l.invariant.1.0 in
    omega arith

pub loop-at-preserved : goal.loop-at-preserved
loop-at-preserved c =
    let l = c.loop-at in
    let lump = c.args.lump.now in
    let next : l.at - 1 + 1 ≡ l.at = omega arith in
    let named = l.invariant.1.0 ∙ ap (named_from lump) (sym next) in
    let behind = subst (λ (n : ℕ). LongNoted lump c.args.linedefs n l.notes) (sym next) l.invariant.1.1 in
    let word = c.word_at.ensures.0 in (
      search rules,
      (
        named_more lump (l.at - 1) (search rules) word named c.count_on-named.ensures,
        long-more lump c.args.linedefs (l.at - 1) l.notes behind named refl c.note_if.ensures,
      ),
    )
