-- Laws of the nodes as they are written: a node's bytes one after the other, and node after node. Assumes nothing.
use Prim.Native.Nat.{ℕ, zero, suc, ◌+◌, ◌*◌, ◌≤◌, ◌<◌}
use mathlib.Core.Bool.{true, cond, not}
use mathlib.Core.List.{List, ◌++◌, append_assoc}
use borrow.Rule.Slice.PartMut.{put_mid}
use mathlib.Core.Logic.{⊎_elim}
use mathlib.Core.Path.{◌≡◌, sym, ap, ◌∙◌}
use native.Mathlib.Omega.{arith}
use borrow.Author.Tests.{ltb-true, lt-ltb, le-ltb}
use lib.Dec.{ltb}
use lib.ListN.{length, take, drop, length-append, length-drop}
use lib.Seq.{sets, drop-drop, take-take, length-take-le, sets-eq}
use Rattle.refusal.proofs.Checks.{not_both}
use Rattle.endian.specs.Unsigned.{u16_bytes, put_u16}
use Rattle.layout.specs.Rows.{laid_out}
use Rattle.layout.specs.Buffers.{buffer_after}
use Rattle.layout.proofs.LaidOut.{laid_none, laid_more, length_laid_suc}
use Rattle.layout.proofs.Stores.{sets_append}
use Rattle.std.specs.Prelude.{Ok}
use Rattle.record_field.specs.Records.{record_bytes}
use Rattle.record_field.proofs.Records.{length-record_bytes}
use Rattle.record.specs.Nodes.{node_size}
use Rattle.node.specs.declared.Choice.{Choice}
use Rattle.node.specs.declared.Choice.TheVariants.{Right, Left}
use Rattle.node.specs.Nodes.{subsector_bit, is_node, child_of}
use Rattle.node_route.proofs.Heights.{node_or_end}
use Rattle.node_route.proofs.Repeats.{or_either}
use Rattle.renumber_order.specs.Orders.{index_in}
use Rattle.renumber_order.specs.Orders.{old_at}
use Rattle.renumber.specs.Renumbering.{renamed, new_node, renumbered}
use Rattle.renumber.specs.Inner.{renamed_by, node_by, Writable}
use Rattle.renumber_order.proofs.Placing.{own-place}
use Rattle.renumber_order.proofs.Checking.{children_each, order-inside, child_word}

-- ---- one node

-- a row written over the bytes from `at` on
pub row_stored : (out row : List ℕ) (at n : ℕ) → length row ≡ n → at + n ≤ length out → put_mid at n out row ≡ sets out at row
row_stored out row at n e h =
    ap (λ (xs : List ℕ). take at out ++ (row ++ xs)) (drop-drop n at out)
    ∙ sym (append_assoc (take at out) row (drop (at + n) out))
    ∙ ap (λ (k : ℕ). take at out ++ row ++ drop (at + k) out) (sym e)
    ∙ sym (sets-eq row out at (omega arith))

sets_u16 : (l : List ℕ) (at n : ℕ) → put_u16 l at n ≡ sets l at (u16_bytes n)
sets_u16 l at n = let one : at + 1 ≡ suc at = omega arith in rw one

-- the first bytes, and then both children
pub node-stored : (nodes : List ℕ) (v : ℕ) (out : List ℕ) (at a b : ℕ) {first second last : List ℕ} → node_size * v + node_size ≤ length nodes
    → first ≡ sets out at (take 24 (drop (node_size * v) nodes)) → second ≡ put_u16 first (at + 24) a → last ≡ put_u16 second (at + 24 + 2) b
    → last ≡ sets out at (take 24 (record_bytes nodes node_size v) ++ u16_bytes a ++ u16_bytes b)
node-stored nodes v out at a b {first} {second} {last} h e f g =
    let line = take 24 (drop (node_size * v) nodes) in
    let same : line ≡ take 24 (record_bytes nodes node_size v) = sym (take-take 24 node_size (drop (node_size * v) nodes) (omega arith)) in
    let long : length line ≡ 24 = length-take-le 24 (drop (node_size * v) nodes) (rw (length-drop (node_size * v) nodes) (omega arith)) in
    let two : second ≡ sets out at (line ++ u16_bytes a) =
    f ∙ sets_u16 first (at + 24) a ∙ (λ i. sets (e i) (at + sym long i) (u16_bytes a)) ∙ sets_append out at line (u16_bytes a) in
    let most : at + 24 + 2 ≡ at + length (line ++ u16_bytes a) = omega (arith, length-append line (u16_bytes a)) in
    g ∙ sets_u16 second (at + 24 + 2) b ∙ (λ i. sets (two i) (most i) (u16_bytes b)) ∙ sets_append out at (line ++ u16_bytes a) (u16_bytes b)
    ∙ ap (λ (x : List ℕ). sets out at (x ++ u16_bytes a ++ u16_bytes b)) same

-- ---- node after node

module _ (nodes : List ℕ) (count : ℕ) (words order : List ℕ) (room : ℕ) (w : Writable nodes count words order room) where
  module _ (i : ℕ) (l : i < length order) where
    -- a child's new number
    renamed-same : (c : Choice) → renamed_by words count (child_of nodes (old_at order i) c) ≡ renamed order (child_of nodes (old_at order i) c)
    renamed-same c =
        let v = child_of nodes (old_at order i) c in
        ⊎_elim
        (λ (h : v < subsector_bit).
        let first = children_each nodes order (length order) w.first i l c in
        let before : index_in order v < i =
        ⊎_elim
        (λ (t : not (is_node v) ≡ true). absurd (not_both (not (is_node v)) t (ap not (lt-ltb v subsector_bit h))))
        (λ (t : ltb (index_in order v) i ≡ true). ltb-true (index_in order v) i t)
        (or_either (not (is_node v)) (ltb (index_in order v) i) first) in
        ap (λ (k : ℕ). cond (is_node v) k v)
        (child_word nodes count words order w.ordered i l c h ∙ (own-place order v w.ordered.once).there (omega arith)))
        (λ (h : subsector_bit ≤ v). rw (le-ltb v subsector_bit h))
        (node_or_end v)

    pub node-same : node_by nodes words count (old_at order i) ≡ new_node nodes order i
    node-same =
        λ j. take 24 (record_bytes nodes node_size (old_at order i)) ++ u16_bytes (renamed-same Right j) ++ u16_bytes (renamed-same Left j)

    pub length-node : length (new_node nodes order i) ≡ node_size
    length-node =
        let v = old_at order i in
        let whole = length-record_bytes nodes node_size v (order-inside nodes count words order w.ordered i l) in
        let line = take 24 (record_bytes nodes node_size v) in
        let long : length line ≡ 24 = length-take-le 24 (record_bytes nodes node_size v) (omega arith) in
        let a = u16_bytes (renamed order (child_of nodes v Right)) in
        let b = u16_bytes (renamed order (child_of nodes v Left)) in
        omega (arith, length-append (line ++ a) b, length-append line a)

  -- as many bytes as the nodes so far have
  pub length_nodes : (n : ℕ) → n ≤ length order → length (laid_out (new_node nodes order) n) ≡ node_size * n
  length_nodes zero h = ap length (laid_none (new_node nodes order))
  length_nodes (suc n) h =
      let before = length_nodes n (omega arith) in
      let here = length-node n h in
      omega (arith, length_laid_suc (new_node nodes order) n)

  pub nodes_more : (i : ℕ) → i < length order → (out : List ℕ) {now next : List ℕ} → now ≡ sets out 0 (laid_out (new_node nodes order) i)
      → next ≡ sets now (node_size * i) (node_by nodes words count (old_at order i)) → next ≡ sets out 0 (laid_out (new_node nodes order) (i + 1))
  nodes_more i l out {now} {next} e f =
      let before = laid_out (new_node nodes order) i in
      let at : node_size * i ≡ 0 + length before = omega (arith, length_nodes i (omega arith)) in
      f ∙ (λ j. sets (e j) (at j) (node-same i l j)) ∙ sets_append out 0 before (new_node nodes order i)
      ∙ ap (λ (x : List ℕ). sets out 0 x) (sym (laid_more (new_node nodes order) i))

  -- the output afterwards
  pub nodes_done : (out : List ℕ) → room ≡ length out → sets out 0 (renumbered nodes order) ≡ buffer_after (Ok tt) (renumbered nodes order) out
  nodes_done out e =
      let long = length_nodes (length order) (omega arith) in
      let fits = w.fits in
      let none : 0 + length (renumbered nodes order) ≡ length (renumbered nodes order) = omega arith in
      sets-eq (renumbered nodes order) out 0 (omega arith) ∙ ap (λ (n : ℕ). renumbered nodes order ++ drop n out) none
