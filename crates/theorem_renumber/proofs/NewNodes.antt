-- The nodes of the new lump: as many as the list has, each with the line of the old one, and with its children renamed. Assumes
-- nothing.
use Prim.Native.Nat.{ℕ, ◌+◌, ◌*◌, ◌≤◌, ◌<◌}
use mathlib.Core.List.{List, ◌++◌, append_assoc}
use mathlib.Core.Path.{◌≡◌, ap, ◌∙◌}
use native.Mathlib.Omega.{arith}
use borrow.Author.Tests.{lt-ltb, le-ltb}
use lib.IntN.{ℤ}
use lib.ListN.{length, take, length-append, get_or-append}
use lib.Seq.{length-take-le, get_or-take, get_or-append-add}
use Rattle.endian.specs.Unsigned.{u16_at, u16_bytes}
use Rattle.endian.specs.Signed.{i16_at, signed}
use Rattle.endian.proofs.Unsigned.{u16_whole}
use Rattle.layout.proofs.LaidOut.{length_parts, part_at}
use Rattle.record_field.specs.Records.{record_bytes}
use Rattle.record_field.proofs.Records.{fits-inside, length-record_bytes}
use Rattle.record.specs.Nodes.{node_size}
use Rattle.node.specs.declared.Choice.{Choice}
use Rattle.node.specs.declared.Choice.TheVariants.{Right, Left}
use Rattle.node.specs.Nodes.{nodes_of, subsector_bit, child_of}
use Rattle.node_descent.specs.Side.{side, side_at, chosen}
use Rattle.renumber_order.specs.Orders.{index_in}
use Rattle.renumber_order.specs.Orders.{old_at}
use Rattle.renumber.specs.Renumbering.{renamed, new_node, renumbered}

-- ---- two bytes of a part

u16_front : (xs ys : List ℕ) (k : ℕ) → k + 1 < length xs → u16_at (xs ++ ys) k ≡ u16_at xs k
u16_front xs ys k h = rw (get_or-append xs ys 0 k (omega arith), get_or-append xs ys 0 (k + 1) h)

u16_behind : (xs ys : List ℕ) (n k : ℕ) → length xs ≡ n → u16_at (xs ++ ys) (n + k) ≡ u16_at ys k
u16_behind xs ys n k e =
    let at : n + k ≡ length xs + k = omega arith in
    let after : n + k + 1 ≡ length xs + (k + 1) = omega arith in
    rw (after, at, get_or-append-add xs ys k 0, get_or-append-add xs ys (k + 1) 0)

u16_take : (n : ℕ) (xs : List ℕ) (k : ℕ) → k + 1 < n → u16_at (take n xs) k ≡ u16_at xs k
u16_take n xs k h = rw (get_or-take n xs k 0 (omega arith), get_or-take n xs (k + 1) 0 h)

-- ---- a node's word, renamed

module _ (order : List ℕ) where
  pub renamed-node : (w : ℕ) → w < subsector_bit → renamed order w ≡ index_in order w
  renamed-node w h = rw (lt-ltb w subsector_bit h)

  pub renamed-end : (w : ℕ) → subsector_bit ≤ w → renamed order w ≡ w
  renamed-end w h = rw (le-ltb w subsector_bit h)

module _ (nodes order : List ℕ) (inside : (i : ℕ) → i < length order → old_at order i < nodes_of nodes) where
  -- ---- one node

  module _ (i : ℕ) (h : i < length order) where
    abbrev line : List ℕ
    line = take 24 (record_bytes nodes node_size (old_at order i))

    abbrev word : Choice → ℕ
    word c = renamed order (child_of nodes (old_at order i) c)

    line-long : length line ≡ 24
    line-long =
        let whole = length-record_bytes nodes node_size (old_at order i) (fits-inside node_size (old_at order i) (length nodes) (inside i h)) in
        length-take-le 24 (record_bytes nodes node_size (old_at order i)) (omega arith)

    parts : new_node nodes order i ≡ line ++ (u16_bytes (word Right) ++ u16_bytes (word Left))
    parts = append_assoc line (u16_bytes (word Right)) (u16_bytes (word Left))

    node-long : length (new_node nodes order i) ≡ node_size
    node-long =
        let e = length-append line (u16_bytes (word Right) ++ u16_bytes (word Left)) in
        ap length parts ∙ omega (arith, e, line-long)

    node_front : (k : ℕ) → k + 1 < 24 → u16_at (new_node nodes order i) k ≡ u16_at (record_bytes nodes node_size (old_at order i)) k
    node_front k l =
        let long = line-long in
        ap (λ (xs : List ℕ). u16_at xs k) parts
        ∙ u16_front line (u16_bytes (word Right) ++ u16_bytes (word Left)) k (omega arith)
        ∙ u16_take 24 (record_bytes nodes node_size (old_at order i)) k l

    node_right : u16_at (new_node nodes order i) 24 ≡ word Right
    node_right =
        ap (λ (xs : List ℕ). u16_at xs 24) parts
        ∙ u16_behind line (u16_bytes (word Right) ++ u16_bytes (word Left)) 24 0 line-long ∙ u16_whole (word Right)

    node-left : u16_at (new_node nodes order i) 26 ≡ word Left
    node-left =
        ap (λ (xs : List ℕ). u16_at xs 26) parts
        ∙ u16_behind line (u16_bytes (word Right) ++ u16_bytes (word Left)) 24 2 line-long ∙ u16_whole (word Left)

  -- ---- the lump

  pub new-length : length (renumbered nodes order) ≡ node_size * length order
  new-length = length_parts (new_node nodes order) node_size (length order) (λ i h. node-long i h)

  pub new-count : nodes_of (renumbered nodes order) ≡ length order
  new-count = let e = new-length in omega arith

  module _ (i : ℕ) (h : i < length order) where
    record_at_lem : record_bytes (renumbered nodes order) node_size i ≡ new_node nodes order i
    record_at_lem = part_at (new_node nodes order) node_size (length order) (λ i h. node-long i h) i h

    pub new_child : (c : Choice) → child_of (renumbered nodes order) i c ≡ renamed order (child_of nodes (old_at order i) c)
    new_child Right = ap (λ (xs : List ℕ). u16_at xs 24) record_at_lem ∙ node_right i h
    new_child Left = ap (λ (xs : List ℕ). u16_at xs 26) record_at_lem ∙ node-left i h

    field-at : (k : ℕ) → k + 1 < 24 → i16_at (record_bytes (renumbered nodes order) node_size i) k ≡ i16_at (record_bytes nodes node_size (old_at order i)) k
    field-at k l = ap (signed 32768) (ap (λ (xs : List ℕ). u16_at xs k) record_at_lem ∙ node_front i h k l)

    pub new-side : (x y : ℤ) → side_at (renumbered nodes order) x y i ≡ side_at nodes x y (old_at order i)
    unfolding side_at
    new-side x y =
        λ j. side x y (field-at 0 (omega arith) j) (field-at 2 (omega arith) j) (field-at 4 (omega arith) j) (field-at 6 (omega arith) j)

    pub new-chosen : (x y : ℤ) → chosen (renumbered nodes order) x y i ≡ renamed order (chosen nodes x y (old_at order i))
    new-chosen x y = ap (child_of (renumbered nodes order) i) (new-side x y) ∙ new_child (side_at nodes x y (old_at order i))
