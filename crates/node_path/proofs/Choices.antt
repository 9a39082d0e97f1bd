-- Laws of the choices by a rule from the root: one more, as bytes in the output, two rules that agree, and what a node at which
-- one is printed has. Assumes nothing.
use Prim.Native.Nat.{ℕ, zero, suc, ◌+◌, ◌-◌, ◌≤◌, ◌<◌}
use mathlib.Core.List.{List, [], ◌∷◌, ◌++◌}
use mathlib.Core.Path.{◌≡◌, refl, sym, ap, ◌∙◌, subst⁻¹}
use native.Mathlib.Numerals.{add-one}
use native.Mathlib.Omega.{arith}
use borrow.Author.Tests.{le-leb, lt-leb}
use lib.ListN.{length, set, drop, get_or, length-map}
use lib.Seq.{drop-cons, set-append_seam}
use Rattle.node.specs.declared.Choice.{Choice}
use Rattle.node.specs.Nodes.{child_of, root}
use Rattle.node.proofs.Nodes.{nodes_of-whole, root-last}
use Rattle.node_graph.specs.Ways.{word_after}
use Rattle.node_graph.specs.Looks.{LooksInside}
use Rattle.node_graph.proofs.Ways.{after_none, after_more}
use Rattle.node_path.specs.Ways.{choice_byte, bytes_of, printed}
use Rattle.node_path.specs.Inner.{choices_from, Printable}

module _ (nodes : List ℕ) (rule : ℕ → Choice) where
  pub choices-none : (j : ℕ) → choices_from nodes rule j 0 ≡ []
  unfolding choices_from
  choices-none j = refl

  pub choices-more : (j n : ℕ) → choices_from nodes rule j (suc n) ≡ rule (word_after nodes rule j) ∷ choices_from nodes rule (suc j) n
  unfolding choices_from
  choices-more j n = refl

  pub choices-length : (j n : ℕ) → length (choices_from nodes rule j n) ≡ n
  choices-length j zero = rw (choices-none j)
  choices-length j (suc n) = rw (choices-more j n) (ap suc (choices-length (suc j) n))

  choices_push : (j n : ℕ) → choices_from nodes rule j (suc n) ≡ choices_from nodes rule j n ++ (rule (word_after nodes rule (j + n)) ∷ [])
  choices_push j zero = let e : j + 0 ≡ j = omega arith in rw (choices-more j 0, choices-none (suc j), choices-none j, e)
  choices_push j (suc n) =
      let e : j + suc n ≡ suc j + n = omega arith in
      rw (choices-more j (suc n), choices-more j n, e)
      (ap (λ (cs : List Choice). rule (word_after nodes rule j) ∷ cs) (choices_push (suc j) n))

  bytes_append : (cs ds : List Choice) → bytes_of (cs ++ ds) ≡ bytes_of cs ++ bytes_of ds
  bytes_append [] ds = refl
  bytes_append (c ∷ cs) ds = ap (λ (bs : List ℕ). choice_byte c ∷ bs) (bytes_append cs ds)

  pub bytes-length : (n : ℕ) → length (bytes_of (choices_from nodes rule 0 n)) ≡ n
  bytes-length n = length-map (choices_from nodes rule 0 n) choice_byte ∙ choices-length 0 n

  -- one byte more
  pub bytes-more : (n : ℕ) (out : List ℕ) → n < length out
      → set (bytes_of (choices_from nodes rule 0 n) ++ drop n out) n (choice_byte (rule (word_after nodes rule n)))
      ≡ bytes_of (choices_from nodes rule 0 (n + 1)) ++ drop (n + 1) out
  bytes-more n out h =
      let first = bytes_of (choices_from nodes rule 0 n) in
      let byte = choice_byte (rule (word_after nodes rule n)) in
      ap (λ (rest : List ℕ). set (first ++ rest) n byte) (drop-cons out n 0 h)
      ∙ ap (λ (k : ℕ). set (first ++ get_or out n 0 ∷ drop (suc n) out) k byte) (sym (bytes-length n))
      ∙ set-append_seam first (get_or out n 0) (drop (suc n) out) byte
      ∙ moved first byte (drop (suc n) out)
      ∙ subst⁻¹ (λ (k : ℕ). (first ++ (byte ∷ [])) ++ drop (suc n) out ≡ bytes_of (choices_from nodes rule 0 k) ++ drop k out) (add-one n) pushed
    where
      moved : (xs : List ℕ) (b : ℕ) (ys : List ℕ) → xs ++ b ∷ ys ≡ (xs ++ (b ∷ [])) ++ ys
      moved [] b ys = refl
      moved (x ∷ xs) b ys = ap (λ (r : List ℕ). x ∷ r) (moved xs b ys)

      pushed : (bytes_of (choices_from nodes rule 0 n) ++ (choice_byte (rule (word_after nodes rule n)) ∷ [])) ++ drop (suc n) out
          ≡ bytes_of (choices_from nodes rule 0 (suc n)) ++ drop (suc n) out
      pushed =
          let e : 0 + n ≡ n = omega arith in
          rw (choices_push 0 n, bytes_append (choices_from nodes rule 0 n) (rule (word_after nodes rule (0 + n)) ∷ []), e)

  pub bytes-store : (n : ℕ) (out now : List ℕ) (c : Choice) (b : ℕ) → n < length out → now ≡ bytes_of (choices_from nodes rule 0 n) ++ drop n out
      → c ≡ rule (word_after nodes rule n) → b ≡ choice_byte c
      → set now n b ≡ bytes_of (choices_from nodes rule 0 (n + 1)) ++ drop (n + 1) out
  bytes-store n out now c b h e q is = rw (e, is, q) (bytes-more n out h)

  -- where there is room for all, and where not
  pub printed-all : (n : ℕ) (out : List ℕ) → n ≤ length out
      → bytes_of (choices_from nodes rule 0 n) ++ drop n out ≡ printed out (bytes_of (choices_from nodes rule 0 n))
  printed-all n out h = rw (bytes-length n, le-leb n (length out) h)

  pub printed-none : (n : ℕ) (out : List ℕ) → length out < n → out ≡ printed out (bytes_of (choices_from nodes rule 0 n))
  printed-none n out h = rw (bytes-length n, lt-leb n (length out) h)

  -- the word that the choice leads to
  pub word_more : (j w r : ℕ) (c : Choice) → w ≡ word_after nodes rule j → c ≡ rule w → r ≡ child_of nodes w c → r ≡ word_after nodes rule (j + 1)
  word_more j w r c e q is =
      let next : word_after nodes rule (j + 1) ≡ word_after nodes rule (suc j) = ap (word_after nodes rule) (add-one j) in
      rw (next, after_more nodes rule j, is, q, e)

  -- ---- a node at which a choice is printed

  module _ (count : ℕ) (words : List ℕ) (n : ℕ) (p : Printable nodes count words rule n) where
    pub print_root : count - 1 ≡ word_after nodes rule 0
    print_root =
        sym (after_none nodes rule ∙ ap root (nodes_of-whole nodes count p.whole) ∙ root-last count p.least)

  module _ (count : ℕ) (words : List ℕ) (n : ℕ) (p : Printable nodes count words rule n) (j : ℕ) (h : j < n) where
    pub print_inside : LooksInside nodes words (word_after nodes rule j)
    print_inside =
        let l = p.within j h in
        let counted = nodes_of-whole nodes count p.whole in
        record {
          whole = (let e = p.whole in omega arith);
          marked =
              λ c b.
              let low = p.in_range (word_after nodes rule j) (rw counted l) c b in
              let enough = p.enough in
              omega arith;
        }

-- ---- two rules that agree at the nodes of one

module _ (nodes : List ℕ) (rule rule' : ℕ → Choice) (n : ℕ)
    (same : (j : ℕ) → j < n → rule (word_after nodes rule' j) ≡ rule' (word_after nodes rule' j)) where
  pub after_same : (j : ℕ) → j ≤ n → word_after nodes rule j ≡ word_after nodes rule' j
  after_same zero h = after_none nodes rule ∙ sym (after_none nodes rule')
  after_same (suc j) h =
      rw (after_more nodes rule j, after_more nodes rule' j, after_same j (omega arith))
      (ap (child_of nodes (word_after nodes rule' j)) (same j (omega arith)))

  pub choices-same : (j k : ℕ) → j + k ≤ n → choices_from nodes rule j k ≡ choices_from nodes rule' j k
  choices-same j zero h = choices-none nodes rule j ∙ sym (choices-none nodes rule' j)
  choices-same j (suc k) h =
      rw (choices-more nodes rule j k, choices-more nodes rule' j k, choices-same (suc j) k (omega arith), after_same j (omega arith))
      (ap (λ (c : Choice). c ∷ choices_from nodes rule' (suc j) k) (same j (omega arith)))
