-- What the search knows at its end makes the choices that the marks tell the lists of specs/Ways.antt. Assumes nothing.
use Prim.Native.Nat.{ℕ, zero, suc, ◌+◌, ◌≤◌, ◌<◌}
use mathlib.Core.Bool.{Bool, true, false}
use mathlib.Core.List.{List, [], ◌∷◌}
use mathlib.Core.Logic.{⊎_elim}
use mathlib.Core.Path.{◌≡◌, refl, sym, ap, ◌∙◌, subst}
use native.Mathlib.Nat.{not-suc-le-zero, eq-or-lt_of_le}
use native.Mathlib.Omega.{arith}
use borrow.Author.Tests.{le-leb}
use lib.ListN.{length}
use Rattle.node.specs.declared.Choice.{Choice}
use Rattle.std.specs.Prelude.{Ok, Err}
use Rattle.node_route.specs.declared.GraphError.{GraphError}
use Rattle.node.specs.Nodes.{nodes_of, subsector_bit, child_of}
use Rattle.node_route.specs.Routes.{Follow, Reached}
use Rattle.node_route.specs.Heights.{member, graph_verdict}
use Rattle.node.proofs.Nodes.{nodes_of-whole}
use Rattle.node_route.proofs.Places.{reached_child}
use Rattle.node_route.proofs.Verdict.{verdict-none}
use Rattle.node_route.proofs.Repeats.{member_head, member_tail, member_cons}
use Rattle.node_graph.specs.Ways.{loop_choice, deep_choice, word_after}
use Rattle.node_graph.specs.Looks.{path_choice, height_choice}
use Rattle.node_graph.specs.Searching.{Searchable, LoopMet, Explored}
use Rattle.node_graph.proofs.Ways.{after_none, after_more}
use Rattle.node_path.specs.Ways.{loop_from, loop_way, route_of, bytes_of, printed}
use Rattle.node_path.specs.Promises.{ByRule, WayPrinted}
use Rattle.node_path.specs.Inner.{choices_from, Printable}
use Rattle.node_path.proofs.Loops.{none_in, loop-again, loop-goes}
use Rattle.node_path.proofs.Routes.{route-none, route-holds}
use Rattle.node_path.proofs.Choices.{choices-none, choices-more, choices-length, after_same, choices-same}

-- ---- the words before, the last one first

module _ (nodes : List ℕ) (rule : ℕ → Choice) where
  abbrev words_before : ℕ → List ℕ
  words_before zero = []
  words_before (suc j) = word_after nodes rule j ∷ words_before j

  before-member : (j i : ℕ) → i < j → member (word_after nodes rule i) (words_before j) ≡ true
  before-member zero i h = absurd (not-suc-le-zero h)
  before-member (suc j) i h =
      ⊎_elim
      (λ (e : i ≡ j). member_head _ _ (words_before j) (ap (word_after nodes rule) e))
      (λ (l : i < j). member_tail _ (word_after nodes rule j) (words_before j) (before-member j i l))
      (eq-or-lt_of_le {n = i} {m = j} (omega arith))

  member-before : (j v : ℕ) → member v (words_before j) ≡ true → (i : ℕ) × (i < j) × (v ≡ word_after nodes rule i)
  member-before zero v m = absurd (none_in v m)
  member-before (suc j) v m =
      ⊎_elim
      (λ (e : v ≡ word_after nodes rule j). (j, omega arith, e))
      (λ (n : member v (words_before j) ≡ true). let (i, l, e) = member-before j v n in (i, omega arith, e))
      (member_cons v (word_after nodes rule j) (words_before j) m)

module _ (nodes : List ℕ) (mark : ℕ → ℕ) (n : ℕ) (m : LoopMet nodes mark n) where
  new : (j : ℕ) → j < n → member (word_after nodes (loop_choice nodes) j) (words_before nodes (loop_choice nodes) j) ≡ false
  new j h = by (member (word_after nodes (loop_choice nodes) j) (words_before nodes (loop_choice nodes) j)) refl
    where
      by : (b : Bool) → member (word_after nodes (loop_choice nodes) j) (words_before nodes (loop_choice nodes) j) ≡ b → b ≡ false
      by true t = let (i, l, e) = member-before nodes (loop_choice nodes) j _ t in absurd (m.apart i j l h (sym e))
      by false t = refl

  way_is : (r fuel j : ℕ) → r ≤ fuel → j + r ≡ n
      → loop_from nodes fuel (words_before nodes (loop_choice nodes) j) (word_after nodes (loop_choice nodes) j)
      ≡ choices_from nodes (loop_choice nodes) j r
  way_is zero fuel j h e =
      let (i, l, at) = m.back in
      let last : n ≡ j = omega arith in
      let again : member (word_after nodes (loop_choice nodes) j) (words_before nodes (loop_choice nodes) j) ≡ true =
      subst (λ (k : ℕ). member (word_after nodes (loop_choice nodes) k) (words_before nodes (loop_choice nodes) k) ≡ true) last
      (rw at (before-member nodes (loop_choice nodes) n i l)) in
      loop-again nodes fuel _ _ again ∙ sym (choices-none nodes (loop_choice nodes) j)
  way_is (suc r) zero j h e = absurd (not-suc-le-zero h)
  way_is (suc r) (suc fuel) j h e =
      loop-goes nodes fuel _ _ (new j (omega arith))
      ∙ ap (λ (cs : List Choice). loop_choice nodes (word_after nodes (loop_choice nodes) j) ∷ cs)
      (ap (loop_from nodes fuel (words_before nodes (loop_choice nodes) (suc j))) (sym (after_more nodes (loop_choice nodes) j))
      ∙ way_is r fuel (suc j) (omega arith) (omega arith))
      ∙ sym (choices-more nodes (loop_choice nodes) j r)

  pub way_found : choices_from nodes (path_choice nodes mark) 0 n ≡ loop_way nodes
  way_found =
      choices-same nodes (path_choice nodes mark) (loop_choice nodes) n m.told 0 n (omega arith)
      ∙ sym (ap (loop_from nodes (nodes_of nodes) []) (sym (after_none nodes (loop_choice nodes))) ∙ way_is n (nodes_of nodes) 0 m.few (omega arith))

  pub loop-printable : (count : ℕ) (words : List ℕ) → Searchable nodes count words → Printable nodes count words (path_choice nodes mark) n
  loop-printable count words g =
      record {
        whole = g.whole;
        least = g.least;
        enough = (let e = g.enough in omega arith);
        in_range = g.in_range;
        within =
            λ j h.
            rw (after_same nodes (path_choice nodes mark) (loop_choice nodes) n m.told j (omega arith))
            (rw (nodes_of-whole nodes count g.whole) at (m.in_range j h));
      }

  pub loop-printed : (out out' : List ℕ) → out' ≡ printed out (bytes_of (choices_from nodes (path_choice nodes mark) 0 n))
      → WayPrinted nodes out out' (record { verdict = Err GraphError.HasLoop; length = n })
  loop-printed out out' e =
      record {
        verdict = sym m.loops;
        length = rw m.loops (sym (choices-length nodes (path_choice nodes mark) 0 n) ∙ ap length way_found);
        out = rw m.loops (e ∙ ap (λ (cs : List Choice). printed out (bytes_of cs)) way_found);
      }

-- ---- a list by a rule is that of the rule's choices

abbrev first : List Choice → Choice → Choice
first [] d = d
first (c ∷ cs) d = c

abbrev rest : List Choice → List Choice
rest [] = []
rest (c ∷ cs) = cs

module _ (nodes : List ℕ) (rule : ℕ → Choice) where
  rule-choices : (cs : List Choice) (j : ℕ) → ByRule rule nodes (word_after nodes rule j) cs → cs ≡ choices_from nodes rule j (length cs)
  rule-choices [] j e = sym (choices-none nodes rule j)
  rule-choices (c ∷ cs) j e =
      let is : rule (word_after nodes rule j) ≡ c = ap (λ (ds : List Choice). first ds c) e in
      let next : child_of nodes (word_after nodes rule j) c ≡ word_after nodes rule (suc j) =
      ap (child_of nodes (word_after nodes rule j)) (sym is) ∙ sym (after_more nodes rule j) in
      let below = subst (λ (w : ℕ). ByRule rule nodes w cs) next (ap rest e) in
      (λ i. sym is i ∷ rule-choices cs (suc j) below i) ∙ sym (choices-more nodes rule j (length cs))

  -- and each is made at a node
  rule_made : (cs : List Choice) (j v : ℕ) → ByRule rule nodes (word_after nodes rule j) cs → Follow nodes (word_after nodes rule j) cs v
      → (i : ℕ) → i < length cs → word_after nodes rule (j + i) < subsector_bit
  rule_made [] j v e f i h = absurd (not-suc-le-zero h)
  rule_made (c ∷ cs) j v e f zero h = let same : j + 0 ≡ j = omega arith in rw same f.0
  rule_made (c ∷ cs) j v e f (suc i) h =
      let is : rule (word_after nodes rule j) ≡ c = ap (λ (ds : List Choice). first ds c) e in
      let next : child_of nodes (word_after nodes rule j) c ≡ word_after nodes rule (suc j) =
      ap (child_of nodes (word_after nodes rule j)) (sym is) ∙ sym (after_more nodes rule j) in
      let same : j + suc i ≡ suc j + i = omega arith in
      rw same
      (rule_made cs (suc j) v (subst (λ (w : ℕ). ByRule rule nodes w cs) next (ap rest e))
      (subst (λ (w : ℕ). Follow nodes w cs v) next f.1) i (omega arith))

module _ (nodes : List ℕ) (mark : ℕ → ℕ) (depth : ℕ) (x : Explored nodes mark depth)
    (accepted : graph_verdict nodes ≡ Ok depth) where
  made : (j : ℕ) → j < depth → word_after nodes (deep_choice nodes) j < subsector_bit
  made j h =
      let t = route-holds nodes depth accepted in
      let root_is = after_none nodes (deep_choice nodes) in
      let same : 0 + j ≡ j = omega arith in
      let many = t.many in
      rw same
      at (rule_made nodes (deep_choice nodes) (route_of nodes) 0 t.route.stand
      (subst (λ (w : ℕ). ByRule (deep_choice nodes) nodes w (route_of nodes)) (sym root_is) t.rule)
      (subst (λ (w : ℕ). Follow nodes w (route_of nodes) t.route.stand) (sym root_is) t.route.leads) j (omega arith))

  reached : (j : ℕ) → j ≤ depth → Reached nodes (word_after nodes (deep_choice nodes) j)
  reached zero h = record { choices = []; leads = sym (after_none nodes (deep_choice nodes)) }
  reached (suc j) h =
      rw (after_more nodes (deep_choice nodes) j)
      (reached_child nodes (word_after nodes (deep_choice nodes) j) (reached j (omega arith)) (made j h)
      (deep_choice nodes (word_after nodes (deep_choice nodes) j)))

  told : (j : ℕ) → j < depth
      → height_choice nodes mark (word_after nodes (deep_choice nodes) j) ≡ deep_choice nodes (word_after nodes (deep_choice nodes) j)
  told j h = x.told (word_after nodes (deep_choice nodes) j) (reached j (omega arith)) (made j h)

  pub route-found : choices_from nodes (height_choice nodes mark) 0 depth ≡ route_of nodes
  route-found =
      let t = route-holds nodes depth accepted in
      choices-same nodes (height_choice nodes mark) (deep_choice nodes) depth told 0 depth (omega arith)
      ∙ ap (choices_from nodes (deep_choice nodes) 0) (sym t.many)
      ∙ sym (rule-choices nodes (deep_choice nodes) (route_of nodes) 0
      (subst (λ (w : ℕ). ByRule (deep_choice nodes) nodes w (route_of nodes)) (sym (after_none nodes (deep_choice nodes))) t.rule))

  pub route_printable : (count : ℕ) (words : List ℕ) → Searchable nodes count words
      → Printable nodes count words (height_choice nodes mark) depth
  route_printable count words g =
      record {
        whole = g.whole;
        least = g.least;
        enough = (let e = g.enough in omega arith);
        in_range = g.in_range;
        within =
            λ j h.
            rw (after_same nodes (height_choice nodes mark) (deep_choice nodes) depth told j (omega arith))
            (rw (nodes_of-whole nodes count g.whole) at (x.every _ (reached j (omega arith)) (made j h)).0);
      }

  pub route-printed : (out out' : List ℕ) → out' ≡ printed out (bytes_of (choices_from nodes (height_choice nodes mark) 0 depth))
      → WayPrinted nodes out out' (record { verdict = Ok depth; length = depth })
  route-printed out out' e =
      record {
        verdict = sym accepted;
        length = rw accepted (sym (route-holds nodes depth accepted).many);
        out = rw accepted (e ∙ ap (λ (cs : List Choice). printed out (bytes_of cs)) route-found);
      }

-- ---- where nothing is printed

module _ (nodes : List ℕ) where
  nothing : (out : List ℕ) → out ≡ printed out (bytes_of [])
  nothing out = rw (le-leb 0 (length out) (omega arith))

  pub shared-printed : graph_verdict nodes ≡ Err GraphError.HasShared → (out : List ℕ)
      → WayPrinted nodes out out (record { verdict = Err GraphError.HasShared; length = 0 })
  shared-printed e out = record { verdict = sym e; length = rw e; out = rw e (nothing out) }

  pub none-printed : nodes_of nodes ≡ 0 → (out : List ℕ) → WayPrinted nodes out out (record { verdict = Ok 0; length = 0 })
  none-printed none out =
      let e = verdict-none nodes none in
      let empty : route_of nodes ≡ [] = rw none (route-none nodes subsector_bit) in
      record {
        verdict = sym e;
        length = rw (e, empty);
        out = rw (e, empty) (nothing out);
      }
