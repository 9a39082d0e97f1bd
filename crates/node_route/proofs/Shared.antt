-- The test that computes is the one that lists of choices define: where there is no loop, a word is twice among the words that
-- the choices lead to exactly if two different lists lead to it. Assumes nothing.
use Prim.Native.Nat.{ℕ, zero, suc, ◌≤◌, ◌<◌}
use mathlib.Core.Bool.{true, false, cond}
use mathlib.Core.List.{List, [], ◌∷◌, ◌++◌}
use mathlib.Core.Logic.{⊎_elim}
use mathlib.Core.Path.{◌≡◌, refl, sym, ap, ◌∙◌}
use native.Mathlib.Omega.{arith}
use borrow.Author.Tests.{ltb-false, lt-ltb, le-ltb}
use lib.ListN.{length}
use Rattle.node.specs.declared.Choice.{Choice}
use Rattle.node.specs.declared.Choice.TheVariants.{Right, Left}
use Rattle.node.specs.Nodes.{nodes_of, subsector_bit, is_node, child_of, root}
use Rattle.node_route.specs.Routes.{Follow, Shared}
use Rattle.node_route.specs.Heights.{stands, words_from, member, repeats}
use Rattle.node_route.proofs.Heights.{node_or_end, stands-none, stands_child}
use Rattle.node_route.proofs.Repeats.{member_head, member_tail, member_cons, member-left, member_right, member_append, repeats_head, repeats_tail, repeats-left, repeats_right, repeats_across, Repeated, in_first, in_second, in_both, repeats_append, or_either}

module _ (nodes : List ℕ) where
  -- ---- the words, one choice more

  words-none : (w : ℕ) → words_from nodes 0 w ≡ w ∷ []
  unfolding words_from
  words-none w = refl

  words_more : (k w : ℕ)
      → words_from nodes (suc k) w
      ≡ w ∷ cond (is_node w) (words_from nodes k (child_of nodes w Right) ++ words_from nodes k (child_of nodes w Left)) []
  unfolding words_from
  words_more k w = refl

  -- the words below a node
  abbrev pub below : ℕ → ℕ → List ℕ
  below k w = words_from nodes k (child_of nodes w Right) ++ words_from nodes k (child_of nodes w Left)

  pub words-node : (k : ℕ) {w : ℕ} → w < subsector_bit → words_from nodes (suc k) w ≡ w ∷ below k w
  words-node k {w} h = rw (words_more k w, lt-ltb w subsector_bit h)

  pub words-end : (k : ℕ) {w : ℕ} → subsector_bit ≤ w → words_from nodes k w ≡ w ∷ []
  words-end zero {w} h = words-none w
  words-end (suc k) {w} h = rw (words_more k w, le-ltb w subsector_bit h)

  pub words_head : (k w : ℕ) → member w (words_from nodes k w) ≡ true
  words_head zero w = rw (words-none w) (member_head w w [] refl)
  words_head (suc k) w = rw (words_more k w) (member_head w w (cond (is_node w) (below k w) []) refl)

  -- ---- a word that some list leads to

  no_choice_left : (w : ℕ) → stands nodes 0 w ≡ false → w < subsector_bit → ⊥
  no_choice_left w e h = let end : subsector_bit ≤ w = ltb-false w subsector_bit (sym (stands-none nodes w) ∙ e) in omega arith

  pub member_below : (k w v : ℕ) (c : Choice) → member v (words_from nodes k (child_of nodes w c)) ≡ true → member v (below k w) ≡ true
  member_below k w v Right e = member-left v (words_from nodes k (child_of nodes w Right)) (words_from nodes k (child_of nodes w Left)) e
  member_below k w v Left e = member_right v (words_from nodes k (child_of nodes w Right)) (words_from nodes k (child_of nodes w Left)) e

  pub follow_member : (k w : ℕ) → stands nodes k w ≡ false → (cs : List Choice) (v : ℕ) → Follow nodes w cs v
      → member v (words_from nodes k w) ≡ true
  follow_member k w e [] v f = rw (sym f) (words_head k w)
  follow_member zero w e (c ∷ cs) v f = absurd (no_choice_left w e f.0)
  follow_member (suc k) w e (c ∷ cs) v f =
      rw (words-node k f.0)
      (member_tail v w (below k w) (member_below k w v c (follow_member k (child_of nodes w c) (stands_child nodes k f.0 e c) cs v f.1)))

  -- a list of choices from `w` to `v`
  pub record Way (w v : ℕ) : Type 0 where
    pub choices : List Choice
    pub leads : Follow nodes w choices v

  step : (w v : ℕ) → w < subsector_bit → (c : Choice) → Way (child_of nodes w c) v → Way w v
  step w v h c a = record { choices = c ∷ a.choices; leads = (h, a.leads) }

  here : (w v : ℕ) → v ≡ w → Way w v
  here w v e = record { choices = []; leads = sym e }

  alone : (w v : ℕ) → member v (w ∷ []) ≡ true → Way w v
  alone w v e =
      ⊎_elim
      (λ (h : v ≡ w). here w v h)
      (λ (h : member v [] ≡ true). let z : ◌≡◌ {A = ℕ} 0 1 = cc in absurd (omega arith))
      (member_cons v w [] e)

  below_way : (k w v : ℕ) → member v (below k w) ≡ true
      → (c : Choice) × (member v (words_from nodes k (child_of nodes w c)) ≡ true)
  below_way k w v e =
      ⊎_elim
      (λ (h : member v (words_from nodes k (child_of nodes w Right)) ≡ true). (Right, h))
      (λ (h : member v (words_from nodes k (child_of nodes w Left)) ≡ true). (Left, h))
      (member_append v (words_from nodes k (child_of nodes w Right)) (words_from nodes k (child_of nodes w Left)) e)

  pub member_follow : (k w v : ℕ) → member v (words_from nodes k w) ≡ true → Way w v
  member_follow zero w v e = alone w v (rw (words-none w) at e)
  member_follow (suc k) w v e =
      ⊎_elim
      (λ (h : w < subsector_bit).
      ⊎_elim
      (λ (same : v ≡ w). here w v same)
      (λ (further : member v (below k w) ≡ true).
      let (c, m) = below_way k w v further in step w v h c (member_follow k (child_of nodes w c) v m))
      (member_cons v w (below k w) (rw (words-node k h) at e)))
      (λ (h : subsector_bit ≤ w). alone w v (rw (words-end (suc k) h) at e))
      (node_or_end w)

  -- ---- two lists that lead to one word

  pub record TwoWays (w : ℕ) : Type 0 where
    pub one : List Choice
    pub other : List Choice
    pub different : one ≡ other → ⊥
    pub stand : ℕ
    pub leads_one : Follow nodes w one stand
    pub leads_other : Follow nodes w other stand

  cons_nil : (c : Choice) (cs : List Choice) → [] ≡ c ∷ cs → ⊥
  cons_nil c cs e = let z : ◌≡◌ {A = ℕ} 0 (suc (length cs)) = ap length e in omega arith

  right_left : (cs ds : List Choice) → Right ∷ cs ≡ Left ∷ ds → ⊥
  right_left cs ds e = let z : ◌≡◌ {A = ℕ} 0 1 = cc in omega arith

  -- both lists go on with the choice `c`
  onward : (w : ℕ) → w < subsector_bit → (c : Choice) → TwoWays (child_of nodes w c) → TwoWays w
  onward w h c t =
      record {
        one = c ∷ t.one;
        other = c ∷ t.other;
        different = λ (e : c ∷ t.one ≡ c ∷ t.other). t.different cc;
        stand = t.stand;
        leads_one = (h, t.leads_one);
        leads_other = (h, t.leads_other);
      }

  -- the word itself, and once more below it
  again : (w : ℕ) → w < subsector_bit → (c : Choice) → Way (child_of nodes w c) w → TwoWays w
  again w h c a =
      record {
        one = [];
        other = c ∷ a.choices;
        different = cons_nil c a.choices;
        stand = w;
        leads_one = refl;
        leads_other = (h, a.leads);
      }

  parted : (w v : ℕ) → w < subsector_bit → Way (child_of nodes w Right) v → Way (child_of nodes w Left) v → TwoWays w
  parted w v h a b =
      record {
        one = Right ∷ a.choices;
        other = Left ∷ b.choices;
        different = right_left a.choices b.choices;
        stand = v;
        leads_one = (h, a.leads);
        leads_other = (h, b.leads);
      }

  below_ways : (k w : ℕ) → w < subsector_bit
      → ((c : Choice) → repeats (words_from nodes k (child_of nodes w c)) ≡ true → TwoWays (child_of nodes w c))
      → Repeated (words_from nodes k (child_of nodes w Right)) (words_from nodes k (child_of nodes w Left)) → TwoWays w
  below_ways k w h rec (in_first e) = onward w h Right (rec Right e)
  below_ways k w h rec (in_second e) = onward w h Left (rec Left e)
  below_ways k w h rec (in_both v e q) = parted w v h (member_follow k (child_of nodes w Right) v e) (member_follow k (child_of nodes w Left) v q)

  -- a number alone is not repeated
  once : (w : ℕ) → repeats (w ∷ []) ≡ true → ⊥
  once w e = let z : ◌≡◌ {A = ℕ} 0 1 = cc in omega arith

  pub repeats_ways : (k w : ℕ) → repeats (words_from nodes k w) ≡ true → TwoWays w
  repeats_ways zero w e = absurd (once w (rw (words-none w) at e))
  repeats_ways (suc k) w e =
      ⊎_elim
      (λ (h : w < subsector_bit).
      ⊎_elim
      (λ (m : member w (below k w) ≡ true).
      let (c, at) = below_way k w w m in again w h c (member_follow k (child_of nodes w c) w at))
      (λ (r : repeats (below k w) ≡ true).
      below_ways k w h (λ c. repeats_ways k (child_of nodes w c))
      (repeats_append (words_from nodes k (child_of nodes w Right)) (words_from nodes k (child_of nodes w Left)) r))
      (or_either (member w (below k w)) (repeats (below k w)) (rw (words-node k h) at e)))
      (λ (h : subsector_bit ≤ w). absurd (once w (rw (words-end (suc k) h) at e)))
      (node_or_end w)

  pub repeats-below : (k w : ℕ) (c : Choice) → repeats (words_from nodes k (child_of nodes w c)) ≡ true → repeats (below k w) ≡ true
  repeats-below k w Right e = repeats-left (words_from nodes k (child_of nodes w Right)) (words_from nodes k (child_of nodes w Left)) e
  repeats-below k w Left e = repeats_right (words_from nodes k (child_of nodes w Right)) (words_from nodes k (child_of nodes w Left)) e

  module _ (k w v : ℕ) (e : stands nodes (suc k) w ≡ false) where
    -- a list that comes back to `w`
    comes_back : (c : Choice) (cs : List Choice) → Follow nodes w (c ∷ cs) w → repeats (words_from nodes (suc k) w) ≡ true
    comes_back c cs f =
        rw (words-node k f.0)
        (repeats_head w (below k w) (member_below k w w c (follow_member k (child_of nodes w c) (stands_child nodes k f.0 e c) cs w f.1)))

    goes-apart : (cs ds : List Choice) → Follow nodes w (Right ∷ cs) v → Follow nodes w (Left ∷ ds) v
        → repeats (words_from nodes (suc k) w) ≡ true
    goes-apart cs ds f g =
        rw (words-node k f.0)
        (repeats_tail w (below k w)
        (repeats_across v (words_from nodes k (child_of nodes w Right)) (words_from nodes k (child_of nodes w Left))
        (follow_member k (child_of nodes w Right) (stands_child nodes k f.0 e Right) cs v f.1)
        (follow_member k (child_of nodes w Left) (stands_child nodes k g.0 e Left) ds v g.1)))

    goes_on_lem : (c : Choice) → w < subsector_bit → repeats (words_from nodes k (child_of nodes w c)) ≡ true
        → repeats (words_from nodes (suc k) w) ≡ true
    goes_on_lem c h r = rw (words-node k h) (repeats_tail w (below k w) (repeats-below k w c r))

  pub ways_repeat : (k w : ℕ) → stands nodes k w ≡ false → (cs ds : List Choice) → (cs ≡ ds → ⊥) → (v : ℕ)
      → Follow nodes w cs v → Follow nodes w ds v → repeats (words_from nodes k w) ≡ true
  ways_repeat k w e [] [] d v f g = absurd (d refl)
  ways_repeat zero w e [] (c ∷ ds) d v f g = absurd (no_choice_left w e g.0)
  ways_repeat zero w e (c ∷ cs) ds d v f g = absurd (no_choice_left w e f.0)
  ways_repeat (suc k) w e [] (c ∷ ds) d v f g = comes_back k w v e c ds (rw (sym f) at g)
  ways_repeat (suc k) w e (c ∷ cs) [] d v f g = comes_back k w v e c cs (rw (sym g) at f)
  ways_repeat (suc k) w e (Right ∷ cs) (Right ∷ ds) d v f g =
      goes_on_lem k w v e Right f.0
      (ways_repeat k (child_of nodes w Right) (stands_child nodes k f.0 e Right) cs ds (λ (q : cs ≡ ds). d (ap (λ (x : List Choice). Right ∷ x) q)) v f.1 g.1)
  ways_repeat (suc k) w e (Left ∷ cs) (Left ∷ ds) d v f g =
      goes_on_lem k w v e Left f.0
      (ways_repeat k (child_of nodes w Left) (stands_child nodes k f.0 e Left) cs ds (λ (q : cs ≡ ds). d (ap (λ (x : List Choice). Left ∷ x) q)) v f.1 g.1)
  ways_repeat (suc k) w e (Right ∷ cs) (Left ∷ ds) d v f g = goes-apart k w v e cs ds f g
  ways_repeat (suc k) w e (Left ∷ cs) (Right ∷ ds) d v f g = goes-apart k w v e ds cs g f

  -- ---- from the root

  pub repeats-shared : (k : ℕ) → repeats (words_from nodes k (root (nodes_of nodes))) ≡ true → Shared nodes
  repeats-shared k e =
      let t = repeats_ways k (root (nodes_of nodes)) e in
      record {
        one = t.one;
        other = t.other;
        different = t.different;
        stand = t.stand;
        leads_one = t.leads_one;
        leads_other = t.leads_other;
      }

  pub shared-repeats : (k : ℕ) → stands nodes k (root (nodes_of nodes)) ≡ false → Shared nodes
      → repeats (words_from nodes k (root (nodes_of nodes))) ≡ true
  shared-repeats k e s = ways_repeat k (root (nodes_of nodes)) e s.one s.other s.different s.stand s.leads_one s.leads_other
