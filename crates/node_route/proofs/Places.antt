-- A place is a node and a choice made there. Where there is no loop, two different lists of choices lead to one word exactly if two
-- different places of reached nodes have one child: two lists are taken apart from the back. Assumes nothing.
use Prim.Native.Nat.{ℕ, zero, suc, ◌+◌, ◌≤◌, ◌<◌}
use mathlib.Core.Bool.{Bool, true, false}
use mathlib.Core.List.{List, [], ◌∷◌, ◌++◌}
use mathlib.Core.Logic.{◌⊎◌, inl, inr, ⊎_elim}
use mathlib.Core.Path.{◌≡◌, refl, sym, ap, ◌∙◌, subst}
use native.Mathlib.Omega.{arith}
use borrow.Author.Tests.{ltb-false, eqb-true, eqb-false}
use lib.Dec.{eqb}
use lib.ListN.{length, length-append}
use Rattle.node.specs.declared.Choice.{Choice}
use Rattle.node.specs.declared.Choice.TheVariants.{Right, Left}
use Rattle.node.specs.Nodes.{nodes_of, subsector_bit, child_of, root}
use Rattle.node_route.specs.Routes.{Follow, Reached, Shared}
use Rattle.node_route.specs.Heights.{stands}
use Rattle.node_route.proofs.Heights.{stands-none, stands_child}

-- two places are the same, or not
pub same_place : (u v : ℕ) (c d : Choice) → ((u ≡ v) × (c ≡ d)) ⊎ (u ≡ v → c ≡ d → ⊥)
same_place u v c d = by (eqb u v) refl c d
  where
    by : (b : Bool) → eqb u v ≡ b → (c d : Choice) → ((u ≡ v) × (c ≡ d)) ⊎ (u ≡ v → c ≡ d → ⊥)
    by true e Right Right = inl (eqb-true u v e, refl)
    by true e Left Left = inl (eqb-true u v e, refl)
    by true e Right Left = inr (λ p q. let z : ◌≡◌ {A = ℕ} 0 1 = cc in omega arith)
    by true e Left Right = inr (λ p q. let z : ◌≡◌ {A = ℕ} 0 1 = cc in omega arith)
    by false e c d = inr (λ p q. eqb-false u v e p)

-- lists that end with one choice each
snoc_same : (cs ds : List Choice) (c d : Choice) → cs ++ c ∷ [] ≡ ds ++ d ∷ [] → (cs ≡ ds) × (c ≡ d)
snoc_same [] [] c d e = (refl, cc)
snoc_same [] (x ∷ ds) c d e =
    let z : 1 ≡ suc (length (ds ++ d ∷ [])) = ap length e in
    let l = length-append ds (d ∷ []) in
    absurd (omega arith)
snoc_same (x ∷ cs) [] c d e =
    let z : suc (length (cs ++ c ∷ [])) ≡ 1 = ap length e in
    let l = length-append cs (c ∷ []) in
    absurd (omega arith)
snoc_same (x ∷ cs) (y ∷ ds) c d e =
    let head : x ≡ y = cc in
    let tail : cs ++ c ∷ [] ≡ ds ++ d ∷ [] = cc in
    let p = snoc_same cs ds c d tail in
    ((λ i. head i ∷ p.0 i), p.1)

module _ (nodes : List ℕ) where
  -- ---- lists of choices, one choice more at their end

  pub follow_more : (cs : List Choice) (w u : ℕ) → Follow nodes w cs u → u < subsector_bit → (c : Choice)
      → Follow nodes w (cs ++ c ∷ []) (child_of nodes u c)
  follow_more [] w u f h c = (rw f h, ap (λ (x : ℕ). child_of nodes x c) f)
  follow_more (d ∷ cs) w u f h c = (f.0, follow_more cs (child_of nodes w d) u f.1 h c)

  follow_only : (cs : List Choice) (w u v : ℕ) → Follow nodes w cs u → Follow nodes w cs v → u ≡ v
  follow_only [] w u v f g = sym f ∙ g
  follow_only (c ∷ cs) w u v f g = follow_only cs (child_of nodes w c) u v f.1 g.1

  pub reached_child : (u : ℕ) → Reached nodes u → u < subsector_bit → (c : Choice) → Reached nodes (child_of nodes u c)
  reached_child u r h c =
      record { choices = r.choices ++ c ∷ []; leads = follow_more r.choices (root (nodes_of nodes)) u r.leads h c }

  -- the place that a list of choices makes its last choice at
  record Last (w : ℕ) (cs : List Choice) (v : ℕ) : Type 0 where
    before : List Choice
    node : ℕ
    choice : Choice
    is : cs ≡ before ++ choice ∷ []
    leads : Follow nodes w before node
    made : node < subsector_bit
    child : child_of nodes node choice ≡ v

  last : (c : Choice) (cs : List Choice) (w v : ℕ) → Follow nodes w (c ∷ cs) v → Last w (c ∷ cs) v
  last c [] w v f = record { before = []; node = w; choice = c; is = refl; leads = refl; made = f.0; child = f.1 }
  last c (d ∷ cs) w v f =
      let p = last d cs (child_of nodes w c) v f.1 in
      record {
        before = c ∷ p.before;
        node = p.node;
        choice = p.choice;
        is = ap (λ (x : List Choice). c ∷ x) p.is;
        leads = (f.0, p.leads);
        made = p.made;
        child = p.child;
      }

  -- ---- without a loop no list leads back

  stands_follow : (cs : List Choice) (k w v : ℕ) → stands nodes k w ≡ false → Follow nodes w cs v
      → (j : ℕ) × (j + length cs ≡ k) × (stands nodes j v ≡ false)
  stands_follow [] k w v e f = (k, omega arith, rw f at e)
  stands_follow (c ∷ cs) zero w v e f =
      let end : subsector_bit ≤ w = ltb-false w subsector_bit (sym (stands-none nodes w) ∙ e) in
      let on = f.0 in
      absurd (omega arith)
  stands_follow (c ∷ cs) (suc k) w v e f =
      let (j, l, s) = stands_follow cs k (child_of nodes w c) v (stands_child nodes k f.0 e c) f.1 in
      (j, omega arith, s)

  no_return : (n k w : ℕ) → k ≤ n → stands nodes k w ≡ false → (c : Choice) (cs : List Choice) → Follow nodes w (c ∷ cs) w → ⊥
  no_return zero k w h e c cs f =
      let (j, l, s) = stands_follow (c ∷ cs) k w w e f in omega arith
  no_return (suc n) k w h e c cs f =
      let (j, l, s) = stands_follow (c ∷ cs) k w w e f in no_return n j w (omega arith) s c cs f

  -- ---- two places with one child

  pub record TwoPlaces : Type 0 where
    pub node : ℕ
    pub choice : Choice
    pub node' : ℕ
    pub choice' : Choice
    pub different : node ≡ node' → choice ≡ choice' → ⊥
    pub reached : Reached nodes node
    pub reached' : Reached nodes node'
    pub made : node < subsector_bit
    pub made' : node' < subsector_bit
    pub child : child_of nodes node choice ≡ child_of nodes node' choice'

  pub places-shared : TwoPlaces → Shared nodes
  places-shared p =
      let one = p.reached in
      let other = p.reached' in
      let start = root (nodes_of nodes) in
      record {
        one = one.choices ++ p.choice ∷ [];
        other = other.choices ++ p.choice' ∷ [];
        different = λ (e : one.choices ++ p.choice ∷ [] ≡ other.choices ++ p.choice' ∷ []).
            let (cs, c) = snoc_same one.choices other.choices p.choice p.choice' e in
            p.different
            (follow_only other.choices start p.node p.node' (subst (λ (x : List Choice). Follow nodes start x p.node) cs one.leads) other.leads)
            c;
        stand = child_of nodes p.node p.choice;
        leads_one = follow_more one.choices start p.node one.leads p.made p.choice;
        leads_other =
            subst (λ (x : ℕ). Follow nodes start (other.choices ++ p.choice' ∷ []) x) (sym p.child)
            (follow_more other.choices start p.node' other.leads p.made' p.choice');
      }

  module _ (off : stands nodes (nodes_of nodes) (root (nodes_of nodes)) ≡ false) where
    back_to_root : (c : Choice) (cs : List Choice) → Follow nodes (root (nodes_of nodes)) (c ∷ cs) (root (nodes_of nodes)) → ⊥
    back_to_root = no_return (nodes_of nodes) (nodes_of nodes) (root (nodes_of nodes)) (omega arith) off

    -- two lists, the first of at most `n` choices
    abbrev Meets : ℕ → Type 0
    Meets n =
        (cs ds : List Choice) → length cs ≤ n → (cs ≡ ds → ⊥) → (v : ℕ) → Follow nodes (root (nodes_of nodes)) cs v
        → Follow nodes (root (nodes_of nodes)) ds v → TwoPlaces

    meet_some : (n : ℕ) → Meets n → (x y : Choice) (cs ds : List Choice) → length cs ≤ n → (x ∷ cs ≡ y ∷ ds → ⊥) → (v : ℕ)
        → Follow nodes (root (nodes_of nodes)) (x ∷ cs) v → Follow nodes (root (nodes_of nodes)) (y ∷ ds) v → TwoPlaces
    meet_some n shorter x y cs ds h d v f g =
        let start = root (nodes_of nodes) in
        let p = last x cs start v f in
        let q = last y ds start v g in
        ⊎_elim
        (λ (same : (p.node ≡ q.node) × (p.choice ≡ q.choice)).
        let apart : p.before ≡ q.before → ⊥ =
        λ (e : p.before ≡ q.before). d (p.is ∙ (λ i. e i ++ same.1 i ∷ []) ∙ sym q.is) in
        let long : suc (length cs) ≡ length p.before + 1 = ap length p.is ∙ length-append p.before (p.choice ∷ []) in
        shorter p.before q.before (omega arith) apart p.node p.leads
        (subst (λ (u : ℕ). Follow nodes start q.before u) (sym same.0) q.leads))
        (λ (other : p.node ≡ q.node → p.choice ≡ q.choice → ⊥).
        record {
          node = p.node;
          choice = p.choice;
          node' = q.node;
          choice' = q.choice;
          different = other;
          reached = record { choices = p.before; leads = p.leads };
          reached' = record { choices = q.before; leads = q.leads };
          made = p.made;
          made' = q.made;
          child = p.child ∙ sym q.child;
        })
        (same_place p.node q.node p.choice q.choice)

    meet_more : (n : ℕ) → ((m : ℕ) → n ≡ suc m → Meets m) → Meets n
    meet_more n shorter [] [] h d v f g = absurd (d refl)
    meet_more n shorter [] (x ∷ ds) h d v f g = absurd (back_to_root x ds (rw (sym f) at g))
    meet_more n shorter (x ∷ cs) [] h d v f g = absurd (back_to_root x cs (rw (sym g) at f))
    meet_more zero shorter (x ∷ cs) (y ∷ ds) h d v f g = absurd (omega arith)
    meet_more (suc n) shorter (x ∷ cs) (y ∷ ds) h d v f g = meet_some n (shorter n refl) x y cs ds (omega arith) d v f g

    meet : (n : ℕ) → Meets n
    meet zero = meet_more zero (λ m e. absurd (omega arith))
    meet (suc n) = meet_more (suc n) (λ m e. (let same : n ≡ m = omega arith in subst Meets same (meet n)))

    pub shared-places : Shared nodes → TwoPlaces
    shared-places s = meet (length s.one) s.one s.other (omega arith) s.different s.stand s.leads_one s.leads_other
