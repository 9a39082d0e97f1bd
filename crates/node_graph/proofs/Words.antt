-- The search's state in the work words: what the writes of a step and of the beginning do to the marks and the path.
-- Assumes nothing.
use Prim.Native.Nat.{ℕ, suc, ◌+◌, ◌-◌, ◌*◌, ◌≤◌, ◌<◌}
use mathlib.Core.List.{List, ◌++◌}
use mathlib.Core.Path.{◌≡◌, refl, ap, ◌∙◌}
use native.Mathlib.Numerals.{add-one}
use native.Mathlib.Omega.{arith}
use lib.ListN.{length, get_or, set, drop, replicate, length-set, length-append, length-drop, length-replicate, get_or-replicate, get_or-append}
use lib.Seq.{get_or-set_same, get_or-set_other, drop_at}
use Rattle.node.specs.declared.Choice.{Choice}
use Rattle.node.specs.Nodes.{nodes_of, subsector_bit, child_of}
use Rattle.node_graph.specs.declared.NodeGraph.{NodeGraph}
use Rattle.node_graph.specs.Judging.{cleared}
use Rattle.node_graph.specs.Looks.{mark_of, path_of, look_below, LooksInside, pushed, begun}
use Rattle.node_graph.specs.Searching.{unmet, Tall, Due, Searchable, State, effort, LoopMet, Explored}
use Rattle.node_graph.proofs.Searching.{push, finish, start}
use Rattle.node_graph.proofs.Ends.{path_loop, path_done}
use Rattle.node_graph.proofs.Unmet.{unmet-some}
use Rattle.node_graph.proofs.Looks.{SaidBelow, said_below}
use Rattle.node.proofs.Nodes.{nodes_of-whole}

-- the marks and the path after a node was put on the path
module _ (words : List ℕ) (count sp v : ℕ) (l : v < count) (fits : count + sp < length words) where
  pushed_put : mark_of (pushed words count sp v) v ≡ 65535
  pushed_put =
      let inside : v < length words = omega arith in
      rw (get_or-set_other (set words v 65535) (count + sp) v v 0 (λ e. omega arith)) (get_or-set_same words v 65535 0 inside)

  pushed-other : (i : ℕ) → i < count → (i ≡ v → ⊥) → mark_of (pushed words count sp v) i ≡ mark_of words i
  pushed-other i h n =
      rw (get_or-set_other (set words v 65535) (count + sp) i v 0 (λ e. omega arith)) (get_or-set_other words v i 65535 0 n)

  pushed-below : (j : ℕ) → j < sp → path_of (pushed words count sp v) count j ≡ path_of words count j
  pushed-below j h =
      rw (get_or-set_other (set words v 65535) (count + sp) (count + j) v 0 (λ e. omega arith))
      (get_or-set_other words v (count + j) 65535 0 (λ e. omega arith))

  pushed-end : path_of (pushed words count sp v) count sp ≡ v
  pushed-end =
      let inside : count + sp < length (set words v 65535) = rw (length-set words v 65535) fits in
      get_or-set_same (set words v 65535) (count + sp) v 0 inside

module _ (nodes : List ℕ) (count : ℕ) (words : List ℕ) (g : Searchable nodes count words) where
  counted : nodes_of nodes ≡ count
  counted = nodes_of-whole nodes count g.whole

  -- the state after the beginning
  pub state_start : State nodes count (begun words count) 1
  state_start =
      let l : count - 1 < count = (let h = g.least in omega arith) in
      let long : length (replicate count 0 ++ drop count words) ≡ length words =
      (let h = g.enough in simp (length-append, length-replicate, length-drop) (omega arith)) in
      let fits : count + 0 < length (replicate count 0 ++ drop count words) =
      (let e = g.enough in let h = g.least in rw long (omega arith)) in
      let cleared = replicate count 0 ++ drop count words in
      start nodes count g.least g.most counted g.in_range _ _
      (pushed_put cleared count 0 (count - 1) l fits)
      (λ i h n. pushed-other cleared count 0 (count - 1) l fits i h n ∙ zero-below i h)
      (pushed-end cleared count 0 (count - 1) l fits)
    where
      zero-below : (i : ℕ) → i < count → get_or (replicate count 0 ++ drop count words) i 0 ≡ 0
      zero-below i h =
          let inside : i < length (replicate {A = ℕ} count 0) = rw (length-replicate {A = ℕ} count 0) h in
          rw (get_or-append (replicate count 0) (drop count words) 0 i inside) (get_or-replicate count i 0 0 h)

  module _ (sp : ℕ) (s : State nodes count words sp) (some : 0 < sp) where
    -- ---- the path's end

    pub top_below : path_of words count (sp - 1) < count
    top_below = s.in_range (sp - 1) (omega arith)

    child_below : (c : Choice) → child_of nodes (path_of words count (sp - 1)) c < subsector_bit
        → child_of nodes (path_of words count (sp - 1)) c < count
    child_below c h =
        let n = counted in
        let l = top_below in
        rw counted at (g.in_range (path_of words count (sp - 1)) (omega arith) c h)

    pub top_inside : LooksInside nodes words (path_of words count (sp - 1))
    top_inside =
        record {
          whole = (let l = top_below in let e = g.whole in omega arith);
          marked = λ c h. (let l = child_below c h in let e = g.enough in omega arith);
        }

    pub top_said : SaidBelow nodes count words sp (path_of words count (sp - 1))
        (look_below nodes words (path_of words count (sp - 1)))
    top_said =
        let l = top_below in
        let m = g.most in
        said_below nodes count words sp s counted (path_of words count (sp - 1)) (omega arith) child_below

    pub top_looped : (c : Choice) → child_of nodes (path_of words count (sp - 1)) c < count
        → mark_of words (child_of nodes (path_of words count (sp - 1)) c) ≡ 65535 → Due nodes (path_of words count (sp - 1)) c
        → LoopMet nodes (mark_of words) sp
    top_looped c l e due =
        path_loop nodes count g.least g.most counted g.in_range (mark_of words) (path_of words count) sp s c l e due some

    -- ---- a node that is put on the path

    module _ (v : ℕ) (l : v < count) (new : mark_of words v ≡ 0) where
      pub push_fits : count + sp < length words
      push_fits =
          let n = unmet-some (mark_of words) v new count l in
          let r = s.room in
          let e = g.enough in
          omega arith

      pub state_push : (c : Choice) → v ≡ child_of nodes (path_of words count (sp - 1)) c → Due nodes (path_of words count (sp - 1)) c
          → State nodes count (pushed words count sp v) (sp + 1)
          × (effort (pushed words count sp v) count (sp + 1) < effort words count sp)
      state_push c is due =
          let put = pushed_put words count sp v l push_fits in
          let other = pushed-other words count sp v l push_fits in
          let below = pushed-below words count sp v l push_fits in
          let end = pushed-end words count sp v l push_fits in
          let (state, less) =
          push nodes count g.least g.most counted g.in_range (mark_of words) (path_of words count) sp s
          (mark_of (pushed words count sp v)) (path_of (pushed words count sp v) count)
          v l new put other below end some c is due in
          (state, omega arith)

    -- ---- the path's end, done

    module _ (h : ℕ) (is : Tall nodes (path_of words count (sp - 1)) (suc h))
        (fits : h + (unmet (mark_of words) count + sp) ≤ count)
        (children : (c : Choice) → child_of nodes (path_of words count (sp - 1)) c < subsector_bit
        → mark_of words (child_of nodes (path_of words count (sp - 1)) c) ≡ 0 → ⊥) where
      pub state_finish : State nodes count (set words (path_of words count (sp - 1)) (h + 1)) (sp - 1)
          × (effort (set words (path_of words count (sp - 1)) (h + 1)) count (sp - 1) < effort words count sp)
      state_finish =
          let top = path_of words count (sp - 1) in
          let l = top_below in
          let inside : top < length words = (let e = g.enough in omega arith) in
          let done = get_or-set_same words top (h + 1) 0 inside ∙ add-one h in
          let other : (i : ℕ) → i < count → (i ≡ top → ⊥) → mark_of (set words top (h + 1)) i ≡ mark_of words i =
          λ i k n. get_or-set_other words top i (h + 1) 0 n in
          let below : (j : ℕ) → j < sp - 1 → path_of (set words top (h + 1)) count j ≡ path_of words count j =
          λ j k. get_or-set_other words top (count + j) (h + 1) 0 (λ e. omega arith) in
          let (state, same) =
          finish nodes count g.least g.most counted g.in_range (mark_of words) (path_of words count) sp s some
          (mark_of (set words top (h + 1))) (path_of (set words top (h + 1)) count) h done is fits children other below in
          (state, omega arith)

  pub state_done : State nodes count words 0 → Explored nodes (mark_of words) (mark_of words (count - 1))
  state_done s = path_done nodes count g.least g.most counted g.in_range (mark_of words) (path_of words count) 0 s refl

-- what the search is given, for lemmas
pub searchable : (g : NodeGraph) {words : List ℕ} → 2 * g.count ≤ length words → Searchable g.nodes.now g.count words
searchable g h = record { whole = g.whole; least = g.least; most = g.most; enough = h; in_range = g.in_range }

-- clearing after a part at the front was written
pub cleared_front : (words front : List ℕ) (n : ℕ) → length front ≡ n → cleared (front ++ drop n words) n ≡ cleared words n
cleared_front words front n e = ap (λ (rest : List ℕ). replicate n 0 ++ rest) (drop_at front (drop n words) n e)
