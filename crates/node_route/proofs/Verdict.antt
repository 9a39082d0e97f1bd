-- The verdict is what the routes say, for every NODES lump. Assumes nothing.
use Prim.Native.Nat.{ℕ, ◌≤◌}
use mathlib.Core.Bool.{Bool, true, false}
use mathlib.Core.List.{List}
use mathlib.Core.Path.{◌≡◌, refl, sym, ap, ◌∙◌}
use native.Mathlib.Omega.{arith}
use Rattle.std.specs.Prelude.{Result, Ok, Err}
use Rattle.node_route.specs.declared.GraphError.{GraphError}
use Rattle.node.specs.Nodes.{nodes_of, subsector_bit, root}
use Rattle.node_route.specs.Routes.{Loop, Shared, Depth}
use Rattle.node_route.specs.Heights.{stands, height, words_from, repeats, graph_by, graph_verdict}
use Rattle.node_route.specs.Promises.{VerdictHolds}
use Rattle.node_route.proofs.Heights.{stands-none, height-none, stands_made, made_stands, height_made, made_height}
use Rattle.node_route.proofs.Shared.{words-end, repeats-shared, shared-repeats}

-- the two tests, and what the depth is where both fail
abbrev pub looping : List ℕ → Bool
looping nodes = stands nodes (nodes_of nodes) (root (nodes_of nodes))

abbrev pub sharing : List ℕ → Bool
sharing nodes = repeats (words_from nodes (nodes_of nodes) (root (nodes_of nodes)))

abbrev pub root_height : List ℕ → ℕ
root_height nodes = height nodes (nodes_of nodes) (root (nodes_of nodes))

module _ (nodes : List ℕ) where
  verdict-is : graph_verdict nodes ≡ graph_by (looping nodes) (sharing nodes) (root_height nodes)
  unfolding graph_verdict
  verdict-is = refl

  pub verdict-loop : looping nodes ≡ true → graph_verdict nodes ≡ Err GraphError.HasLoop
  verdict-loop e = verdict-is ∙ ap (λ (b : Bool). graph_by b (sharing nodes) (root_height nodes)) e

  verdict_off : looping nodes ≡ false → graph_verdict nodes ≡ graph_by false (sharing nodes) (root_height nodes)
  verdict_off e = verdict-is ∙ ap (λ (b : Bool). graph_by b (sharing nodes) (root_height nodes)) e

  pub verdict-shared : looping nodes ≡ false → Shared nodes → graph_verdict nodes ≡ Err GraphError.HasShared
  verdict-shared e s = verdict_off e ∙ ap (λ (b : Bool). graph_by false b (root_height nodes)) (shared-repeats nodes (nodes_of nodes) e s)

  depth_by : (b : Bool) → sharing nodes ≡ b → (Shared nodes → ⊥) → b ≡ false
  depth_by true e none = absurd (none (repeats-shared nodes (nodes_of nodes) e))
  depth_by false e none = refl

  pub verdict_depth : looping nodes ≡ false → (Shared nodes → ⊥) → graph_verdict nodes ≡ Ok (root_height nodes)
  verdict_depth e none =
      verdict_off e ∙ ap (λ (b : Bool). graph_by false b (root_height nodes)) (depth_by (sharing nodes) refl none)

  -- without nodes the depth is 0
  pub verdict-none : nodes_of nodes ≡ 0 → graph_verdict nodes ≡ Ok 0
  verdict-none e =
      let off : looping nodes ≡ false = rw e (stands-none nodes subsector_bit) in
      let is : root_height nodes ≡ 0 = rw e (height-none nodes subsector_bit) in
      let end : subsector_bit ≤ subsector_bit = omega arith in
      let alone : sharing nodes ≡ false = rw (e, words-end nodes 0 end) in
      verdict_off off ∙ ap (λ (b : Bool). graph_by false b (root_height nodes)) alone ∙ ap Ok is

  -- ---- the verdict's three cases

  record Cases (g : Result ℕ GraphError) : Type 0 where
    loop : g ≡ Err GraphError.HasLoop → looping nodes ≡ true
    shared : g ≡ Err GraphError.HasShared → (looping nodes ≡ false) × (sharing nodes ≡ true)
    depth : {d : ℕ} → g ≡ Ok d → (looping nodes ≡ false) × (sharing nodes ≡ false) × (root_height nodes ≡ d)

  cases_by : (a b : Bool) → looping nodes ≡ a → sharing nodes ≡ b → Cases (graph_by a b (root_height nodes))
  cases_by true b l s =
      record {
        loop = λ e. l;
        shared = λ e. let z : ◌≡◌ {A = ℕ} 0 1 = cc in absurd (omega arith);
        depth = λ e. let z : ◌≡◌ {A = ℕ} 0 1 = cc in absurd (omega arith);
      }
  cases_by false true l s =
      record {
        loop = λ e. let z : ◌≡◌ {A = ℕ} 0 1 = cc in absurd (omega arith);
        shared = λ e. (l, s);
        depth = λ e. let z : ◌≡◌ {A = ℕ} 0 1 = cc in absurd (omega arith);
      }
  cases_by false false l s =
      record {
        loop = λ e. let z : ◌≡◌ {A = ℕ} 0 1 = cc in absurd (omega arith);
        shared = λ e. let z : ◌≡◌ {A = ℕ} 0 1 = cc in absurd (omega arith);
        depth = λ e. (l, s, cc);
      }

  cases : Cases (graph_by (looping nodes) (sharing nodes) (root_height nodes))
  cases = cases_by (looping nodes) (sharing nodes) refl refl

  pub depth_verdict : {d : ℕ} → graph_verdict nodes ≡ Ok d
      → (looping nodes ≡ false) × (sharing nodes ≡ false) × (root_height nodes ≡ d)
  depth_verdict e = cases.depth (sym verdict-is ∙ e)

  -- ---- and what they say of lists of choices

  loops : graph_verdict nodes ≡ Err GraphError.HasLoop → Loop nodes
  loops e =
      let on = cases.loop (sym verdict-is ∙ e) in
      let (m, node) = stands_made nodes (nodes_of nodes) (root (nodes_of nodes)) on in
      record { choices = m.choices; many = m.many; stand = m.stand; leads = m.leads; on_node = node }

  pub loop-on : Loop nodes → looping nodes ≡ true
  loop-on l =
      sym (ap (λ (k : ℕ). stands nodes k (root (nodes_of nodes))) l.many)
      ∙ made_stands nodes l.choices (root (nodes_of nodes)) l.leads l.on_node

  off_by : (b : Bool) → looping nodes ≡ b → (Loop nodes → ⊥) → b ≡ false
  off_by true e none = absurd (none (loops (verdict-loop e)))
  off_by false e none = refl

  off : (Loop nodes → ⊥) → looping nodes ≡ false
  off none = off_by (looping nodes) refl none

  shares : (Loop nodes → ⊥) → graph_verdict nodes ≡ Err GraphError.HasShared → Shared nodes
  shares none e = repeats-shared nodes (nodes_of nodes) (cases.shared (sym verdict-is ∙ e)).1

  deep : (d : ℕ) → graph_verdict nodes ≡ Ok d → Depth nodes d
  deep d e =
      let (off, alone, is) = depth_verdict e in
      let (m, end) = height_made nodes (nodes_of nodes) (root (nodes_of nodes)) off in
      record {
        choices = m.choices;
        reached = record { stand = m.stand; leads = m.leads; ends = end };
        many = m.many ∙ is;
        most = λ cs r. rw is at (made_height nodes (nodes_of nodes) (root (nodes_of nodes)) off cs r.leads r.ends);
      }

  pub verdict-holds : VerdictHolds nodes
  verdict-holds =
      record {
        loop = (loops, λ (l : Loop nodes). verdict-loop (loop-on l));
        shared = λ (none : Loop nodes → ⊥). (shares none, verdict-shared (off none));
        neither = λ (none : Loop nodes → ⊥) (alone : Shared nodes → ⊥). (root_height nodes, verdict_depth (off none) alone);
        deep = deep;
      }
