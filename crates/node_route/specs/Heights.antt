-- Loop, shared child and depth as tests that compute, and the graph's verdict by them. proofs/Heights.antt and
-- proofs/Shared.antt have that they are those of specs/Routes.antt. Assumes nothing.
use Rattle.std.specs.Prelude.{ℕ, zero, suc, max, Bool, true, false, ◌&&◌, ◌||◌, cond, List, [], ◌∷◌, ◌++◌, eqb, Result, Ok, Err}
use Rattle.node.specs.declared.Choice.TheVariants.{Right, Left}
use Rattle.node_route.specs.declared.GraphError.{GraphError}
use Rattle.node.specs.Nodes.{nodes_of, is_node, child_of, root}

-- some list of `k` choices from the word `w` is still on a node
unfoldable pub stands : List ℕ → ℕ → ℕ → Bool
stands nodes zero w = is_node w
stands nodes (suc k) w = is_node w && (stands nodes k (child_of nodes w Right) || stands nodes k (child_of nodes w Left))

-- the most nodes that `k` choices or fewer pass from the word `w`
unfoldable pub height : List ℕ → ℕ → ℕ → ℕ
height nodes zero w = 0
height nodes (suc k) w =
    cond (is_node w) (suc (max (height nodes k (child_of nodes w Right)) (height nodes k (child_of nodes w Left)))) 0

-- the words that `k` choices or fewer lead to from the word `w`, one for each list of choices
unfoldable pub words_from : List ℕ → ℕ → ℕ → List ℕ
words_from nodes zero w = w ∷ []
words_from nodes (suc k) w =
    w ∷ cond (is_node w) (words_from nodes k (child_of nodes w Right) ++ words_from nodes k (child_of nodes w Left)) []

-- `x` is in the list
abbrev pub member : ℕ → List ℕ → Bool
member x [] = false
member x (y ∷ ys) = eqb x y || member x ys

-- some number is in the list twice
abbrev pub repeats : List ℕ → Bool
repeats [] = false
repeats (x ∷ xs) = member x xs || repeats xs

-- by whether there is a loop, whether there is a shared child, and the depth
abbrev pub graph_by : Bool → Bool → ℕ → Result ℕ GraphError
graph_by true shared depth = Err GraphError.HasLoop
graph_by false true depth = Err GraphError.HasShared
graph_by false false depth = Ok depth

-- a loop; where there is none a shared child; where there is neither the depth
unfoldable pub graph_verdict : List ℕ → Result ℕ GraphError
graph_verdict nodes =
    let count = nodes_of nodes in
    graph_by (stands nodes count (root count)) (repeats (words_from nodes count (root count))) (height nodes count (root count))
