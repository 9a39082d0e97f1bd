-- The refusals of a graph: 31 and 32. Assumes nothing.
use Rattle.refusal.specs.declared.Refusal.{Refusal}
use Rattle.refusal.specs.declared.Refusal.TheVariants.{NodeLoop, NodeShared}
use Rattle.node_route.specs.declared.GraphError.{GraphError}
use Rattle.node_route.specs.declared.GraphError.TheVariants.{HasLoop, HasShared}

-- 31 where there is a loop, 32 where there is none and a child is shared
abbrev pub refusal_of : GraphError → Refusal
refusal_of HasLoop = NodeLoop
refusal_of HasShared = NodeShared
