use Rattle.std.proofs.Common.{◌≡◌, map, take}
use Rattle.alternation.specs.Limits.{class_limit}
use Rattle.activations.specs.declared.node.Node.{Node}
use Rattle.alternation.proofs.limits.type_limits.Given as goal

abbrev pub invariant-loop-node : goal.invariant-loop-node
invariant-loop-node l = map (λ e. e.env) l.table.items ≡ map (class_limit l.graph.table) (take l.node (map (λ (n : Node). n.class) l.graph.nodes))
