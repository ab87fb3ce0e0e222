use Rattle.std.proofs.Common.{◌≡◌, map, take}
use Rattle.environment.specs.Environments.Environment.{Unreachable}
use Rattle.abstract_expr.specs.Standing.{cells_in}
use Rattle.activations.specs.declared.node.Node.{Node}
use Rattle.alternation.proofs.limits.unreached.Given as goal

abbrev pub invariant-loop-node : goal.invariant-loop-node
invariant-loop-node l = map (λ e. e.env) l.table.items ≡ map (λ c. Unreachable (cells_in l.graph.table c)) (take l.node (map (λ (n : Node). n.class) l.graph.nodes))
