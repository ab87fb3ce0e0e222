use Rattle.std.proofs.Common.{◌≡◌}
use Rattle.environment.specs.Environments.Environment.{Reachable}
use Rattle.alternation.proofs.Filling.{limited_to}
use Rattle.alternation.proofs.limits.class_limit.Given as goal

abbrev pub invariant-loop-cell : goal.invariant-loop-cell
invariant-loop-cell l = l.limit.env ≡ Reachable (limited_to l.graph.table l.class l.cells l.cell)
