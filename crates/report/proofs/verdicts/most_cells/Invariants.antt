use Rattle.std.proofs.Common.{ℕ, ◌<◌, ◌≤◌}
use Rattle.abstract_expr.specs.Standing.{cells_in}
use Rattle.report.proofs.verdicts.most_cells.Given as goal

abbrev pub invariant-loop-class : goal.invariant-loop-class
invariant-loop-class l = (class : ℕ) → class < l.class → cells_in l.graph.table class ≤ l.most
