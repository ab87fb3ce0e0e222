use Rattle.std.proofs.Common.{◌≡◌, ◌≤◌, ◌++◌, length, vec_capacity}
use Rattle.environment.proofs.passes.copy_cells.Given as goal

abbrev pub invariant-loop-rest : goal.invariant-loop-rest
invariant-loop-rest l = record {
  so_far : l.cells.items ++ l.rest ≡ l.others;
  room : length l.others ≤ vec_capacity l.cells;
  grows : vec_capacity l.fn.cells ≤ vec_capacity l.cells;
}

abbrev pub decreases-loop-rest : goal.decreases-loop-rest
decreases-loop-rest l = length l.rest
