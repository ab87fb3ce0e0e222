use Rattle.std.proofs.Common.{◌≡◌, take, drop, IsFalse}
use Rattle.interval.specs.Values.{val_meet}
use Rattle.environment.specs.Pointwise.{each}
use Rattle.environment.specs.Environments.{has_empty_cell}
use Rattle.environment.proofs.Progress.{done}
use Rattle.environment.proofs.passes.meet_cells.Given as goal

abbrev pub invariant-loop-i : goal.invariant-loop-i
invariant-loop-i l = record {
  so_far : done val_meet l.cells l.others l.i ≡ each val_meet l.fn.cells l.others;
  something : IsFalse (has_empty_cell (take l.i l.cells));
  untouched : drop l.i l.cells ≡ drop l.i l.fn.cells;
}
