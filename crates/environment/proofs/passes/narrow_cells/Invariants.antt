use Rattle.std.proofs.Common.{◌≡◌, take, drop, IsFalse}
use Rattle.interval.specs.Values.{val_narrow}
use Rattle.environment.specs.Pointwise.{each_within}
use Rattle.environment.specs.Environments.{has_empty_cell}
use Rattle.environment.proofs.Progress.{done_within, IsFlag}
use Rattle.environment.proofs.passes.narrow_cells.Given as goal

abbrev pub invariant-loop-i : goal.invariant-loop-i
invariant-loop-i l = record {
  so_far : done_within val_narrow l.cells l.others l.limits l.i ≡ each_within val_narrow l.fn.cells l.others l.limits;
  something : IsFalse (has_empty_cell (take l.i l.cells));
  untouched : drop l.i l.cells ≡ drop l.i l.fn.cells;
  flag : IsFlag l.changed l.cells l.fn.cells;
}
