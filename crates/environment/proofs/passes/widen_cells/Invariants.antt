use Rattle.std.proofs.Common.{◌≡◌, drop}
use Rattle.interval.specs.Values.{val_widen}
use Rattle.environment.specs.Pointwise.{each_within}
use Rattle.environment.proofs.Progress.{done_within, IsFlag}
use Rattle.environment.proofs.passes.widen_cells.Given as goal

abbrev pub invariant-loop-i : goal.invariant-loop-i
invariant-loop-i l = record {
  so_far : done_within (val_widen l.steps) l.cells l.others l.limits l.i ≡ each_within (val_widen l.steps) l.fn.cells l.others l.limits;
  untouched : drop l.i l.cells ≡ drop l.i l.fn.cells;
  flag : IsFlag l.changed l.cells l.fn.cells;
}
