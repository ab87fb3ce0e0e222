use Rattle.std.proofs.Common.{◌≡◌}
use Rattle.interval.specs.Values.{val_join}
use Rattle.environment.specs.Pointwise.{each}
use Rattle.environment.proofs.Progress.{done}
use Rattle.environment.proofs.passes.join_cells.Given as goal

abbrev pub invariant-loop-i : goal.invariant-loop-i
invariant-loop-i l = done val_join l.cells l.others l.i ≡ each val_join l.fn.cells l.others
