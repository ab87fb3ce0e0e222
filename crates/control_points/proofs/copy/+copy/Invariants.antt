use Rattle.std.proofs.Common.{◌≡◌, take}
use Rattle.control_points.proofs.copy.+copy.Given as goal

abbrev pub invariant-copy_actuals-loop-a : goal.invariant-copy_actuals-loop-a
invariant-copy_actuals-loop-a l = l.copies ≡ take l.a-index l.actuals

abbrev pub invariant-copy_exprs-loop-e : goal.invariant-copy_exprs-loop-e
invariant-copy_exprs-loop-e l = l.copies ≡ take l.e-index l.exprs
