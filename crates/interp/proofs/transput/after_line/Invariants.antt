use Rattle.std.proofs.Common.{◌≡◌, length}
use Rattle.control_points.specs.Input as input
use Rattle.interp.proofs.transput.after_line.Given as goal

abbrev pub invariant-loop-item : goal.invariant-loop-item
invariant-loop-item l = input.after_line l.rest ≡ input.after_line l.items

abbrev pub decreases-loop-item : goal.decreases-loop-item
decreases-loop-item l = length l.rest
