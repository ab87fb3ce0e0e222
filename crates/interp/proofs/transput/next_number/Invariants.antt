use Rattle.std.proofs.Common.{◌≡◌, length}
use Rattle.control_points.specs.Input as input
use Rattle.interp.proofs.transput.next_number.Given as goal

abbrev pub invariant-loop-item : goal.invariant-loop-item
invariant-loop-item l = input.next_number l.rest ≡ input.next_number l.items

abbrev pub decreases-loop-item : goal.decreases-loop-item
decreases-loop-item l = length l.rest
