use Rattle.std.proofs.Common.{◌≡◌, take}
use Rattle.control_points.specs.Wired.{points_of}
use Rattle.control_points.proofs.assembly.points_of.Given as goal

abbrev pub invariant-loop-mark : goal.invariant-loop-mark
invariant-loop-mark l = l.points ≡ points_of (take l.mark-index l.marks)
