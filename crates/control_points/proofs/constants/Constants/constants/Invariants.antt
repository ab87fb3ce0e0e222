use Rattle.std.proofs.Common.{◌≡◌, ◌++◌, drop}
use Rattle.control_points.specs.Thresholds.{first_different}
use Rattle.control_points.proofs.constants.Constants.constants.Given as goal

abbrev pub invariant-loop-z : goal.invariant-loop-z
invariant-loop-z l = first_different (l.self.values ++ drop l.z-index l.zs) ≡ first_different (l.initial.self.values ++ l.zs)
