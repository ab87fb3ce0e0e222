use Rattle.std.proofs.Common.{◌≡◌, ◌++◌, drop}
use Rattle.control_points.specs.Thresholds.{accesses_constants, first_different}
use Rattle.control_points.proofs.constants.Constants.accesses.Given as goal

abbrev pub invariant-loop-access : goal.invariant-loop-access
invariant-loop-access l = first_different (l.self.values ++ accesses_constants (drop l.access-index l.accesses)) ≡ first_different (l.initial.self.values ++ accesses_constants l.accesses)
