use Rattle.std.proofs.Common.{◌≡◌, ◌++◌, drop}
use Rattle.control_points.specs.Thresholds.{actuals_constants, exprs_constants, first_different}
use Rattle.control_points.proofs.constants.Constants.+constants.Given as goal

abbrev pub invariant-actuals-loop-a : goal.invariant-actuals-loop-a
invariant-actuals-loop-a l = first_different (l.self.values ++ actuals_constants (drop l.a-index l.actuals)) ≡ first_different (l.initial.self.values ++ actuals_constants l.actuals)

abbrev pub invariant-exprs-loop-e : goal.invariant-exprs-loop-e
invariant-exprs-loop-e l = first_different (l.self.values ++ exprs_constants (drop l.e-index l.exprs)) ≡ first_different (l.initial.self.values ++ exprs_constants l.exprs)
