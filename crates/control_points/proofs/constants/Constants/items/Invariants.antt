use Rattle.std.proofs.Common.{◌≡◌, ◌++◌, drop}
use Rattle.control_points.specs.Thresholds.{items_constants, first_different}
use Rattle.control_points.proofs.constants.Constants.items.Given as goal

abbrev pub invariant-loop-item : goal.invariant-loop-item
invariant-loop-item l = first_different (l.self.values ++ items_constants (drop l.item-index l.items)) ≡ first_different (l.initial.self.values ++ items_constants l.items)
