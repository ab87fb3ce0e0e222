use Rattle.std.proofs.Common.{◌≡◌, take}
use Rattle.std.specs.List.{flat_map}
use Rattle.control_points.specs.Thresholds.{near, rising}
use Rattle.control_points.proofs.widening.steps_of.Given as goal

abbrev pub invariant-loop-z : goal.invariant-loop-z
invariant-loop-z l = l.steps.items ≡ rising (flat_map near (take l.z-index l.constants))
