use Rattle.std.proofs.Common.{◌-◌}
use Rattle.activations.specs.Found.{IsFound}
use Rattle.activations.specs.Unfolding.{most_cells}
use Rattle.activations.proofs.discovery.discover.Given as goal

abbrev pub invariant-loop-class : goal.invariant-loop-class
invariant-loop-class l = IsFound l.flow l.class l.found

abbrev pub decreases-loop-class : goal.decreases-loop-class
decreases-loop-class l = most_cells - l.found.size
