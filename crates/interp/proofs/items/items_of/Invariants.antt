use Rattle.std.proofs.Common.{◌≡◌, ◌++◌, length}
use Rattle.control_points.specs.Runs.{IsInput}
use Rattle.interp.specs.InputItems as spec
use Rattle.interp.proofs.items.items_of.Given as goal

abbrev pub invariant-loop-first : goal.invariant-loop-first
invariant-loop-first l = record {
  told : l.items.items ++ spec.items_of l.rest ≡ spec.items_of l.bytes;
  numbers : IsInput l.items.items;
}

abbrev pub decreases-loop-first : goal.decreases-loop-first
decreases-loop-first l = length l.rest
