use Rattle.std.proofs.Common.{◌≡◌, fold, take}
use Rattle.std.specs.Int.{int_min, int_max}
use Rattle.transfer_fwd.proofs.testing.hull_of.Given as goal

abbrev pub invariant-loop-z : goal.invariant-loop-z
invariant-loop-z l = record {
  least : l.least ≡ fold int_min l.initial.least (take l.z-index l.others);
  greatest : l.greatest ≡ fold int_max l.initial.greatest (take l.z-index l.others);
}
