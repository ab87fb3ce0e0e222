use Rattle.std.specs.List.Sorted.{IsStrictlySortedBy}
use Rattle.lattice.proofs.tests.the_calls_compute_the_functions.Goals as goal

pub widen_from-requires-clause-steps : goal.widen_from-requires-clause-steps
unfolding IsStrictlySortedBy
widen_from-requires-clause-steps g c = tt
