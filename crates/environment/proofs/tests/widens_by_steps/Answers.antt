use Rattle.std.proofs.Common.{refl}
use Rattle.std.specs.List.Sorted.{IsStrictlySortedBy}
use Rattle.environment.proofs.tests.widens_by_steps.Goals as goal

pub widen_from-requires-clause-steps : goal.widen_from-requires-clause-steps
unfolding IsStrictlySortedBy
widen_from-requires-clause-steps g c = ((refl, tt), (tt, tt))
