use Rattle.std.proofs.Common.{refl}
use Rattle.std.specs.List.Sorted.{IsStrictlySortedBy}
use Rattle.fixpoint.proofs.tests.steps_of.Goals as goal

pub returns-then-by_steps : goal.returns-then-by_steps
unfolding IsStrictlySortedBy
returns-then-by_steps c =
    ((refl, (refl, (refl, (refl, (refl, tt))))), ((refl, (refl, (refl, (refl, tt)))), ((refl, (refl, (refl, tt))), ((refl, (refl, tt)), ((refl, tt), (tt, tt))))))

pub returns : goal.returns
unfolding IsStrictlySortedBy
returns c = tt
