use Rattle.std.specs.Prelude.{◌+◌, ◌*◌, ⊤}
use Rattle.fixpoint.proofs.tests.plain.Plain.+ascent.Given as goal

abbrev pub decreases-ascend : goal.decreases-ascend
decreases-ascend g l = 2 * l.depth + 1

abbrev pub decreases-ascend_component : goal.decreases-ascend_component
decreases-ascend_component g l = 2 * l.depth

abbrev pub invariant-ascend-loop : goal.invariant-ascend-loop
invariant-ascend-loop g l = ⊤

abbrev pub invariant-ascend_component-loop-turn : goal.invariant-ascend_component-loop-turn
invariant-ascend_component-loop-turn g l = ⊤
