use Rattle.std.specs.Prelude.{⊤}
use Rattle.fixpoint.proofs.tests.plain.Plain.pass.Given as goal

abbrev pub invariant-loop-place : goal.invariant-loop-place
invariant-loop-place g l = ⊤
