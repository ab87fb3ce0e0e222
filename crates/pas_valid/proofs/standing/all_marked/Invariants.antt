use Rattle.std.proofs.Common.{◌≡◌, ℕ, suc, ◌<◌, Some}
use Rattle.std.specs.List.{slice_get}
use Rattle.pas_program.specs.declared.routine.Assert.{Assert}
use Rattle.pas_valid.proofs.standing.all_marked.Given as goal

abbrev pub invariant-loop-a : goal.invariant-loop-a
invariant-loop-a l = (j : ℕ) (d : Assert) → j < l.a → slice_get l.asserts j ≡ Some d → slice_get l.marks j ≡ Some (suc d.routine)
