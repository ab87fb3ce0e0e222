use Rattle.std.proofs.Common.{◌≡◌, ℕ, ◌<◌, Some}
use Rattle.std.specs.List.{slice_get}
use Rattle.pas_program.specs.declared.routine.Assert.{Assert}
use Rattle.pas_program.specs.Size.{expr_size}
use Rattle.pas_valid.specs.Whole.{AssertFits}
use Rattle.pas_valid.proofs.Lists.{Spent}
use Rattle.pas_valid.proofs.parts.Parts.asserts.Given as goal

abbrev pub invariant-loop-d : goal.invariant-loop-d
invariant-loop-d l =
    ((j : ℕ) (d : Assert) → j < l.d-index → slice_get l.self.asserts.now j ≡ Some d → AssertFits l.self.types.now l.self.vars.now l.self.routines.now l.self.asserts.now l.self.labels.now d)
    × Spent (λ (d : Assert). expr_size d.cond) l.self.asserts.now l.d-index l.initial.left l.left
