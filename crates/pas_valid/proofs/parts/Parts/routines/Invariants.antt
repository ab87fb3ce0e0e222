use Rattle.std.proofs.Common.{◌≡◌, ℕ, ◌<◌, Some}
use Rattle.std.specs.List.{slice_get}
use Rattle.pas_program.specs.declared.routine.Routine.{Routine}
use Rattle.pas_program.specs.Size.{statement_size}
use Rattle.pas_valid.specs.Whole.{RoutineFits}
use Rattle.pas_valid.proofs.Lists.{Spent}
use Rattle.pas_valid.proofs.parts.Parts.routines.Given as goal

abbrev pub invariant-loop-r : goal.invariant-loop-r
invariant-loop-r l =
    ((j : ℕ) (d : Routine) → j < l.r → slice_get l.self.routines.now j ≡ Some d → RoutineFits l.self.types.now l.self.vars.now l.self.routines.now l.self.asserts.now l.self.labels.now l.self.ranks.now j d)
    × Spent (λ (d : Routine). statement_size d.body) l.self.routines.now l.r l.initial.left l.left
