use Rattle.pas_valid.proofs.Marks.{Stood}
use Rattle.pas_valid.proofs.standing.all_labels.Given as goal

abbrev pub invariant-loop-r : goal.invariant-loop-r
invariant-loop-r l = Stood l.routines l.sets.items l.marks l.r
