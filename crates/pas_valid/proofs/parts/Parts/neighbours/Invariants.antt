use Rattle.std.proofs.Common.{◌≡◌, ℕ, suc, ◌<◌, true, Some}
use Rattle.std.specs.List.{slice_get}
use Rattle.pas_valid.specs.Whole.{stand_in_order}
use Rattle.pas_valid.proofs.parts.Parts.neighbours.Given as goal

abbrev pub invariant-loop-k : goal.invariant-loop-k
invariant-loop-k l = (j v w : ℕ) → j < l.k → slice_get l.list j ≡ Some v → slice_get l.list (suc j) ≡ Some w → stand_in_order l.self.vars.now v w ≡ true
