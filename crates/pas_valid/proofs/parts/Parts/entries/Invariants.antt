use Rattle.std.proofs.Common.{◌≡◌, ℕ, ◌<◌, true, Some}
use Rattle.std.specs.List.{slice_get}
use Rattle.pas_valid.specs.Whole.{entry_fits}
use Rattle.pas_valid.proofs.parts.Parts.entries.Given as goal

abbrev pub invariant-loop-k : goal.invariant-loop-k
invariant-loop-k l = (j v : ℕ) → j < l.k → slice_get l.list j ≡ Some v → entry_fits l.self.vars.now l.self.ranks.now l.r l.d j v ≡ true
