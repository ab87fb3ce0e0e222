use Rattle.std.proofs.Common.{◌≡◌, ℕ, ◌<◌, true, Some}
use Rattle.std.specs.List.{slice_get}
use Rattle.pas_program.specs.declared.variable.VarDef.{VarDef}
use Rattle.pas_program.specs.Valid.{counts_of, var_in_range}
use Rattle.pas_valid.specs.Whole.{rank_fits}
use Rattle.pas_valid.proofs.parts.Parts.vars.Given as goal

abbrev pub invariant-loop-v : goal.invariant-loop-v
invariant-loop-v l =
    ((j : ℕ) (x : VarDef) → j < l.v → slice_get l.self.vars.now j ≡ Some x → var_in_range (counts_of l.self.types.now l.self.vars.now l.self.routines.now l.self.asserts.now) x ≡ true)
    × ((j : ℕ) (x : VarDef) → j < l.v → slice_get l.self.vars.now j ≡ Some x → rank_fits l.self.routines.now l.self.ranks.now j x ≡ true)
