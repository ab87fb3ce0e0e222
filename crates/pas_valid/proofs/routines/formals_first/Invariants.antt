use Rattle.std.proofs.Common.{◌≡◌, ℕ, ◌<◌, true, Some, nat_eq}
use Rattle.std.specs.List.{slice_get}
use Rattle.pas_program.specs.Tables.{holds_of}
use Rattle.pas_valid.proofs.routines.formals_first.Given as goal

abbrev pub invariant-loop-k : goal.invariant-loop-k
invariant-loop-k l = (j v : ℕ) → j < l.k → slice_get l.formals j ≡ Some v → holds_of (λ w. nat_eq w v) (slice_get l.vars j) ≡ true
