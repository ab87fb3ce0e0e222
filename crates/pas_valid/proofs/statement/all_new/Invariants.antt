use Rattle.std.proofs.Common.{◌≡◌, true, List, ℤ, ◌++◌, drop}
use Rattle.pas_valid.specs.Standing.{fresh}
use Rattle.pas_valid.proofs.statement.all_new.Given as goal

abbrev pub invariant-loop-value : goal.invariant-loop-value
invariant-loop-value l = (zs : List ℤ) → fresh l.seen (drop l.value-index l.values ++ zs) ≡ true → fresh l.initial.seen (l.values ++ zs) ≡ true
