use Rattle.std.proofs.Common.{take}
use Rattle.alias_class.specs.Passings.{IsPassing}
use Rattle.alias_class.proofs.passing.Passing.new.Given as goal

abbrev pub invariant-loop-rank : goal.invariant-loop-rank
invariant-loop-rank l = IsPassing l.passing l.inherited l.first_foreign l.formals (take l.rank l.named)
