use Rattle.std.proofs.Common.{◌≡◌, ◌++◌, drop}
use Rattle.pas_check.specs.Plans.{numbers_from}
use Rattle.pas_check.proofs.plan.numbers.Given as goal

abbrev pub invariant-loop-routine : goal.invariant-loop-routine
invariant-loop-routine l = numbers_from l.fn.first l.routines ≡ l.numbers.items ++ numbers_from l.before (drop l.routine-index l.routines)
