use Rattle.std.proofs.Common.{length}
use Rattle.pas_check.proofs.Plans.{AreLeft}
use Rattle.pas_check.proofs.seen.Seen.plans.Given as goal

abbrev pub invariant-loop-routine : goal.invariant-loop-routine
invariant-loop-routine l = AreLeft l.self.text.now l.bodies l.plans l.fn.first l.routines l.rest l.numbers.items

abbrev pub decreases-loop-routine : goal.decreases-loop-routine
decreases-loop-routine l = length l.rest
