use Rattle.interp.specs.Layouts.{AreCounts}
use Rattle.interp.proofs.layout.counts_of.Given as goal

abbrev pub invariant-loop-number : goal.invariant-loop-number
invariant-loop-number l = AreCounts l.program.types l.counts.items l.number
