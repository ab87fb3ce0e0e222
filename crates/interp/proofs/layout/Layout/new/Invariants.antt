use Rattle.interp.proofs.Laying.{LaidSoFar}
use Rattle.interp.proofs.layout.Layout.new.Given as goal

abbrev pub invariant-loop-number : goal.invariant-loop-number
invariant-loop-number l = LaidSoFar l.program l.offsets.items l.extents.items l.number
