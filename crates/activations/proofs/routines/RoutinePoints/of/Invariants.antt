use Rattle.activations.specs.Found.{AreFirstPoints}
use Rattle.activations.proofs.routines.RoutinePoints.of.Given as goal

abbrev pub invariant-loop-number : goal.invariant-loop-number
invariant-loop-number l = AreFirstPoints l.flow l.number l.points
