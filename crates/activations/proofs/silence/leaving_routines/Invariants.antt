use Rattle.activations.specs.Outside.{AreLeaving}
use Rattle.activations.proofs.silence.leaving_routines.Given as goal

abbrev pub invariant-loop-edge : goal.invariant-loop-edge
invariant-loop-edge l = AreLeaving l.flow l.edge-index l.routines.items
