use Rattle.activations.specs.Outside.{AreOfRoutines}
use Rattle.activations.proofs.silence.classes_of.Given as goal

abbrev pub invariant-loop-class : goal.invariant-loop-class
invariant-loop-class l = AreOfRoutines l.classes l.routines l.class l.marks.items
