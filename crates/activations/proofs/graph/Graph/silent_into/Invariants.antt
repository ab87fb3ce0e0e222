use Rattle.activations.specs.Outside.{AreOthers}
use Rattle.activations.proofs.graph.Graph.silent_into.Given as goal

abbrev pub invariant-loop-class : goal.invariant-loop-class
invariant-loop-class l = AreOthers l.self.table l.self.left l.stands l.class l.out
