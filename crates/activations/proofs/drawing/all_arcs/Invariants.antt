use Rattle.activations.proofs.DrawnNodes.{AfterNodes}
use Rattle.activations.proofs.drawing.all_arcs.Given as goal

abbrev pub invariant-loop-node : goal.invariant-loop-node
invariant-loop-node l = AfterNodes l.initial.drawing l.drawing l.node-index
