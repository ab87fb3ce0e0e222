use Rattle.activations.proofs.DrawnNodes.{AfterEdges}
use Rattle.activations.proofs.drawing.Drawing.node.Given as goal

abbrev pub invariant-loop-edge : goal.invariant-loop-edge
invariant-loop-edge l = AfterEdges l.initial.self l.self l.node l.edge-index
