use Rattle.activations.specs.Unfolding.{unfolding_of}
use Rattle.activations.proofs.NodeNumbers.{AreSoFar}
use Rattle.activations.proofs.nodes.Nodes.of.Given as goal

abbrev pub invariant-loop-class : goal.invariant-loop-class
invariant-loop-class l = AreSoFar (unfolding_of l.flow l.classes.classes) l.class l.list.items l.firsts.items
