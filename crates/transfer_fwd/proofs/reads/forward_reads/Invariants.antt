use Rattle.transfer_fwd.proofs.ReadArcs.{AreSoFar, lists_of}
use Rattle.transfer_fwd.proofs.reads.forward_reads.Given as goal

abbrev pub invariant-loop-node : goal.invariant-loop-node
invariant-loop-node l = AreSoFar l.graph l.node (lists_of l.lists.items)
