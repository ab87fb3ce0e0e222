use Rattle.std.proofs.Common.{◌≡◌, length, map, take}
use Rattle.alternation.specs.Solved.{edges_from}
use Rattle.alternation.proofs.dependences.Dependences.of.Given as goal

abbrev pub invariant-loop-node : goal.invariant-loop-node
invariant-loop-node l = (l.edges.nodes ≡ length l.read-items) × (l.edges.pairs ≡ edges_from 0 (take l.node (map (λ v. v.items) l.read-items)))
