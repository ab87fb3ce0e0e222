use Rattle.std.proofs.Common.{◌≡◌, ◌++◌, map, take}
use Rattle.alternation.proofs.dependences.add_reads.Given as goal

abbrev pub invariant-loop-read : goal.invariant-loop-read
invariant-loop-read l = (l.edges.nodes ≡ l.fn.edges.nodes) × (l.edges.pairs ≡ l.fn.edges.pairs ++ map (λ r. (r, l.node)) (take l.read-index l.reads))
