use Rattle.std.proofs.Common.{◌≡◌, ◌++◌, map, take}
use Rattle.activations.proofs.nodes.add_nodes.Given as goal

abbrev pub invariant-loop-point : goal.invariant-loop-point
invariant-loop-point l = l.list.items ≡ l.initial.list.items ++ map (λ p. record { class = l.class; point = p }) (take l.point-index l.points)
