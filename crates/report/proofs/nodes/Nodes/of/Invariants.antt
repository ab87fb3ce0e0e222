use Rattle.std.proofs.Common.{◌≡◌, length, map}
use Rattle.std.specs.List.{range_with_len}
use Rattle.activations.specs.Parts.{lists_of}
use Rattle.report.specs.Nodes.{first_nodes_at}
use Rattle.report.proofs.nodes.Nodes.of.Given as goal

abbrev pub invariant-loop-node : goal.invariant-loop-node
invariant-loop-node l = lists_of l.by_point.items ≡ map (first_nodes_at l.graph l.node) (range_with_len 0 (length l.flow.points))
