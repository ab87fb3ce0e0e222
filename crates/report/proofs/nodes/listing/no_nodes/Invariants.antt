use Rattle.std.proofs.Common.{◌≡◌, map}
use Rattle.std.specs.List.{range_with_len}
use Rattle.activations.specs.Parts.{lists_of}
use Rattle.report.specs.Nodes.{first_nodes_at}
use Rattle.report.proofs.nodes.listing.no_nodes.Given as goal

abbrev pub invariant-loop : goal.invariant-loop
invariant-loop l = lists_of l.lists.items ≡ map (first_nodes_at l.graph 0) (range_with_len 0 l.counter)
