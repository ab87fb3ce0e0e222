use Rattle.std.proofs.Common.{◌≡◌, [], map}
use Rattle.std.specs.List.{range_with_len}
use Rattle.activations.specs.Arcs.{arcs_into}
use Rattle.activations.specs.Parts.{lists_of}
use Rattle.activations.proofs.arcs.no_arcs.Given as goal

abbrev pub invariant-loop : goal.invariant-loop
invariant-loop l = lists_of l.lists.items ≡ map (arcs_into []) (range_with_len 0 l.counter)
