use Rattle.std.proofs.Common.{take}
use Rattle.std.specs.List.{flat_map}
use Rattle.activations.specs.Calls.{sites_at}
use Rattle.activations.specs.Found.{HasEntered}
use Rattle.activations.proofs.discovery.Discovery.handle.Given as goal

abbrev pub invariant-loop-point : goal.invariant-loop-point
invariant-loop-point l = HasEntered l.flow l.class (flat_map (sites_at l.flow.edges) (take l.point-index l.points)) l.initial.self l.self
