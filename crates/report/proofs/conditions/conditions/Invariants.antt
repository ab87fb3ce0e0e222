use Rattle.std.proofs.Common.{◌≡◌, All}
use Rattle.std.specs.List.{flat_map, range_with_len}
use Rattle.report.specs.Conditions.{IsOf, conditions_at}
use Rattle.transfer_fwd.specs.Systems.{environments}
use Rattle.report.proofs.conditions.conditions.Given as goal

abbrev pub invariant-loop-point : goal.invariant-loop-point
invariant-loop-point l = record {
  each : All (IsOf l.nodes.flow.now) l.conditions.items;
  value : l.conditions.items ≡ flat_map (conditions_at l.nodes.flow.now l.nodes.graph.now (environments l.plain) (environments l.way)) (range_with_len 0 l.point);
}
