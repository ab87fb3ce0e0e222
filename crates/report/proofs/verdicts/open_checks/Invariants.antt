use Rattle.std.proofs.Common.{◌≡◌}
use Rattle.std.specs.List.{flat_map, range_with_len}
use Rattle.environment.specs.Kept.{room_of}
use Rattle.report.specs.Conditions.{open_at}
use Rattle.transfer_fwd.specs.Systems.{environments}
use Rattle.report.proofs.verdicts.open_checks.Given as goal

abbrev pub invariant-loop-point : goal.invariant-loop-point
invariant-loop-point l = record {
  marks : l.all.items ≡ flat_map (open_at l.nodes.flow.now l.nodes.graph.now (environments l.plain)) (range_with_len 0 l.point);
  room : room_of l.scratch ≡ room_of l.initial.scratch;
}
