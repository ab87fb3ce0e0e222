use Rattle.std.proofs.Common.{◌≡◌, ◌++◌}
use Rattle.std.specs.List.{flat_map, range_with_len}
use Rattle.transfer_fwd.specs.Systems.{environments}
use Rattle.report.specs.Report.{point_lines}
use Rattle.report.proofs.points.put_points.Given as goal

abbrev pub invariant-loop-point : goal.invariant-loop-point
invariant-loop-point l =
    l.page.bytes.items ≡ l.initial.page.bytes.items ++ flat_map (point_lines l.source.text.now l.source.flow.now l.nodes.graph.now (environments l.way)) (range_with_len 0 l.point)
