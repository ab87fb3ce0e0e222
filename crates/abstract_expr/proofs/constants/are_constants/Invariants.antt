use Rattle.std.proofs.Common.{◌≡◌, ◌+◌, drop}
use Rattle.std.specs.List.{count_by}
use Rattle.interval.specs.Intervals.{is_in}
use Rattle.control_points.specs.Judgements.{all_constants, constants_at}
use Rattle.abstract_expr.proofs.constants.are_constants.Given as goal

abbrev pub invariant-loop-edge : goal.invariant-loop-edge
invariant-loop-edge l =
    l.chosen + count_by (is_in l.x) (all_constants l.flow.edges (drop l.edge-index l.edge-items))
    ≡ count_by (is_in l.x) (constants_at l.flow.edges l.point)
