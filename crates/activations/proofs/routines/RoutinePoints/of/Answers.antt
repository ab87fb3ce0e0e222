use Rattle.std.proofs.Common.{List, length, ap, arith}
use Rattle.control_points.specs.declared.point.Point.{Point}
use Rattle.activations.proofs.DiscoveredPoints.{all_points, few_points}
use Rattle.activations.proofs.routines.RoutinePoints.of.Goals as goal

pub overflow_cast-number-end : goal.overflow_cast-number-end
overflow_cast-number-end c =
    let points = ap (λ (ps : List Point). length ps) c.points.ensures in
    omega (arith, few_points c.args.flow.now, points)

pub returns : goal.returns
returns c =
    let points = ap (λ (ps : List Point). length ps) c.points.ensures in
    all_points c.args.flow.now c.loop-number.number c.loop-number.points (omega (arith, c.loop-number-test.false, points, c.loop-number.auto.number-end)) c.loop-number.invariant
