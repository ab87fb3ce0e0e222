use Rattle.std.proofs.Common.{arith}
use Rattle.report.proofs.CheckNumbers.{checks_of_point}
use Rattle.report.proofs.verdicts.count_checks.Goals as goal

pub overflow_sub-result : goal.overflow_sub-result
overflow_sub-result c =
    let more = checks_of_point c.args.nodes.now.flow.now c.args.point (c.checks_are_those_of_points.ensures c.args.nodes.now.flow.now) c.requires in
    omega (arith, more, c.checks_at-range.ensures.start, c.checks_at-range.ensures.«end»)

pub returns : goal.returns
returns c =
    let more = checks_of_point c.args.nodes.now.flow.now c.args.point (c.checks_are_those_of_points.ensures c.args.nodes.now.flow.now) c.requires in
    omega (arith, more, c.checks_at-range.ensures.start, c.checks_at-range.ensures.«end»)
