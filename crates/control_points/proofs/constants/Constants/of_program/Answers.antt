use Rattle.pas_program.specs.Checked.{tables}
use Rattle.control_points.specs.Thresholds.{routine_constants}
use Rattle.control_points.proofs.Walked.{walked_all, walked_more}
use Rattle.control_points.proofs.constants.Constants.of_program.Goals as goal

pub loop-routine-preserved : goal.loop-routine-preserved
loop-routine-preserved c =
    let p = c.args.program.now in
    let within = rw c.as_slice-routine-items.ensures at c.loop-routine-test.true in
    let is = rw c.as_slice-routine-items.ensures at c.routine-item.is in
    walked_more (routine_constants (tables p) p.asserts) p.routines c.loop-routine.routine-index c.routine-item.result _ _ _ within is c.in_ok-statement.ensures c.loop-routine.invariant

pub returns : goal.returns
returns c =
    let p = c.args.program.now in
    let done = rw c.as_slice-routine-items.ensures at c.loop-routine-test.false in
    walked_all (routine_constants (tables p) p.asserts) p.routines c.loop-routine.routine-index c.loop-routine.found.values _ c.loop-routine.found.first done c.loop-routine.invariant
