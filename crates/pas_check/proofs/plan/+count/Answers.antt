use Rattle.pas_check.specs.Block.{ends_inside}
use Rattle.pas_check.proofs.Plans.{ends_first, ends_last, ends_next}
use Rattle.pas_check.proofs.plan.+count.Goals as goal

pub count_bodies-loop-routine-init : goal.count_bodies-loop-routine-init
count_bodies-loop-routine-init t c = ends_first c.args.block.now c.as_slice-routine-items.result.now c.as_slice-routine-items.ensures

pub count_bodies-loop-routine-preserved : goal.count_bodies-loop-routine-preserved
count_bodies-loop-routine-preserved t c =
    ends_next c.as_slice-routine-items.result.now c.loop-routine.routine-index c.routine-item.result (ends_inside c.args.block.now) c.loop-routine.count c.in_ok-count_routine.field-0 c.in_ok-count.count
    c.loop-routine.invariant c.loop-routine-test.true c.routine-item.is c.in_ok-count_routine.ensures c.in_ok-count.ensures

pub count_bodies-returns : goal.count_bodies-returns
count_bodies-returns t c = ends_last c.as_slice-routine-items.result.now c.loop-routine.routine-index c.loop-routine.count (ends_inside c.args.block.now) c.loop-routine.invariant c.loop-routine-test.false
