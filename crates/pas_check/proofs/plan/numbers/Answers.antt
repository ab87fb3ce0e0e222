use Rattle.std.proofs.Common.{ap, sym, ◌++◌}
use Rattle.pas_check.specs.Plans.{numbers_from}
use Rattle.pas_check.proofs.Plans.{numbers_end, numbers_next}
use Rattle.pas_check.proofs.plan.numbers.Goals as goal

pub loop-routine-init : goal.loop-routine-init
loop-routine-init c = ap (λ ns. ns ++ numbers_from c.args.first c.args.routines.now) (sym c.new-numbers.ensures.items)

pub loop-routine-preserved : goal.loop-routine-preserved
loop-routine-preserved c =
    numbers_next c.args.routines.now c.loop-routine.routine-index c.routine-item.result c.loop-routine.numbers.items c.push.new.numbers.items (numbers_from c.args.first c.args.routines.now)
    c.loop-routine.before c.in_ok-own_number.field-0 c.in_ok-ends.ends c.in_ok-before.before
    c.loop-routine.invariant c.loop-routine-test.true c.routine-item.is c.in_ok-own_number.ensures c.in_ok-push.ensures c.in_ok-ends.ensures c.in_ok-before.ensures

pub returns : goal.returns
returns c = numbers_end c.args.routines.now c.loop-routine.routine-index c.loop-routine.numbers.items (numbers_from c.args.first c.args.routines.now) c.loop-routine.before c.loop-routine.invariant c.loop-routine-test.false
