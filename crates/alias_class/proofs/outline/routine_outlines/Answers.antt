use Rattle.alias_class.proofs.Lists.{listed_at}
use Rattle.alias_class.proofs.Ranked.{formals_below, vars_below}
use Rattle.alias_class.proofs.outline.routine_outlines.Goals as goal

pub own_variables-requires : goal.own_variables-requires
own_variables-requires c =
    vars_below c.args.program.now c.loop-routine.routine-index c.routine-item.result
    (listed_at c.as_slice-routine-items.result.now c.args.program.now.routines c.loop-routine.routine-index c.routine-item.result c.as_slice-routine-items.ensures c.loop-routine-test.true c.routine-item.is)

pub var_formals-requires : goal.var_formals-requires
var_formals-requires c =
    formals_below c.args.program.now c.loop-routine.routine-index c.routine-item.result
    (listed_at c.as_slice-routine-items.result.now c.args.program.now.routines c.loop-routine.routine-index c.routine-item.result c.as_slice-routine-items.ensures c.loop-routine-test.true c.routine-item.is)
