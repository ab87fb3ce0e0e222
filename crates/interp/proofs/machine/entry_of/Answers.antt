use Rattle.std.proofs.Common.{◌∙◌, sym}
use Rattle.std.proofs.lemmas.Bool.{ne_eqb}
use Rattle.interp.proofs.Starting.{entry_at, entry_not, entry_none, not_both, not_first}
use Rattle.interp.proofs.machine.entry_of.Goals as goal
use Rattle.interp.proofs.machine.entry_of.Goals.{else-is_entry-via-then-is_entry+else-point-routine, else-is_entry-via-else-is_entry}

pub returns-then-point-routine : goal.returns-then-point-routine
returns-then-point-routine c =
    entry_at c.args.flow.now.points c.points-points.result.now c.args.routine c.loop-number.number _ c.points-points.ensures c.loop-number-test.true c.if-is_entry.ensures c.if-point-routine.true c.loop-number.invariant

pub loop-number-preserved : goal.loop-number-preserved
loop-number-preserved c =
    elim c.else-is_entry.branch [
      | else-is_entry-via-then-is_entry+else-point-routine w ↦
          entry_not c.args.flow.now.points c.points-points.result.now c.args.routine c.loop-number.number _ c.points-points.ensures c.loop-number-test.true (not_both _ _ (ne_eqb _ _ w.if-point-routine.false)) c.loop-number.invariant
      | else-is_entry-via-else-is_entry w ↦
          entry_not c.args.flow.now.points c.points-points.result.now c.args.routine c.loop-number.number _ c.points-points.ensures c.loop-number-test.true (not_first _ _ (sym c.is_entry.ensures ∙ w.if-is_entry.false)) c.loop-number.invariant
    ]

pub returns : goal.returns
returns c = entry_none c.args.flow.now.points c.points-points.result.now c.args.routine c.loop-number.number c.points-points.ensures c.loop-number-test.false c.loop-number.invariant
