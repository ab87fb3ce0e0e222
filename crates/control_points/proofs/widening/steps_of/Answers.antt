use Rattle.std.proofs.Common.{FitsSigned, get_or, pos, rules, w32}
use Rattle.std.proofs.lemmas.Int.{to_z-of_z}
use Rattle.control_points.specs.Thresholds.{near}
use Rattle.control_points.proofs.RisingSteps.{rising_more}
use Rattle.control_points.proofs.widening.steps_of.Goals as goal

pub loop-z-preserved : goal.loop-z-preserved
loop-z-preserved c =
    let xs = c.args.constants.now in
    let z = get_or xs c.loop-z.z-index (pos 0) in
    let fits : FitsSigned w32 z = search rules in
    let is = to_z-of_z w32 z fits in
    rising_more near xs c.loop-z.z-index (pos 0) c.loop-z.steps.items c.put_near.new.steps.items c.loop-z-test.true c.loop-z.invariant (rw is at c.in_ok-put_near.ensures)
