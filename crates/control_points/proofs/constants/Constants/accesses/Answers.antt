use Rattle.control_points.specs.Thresholds.{access_constants}
use Rattle.control_points.proofs.Walked.{walked_all, walked_more}
use Rattle.control_points.proofs.constants.Constants.accesses.Goals as goal

pub loop-access-preserved : goal.loop-access-preserved
loop-access-preserved c = walked_more access_constants c.args.accesses.now c.loop-access.access-index c.access-item.result _ _ _ c.loop-access-test.true c.access-item.is c.in_ok-access.ensures c.loop-access.invariant

pub returns : goal.returns
returns c = walked_all access_constants c.args.accesses.now c.loop-access.access-index c.loop-access.self.values _ c.loop-access.self.first c.loop-access-test.false c.loop-access.invariant
