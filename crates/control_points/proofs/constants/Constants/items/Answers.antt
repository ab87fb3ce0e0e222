use Rattle.control_points.specs.Thresholds.{item_constants}
use Rattle.control_points.proofs.Walked.{walked_all, walked_more}
use Rattle.control_points.proofs.constants.Constants.items.Goals as goal

pub loop-item-preserved : goal.loop-item-preserved
loop-item-preserved c = walked_more item_constants c.args.items.now c.loop-item.item-index c.item-item.result _ _ _ c.loop-item-test.true c.item-item.is c.in_ok-item.ensures c.loop-item.invariant

pub returns : goal.returns
returns c = walked_all item_constants c.args.items.now c.loop-item.item-index c.loop-item.self.values _ c.loop-item.self.first c.loop-item-test.false c.loop-item.invariant
