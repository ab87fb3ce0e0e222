use Rattle.std.proofs.Common.{rules, to_z-of_z}
use Rattle.interval.proofs.Sizes.{product_sized, same_sized}
use Rattle.interval.proofs.ends.times.Goals as goal

pub returns-clause-sized : goal.returns-clause-sized
returns-clause-sized c =
    same_sized _ _ (search (rules, to_z-of_z)) (product_sized c.args.x c.args.y c.ranges.x c.ranges.y)
