use Rattle.std.proofs.Common.{rules, to_z-of_z}
use Rattle.interval.proofs.Sizes.{least_sized, greatest_sized, same_sized, same_between}
use Rattle.interval.proofs.Sound.{product_ends}
use Rattle.interval.proofs.ends.product_ends.Goals as goal

pub returns-clause-least : goal.returns-clause-least
returns-clause-least c = search (rules, to_z-of_z)

pub returns-clause-greatest : goal.returns-clause-greatest
returns-clause-greatest c = search (rules, to_z-of_z)

pub returns-clause-least_sized : goal.returns-clause-least_sized
returns-clause-least_sized c =
    same_sized _ _ (search (rules, to_z-of_z))
    (least_sized _ _ _ _ c.times-p.ensures.sized c.times-q.ensures.sized c.times-r.ensures.sized c.times-s.ensures.sized)

pub returns-clause-greatest_sized : goal.returns-clause-greatest_sized
returns-clause-greatest_sized c =
    same_sized _ _ (search (rules, to_z-of_z))
    (greatest_sized _ _ _ _ c.times-p.ensures.sized c.times-q.ensures.sized c.times-r.ensures.sized c.times-s.ensures.sized)

pub returns-clause-between : goal.returns-clause-between
returns-clause-between c a b i j =
    same_between _ _ _ _ _ (search (rules, to_z-of_z)) (search (rules, to_z-of_z)) (product_ends c.args.x c.args.y a b i j)
