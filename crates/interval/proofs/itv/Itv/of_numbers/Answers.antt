use Rattle.std.proofs.Common.{arith}
use Rattle.std.proofs.lemmas.Int.{ints}
use Rattle.interval.specs.Intervals.{interval-lo, interval-hi}
use Rattle.interval.specs.Same.{same_bounds}
use Rattle.interval.proofs.itv.Itv.of_numbers.Goals as goal

pub returns-then-hi-lo : goal.returns-then-hi-lo
returns-then-hi-lo c =
    same_bounds _ _
    (grind (arith, ints, interval-lo c.args.lo c.args.hi))
    (grind (arith, ints, interval-hi c.args.lo c.args.hi))

pub returns : goal.returns
returns c =
    same_bounds _ _
    (grind (arith, ints, interval-lo c.args.lo c.args.hi))
    (grind (arith, ints, interval-hi c.args.lo c.args.hi))
