use Rattle.std.proofs.Common.{rules, to_z-of_z, ◌≡◌, pos, ◌≤ℤ◌, ◌<ℤ◌, ◌-ℤ◌, arith, refl, ◌∙◌}
use Rattle.std.proofs.lemmas.Int.{ints}
use Rattle.std.specs.Int.{int_min}
use Rattle.interval.specs.declared.itv.Itv.{Itv}
use Rattle.interval.specs.Intervals.{interval}
use Rattle.interval.specs.Forward.{remainders_over_blocks}
use Rattle.interval.proofs.Equal.{equal_intervals}
use Rattle.interval.proofs.tables.remainders_over_blocks.Goals as goal

from_below_zero : (x y : Itv) → x.lo <ℤ pos 0 → interval (pos 0) (y.hi -ℤ pos 1) ≡ remainders_over_blocks x y
from_below_zero x y below = grind (arith, ints)

of_many : (x y : Itv) → pos 0 ≤ℤ x.lo → y.lo ≤ℤ x.hi → interval (pos 0) (int_min (y.hi -ℤ pos 1) x.hi) ≡ remainders_over_blocks x y
of_many x y above many = grind (arith, ints)

pub returns-then-x-lt0 : goal.returns-then-x-lt0
returns-then-x-lt0 c =
    c.between.ensures
    ∙ equal_intervals refl (omega (arith, ints))
    ∙ from_below_zero c.args.x c.args.y (omega (arith, ints))

pub returns-else-x-y : goal.returns-else-x-y
returns-else-x-y c =
    c.between-else-x-y.ensures
    ∙ equal_intervals refl (search (rules, to_z-of_z))
    ∙ of_many c.args.x c.args.y (omega (arith, ints)) (omega (arith, ints))
