-- The parts of an interval above and below zero.
use Rattle.std.proofs.Common.{◌≡◌, false, pos, negsuc, ◌≤ℤ◌, arith}
use Rattle.std.proofs.lemmas.Int.{ints}
use Rattle.interval.specs.declared.itv.Itv.{Itv}
use Rattle.interval.specs.Intervals.{is_in, is_empty, negatives, interval-lo, interval-hi}
use Rattle.interval.specs.IntervalLaws.{within_bounds, meet_below_right}
use Rattle.interval.specs.Forward.{above_zero, below_zero}

pub above_zero-least : (y : Itv) → pos 1 ≤ℤ (above_zero y).lo
above_zero-least y = grind (arith, ints, interval-lo)

pub above_zero-nonzero : (y : Itv) → is_in (above_zero y) (pos 0) ≡ false
above_zero-nonzero y = grind (arith, ints, above_zero-least y)

pub below_zero-nonzero : (y : Itv) → is_in (below_zero y) (pos 0) ≡ false
below_zero-nonzero y = grind (arith, ints, interval-lo, interval-hi)

pub below_zero-greatest : (y : Itv) → is_empty (below_zero y) ≡ false → (below_zero y).hi ≤ℤ negsuc 0
below_zero-greatest y e = (within_bounds (below_zero y) negatives e (meet_below_right y negatives)).1
