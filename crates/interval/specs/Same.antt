-- An interval is its bounds, and an interval between bounds is the numbers between them.
use Rattle.std.specs.Prelude.{◌≡◌, IsTrue, ℤ, ◌≤ℤ◌}
use Rattle.std.proofs.Common.{arith}
use Rattle.std.proofs.lemmas.Int.{ints}
use Rattle.arithmetic.specs.Numbers.{IsNumber}
use Rattle.interval.specs.declared.itv.Itv.{Itv}
use Rattle.interval.specs.contracts.itv.Itv.{struct, the_propositions}
use Rattle.interval.specs.Intervals.{IsIn, is_empty, empty, interval, interval-lo, interval-hi}
use denote.Struct.Record.{values_one}

pub same_bounds : (x y : Itv) → x.lo ≡ y.lo → x.hi ≡ y.hi → x ≡ y
same_bounds x y e f = values_one struct the_propositions x y (cc)

pub interval_has : (lo hi z : ℤ) → IsNumber z → lo ≤ℤ z → z ≤ℤ hi → IsIn (interval lo hi) z
interval_has lo hi z n a b = grind (arith, ints, interval-lo lo hi, interval-hi lo hi)

pub in_interval : (lo hi z : ℤ) → IsIn (interval lo hi) z → IsNumber z × (lo ≤ℤ z) × (z ≤ℤ hi)
in_interval lo hi z h = grind (arith, ints, interval-lo lo hi, interval-hi lo hi)

-- there is one interval without numbers
pub no_number : (x : Itv) → IsTrue (is_empty x) → x ≡ empty
no_number x e = same_bounds x empty (grind (arith, ints, x.canonical)) (grind (arith, ints, x.canonical))
