-- Intervals of the language's numbers.
use Rattle.std.specs.Prelude.{◌≡◌, refl, Bool, IsTrue, ◌&&◌, ◌||◌, if◌then◌else◌, ℤ, pos, neg_ℤ, ◌≤ℤ◌, int_lt, int_le}
use Rattle.std.specs.Int.{int_min, int_max}
use Rattle.std.proofs.Common.{arith}
use Rattle.std.proofs.lemmas.Int.{ints}
use Rattle.arithmetic.specs.Numbers.{maxint, IsNumber, is_number}
use Rattle.interval.specs.declared.itv.Itv.{Itv}
use Rattle.interval.specs.Bounds.{IsCanonical}

-- z is one of the interval's numbers
abbrev pub IsIn : Itv → ℤ → Type 0
IsIn x z = (x.lo ≤ℤ z) × (z ≤ℤ x.hi)

-- the same as a test
abbrev pub is_in : Itv → ℤ → Bool
is_in x z = int_le x.lo z && int_le z x.hi

abbrev pub is_empty : Itv → Bool
is_empty x = int_lt x.hi x.lo

-- ---- intervals by their bounds

pub number_by_test : (z : ℤ) → IsTrue (is_number z) → IsNumber z
number_by_test z e = grind (arith, ints)

pub canonical_in_order : (lo hi : ℤ) → IsTrue (int_le lo hi) → IsCanonical lo hi
canonical_in_order lo hi e h = grind (arith, ints)

-- from lo to hi, which are numbers in this order
abbrev pub from_to : (lo hi : ℤ) → IsTrue (is_number lo) → IsTrue (is_number hi) → IsTrue (int_le lo hi) → Itv
from_to lo hi n m e = record {
  lo = lo;
  hi = hi;
  lo_in_range = number_by_test lo n;
  hi_in_range = number_by_test hi m;
  canonical = canonical_in_order lo hi e;
}

-- no number
abbrev pub empty : Itv
empty = record {
  lo = pos 1;
  hi = pos 0;
  lo_in_range = number_by_test (pos 1) refl;
  hi_in_range = number_by_test (pos 0) refl;
  canonical = λ _. (refl, refl);
}

-- all numbers, those of Booleans, and those above and below zero
abbrev pub numbers : Itv
numbers = from_to (neg_ℤ maxint) maxint refl refl refl

abbrev pub booleans : Itv
booleans = from_to (pos 0) (pos 1) refl refl refl

abbrev pub positives : Itv
positives = from_to (pos 1) maxint refl refl refl

abbrev pub negatives : Itv
negatives = from_to (neg_ℤ maxint) (neg_ℤ (pos 1)) refl refl refl

-- ---- what is left of lo..hi between -maxint and maxint

abbrev pub least : ℤ → ℤ
least lo = int_max lo (neg_ℤ maxint)

abbrev pub greatest : ℤ → ℤ
greatest hi = int_min hi maxint

-- no number is left
abbrev pub is_crossed : ℤ → ℤ → Bool
is_crossed lo hi = int_lt (greatest hi) (least lo)

abbrev pub low_end : ℤ → ℤ → ℤ
low_end lo hi = if is_crossed lo hi then pos 1 else least lo

abbrev pub high_end : ℤ → ℤ → ℤ
high_end lo hi = if is_crossed lo hi then pos 0 else greatest hi

low_end_in_range : (lo hi : ℤ) → IsNumber (low_end lo hi)
low_end_in_range lo hi = grind (arith, ints)

high_end_in_range : (lo hi : ℤ) → IsNumber (high_end lo hi)
high_end_in_range lo hi = grind (arith, ints)

ends_canonical : (lo hi : ℤ) → IsCanonical (low_end lo hi) (high_end lo hi)
ends_canonical lo hi h = grind (arith, ints)

-- the numbers of the language from lo to hi
pub interval : ℤ → ℤ → Itv
interval lo hi = record {
  lo = low_end lo hi;
  hi = high_end lo hi;
  lo_in_range = low_end_in_range lo hi;
  hi_in_range = high_end_in_range lo hi;
  canonical = ends_canonical lo hi;
}

-- its bounds
pub interval-lo : (lo hi : ℤ) → (interval lo hi).lo ≡ low_end lo hi
unfolding interval
interval-lo lo hi = refl

pub interval-hi : (lo hi : ℤ) → (interval lo hi).hi ≡ high_end lo hi
unfolding interval
interval-hi lo hi = refl

-- ---- meet, join and order

-- the numbers that both have
abbrev pub meet : Itv → Itv → Itv
meet x y = interval (int_max x.lo y.lo) (int_min x.hi y.hi)

-- the least interval around numbers of two intervals that have some
abbrev pub hull : Itv → Itv → Itv
hull x y = interval (int_min x.lo y.lo) (int_max x.hi y.hi)

-- the least interval around the numbers of both
abbrev pub join : Itv → Itv → Itv
join x y =
    if is_empty x then y
    else (if is_empty y then x
    else hull x y)

-- each number of x is one of y
abbrev pub is_within : Itv → Itv → Bool
is_within x y = is_empty x || (int_le y.lo x.lo && int_le x.hi y.hi)
