-- What the operators give at intervals (after Cousot and Cousot, ISOP 1976): a value that has each result at numbers of the
-- operands, and whether no such numbers make the operator's error.
use Rattle.std.specs.Prelude.{Bool, not, ◌&&◌, ◌||◌, if◌then◌else◌, ℤ, pos, neg_ℤ, ◌+ℤ◌, ◌-ℤ◌, ◌*ℤ◌, int_lt, int_le, int_div, unsigned_abs, ◌%◌, ◌==◌}
use Rattle.std.specs.Int.{int_min, int_max, int_div_euclid, int_rem_euclid}
use Rattle.std.specs.Ordering.{int_eq}
use Rattle.px_base.specs.declared.operator.BinOp.{BinOp}
use Rattle.px_base.specs.declared.operator.BinOp.TheVariants.{Add, Sub, Mul, Div, Mod, And, Or, Eq, Ne, Lt, Le, Gt, Ge}
use Rattle.px_base.specs.declared.operator.UnOp.{UnOp}
use Rattle.px_base.specs.declared.operator.UnOp.TheVariants.{Neg, Not, Abs, Sqr, Odd, SuccInt, PredInt, SuccBool, PredBool, OrdOf}
use Rattle.arithmetic.specs.Numbers.{truth}
use Rattle.interval.specs.declared.itv.Itv.{Itv}
use Rattle.interval.specs.declared.answer.Answer.{Answer}
use Rattle.interval.specs.Answers.{always, clipped}
use Rattle.interval.specs.Ends.{least_of, greatest_of}
use Rattle.interval.specs.Intervals.{is_in, is_empty, interval, empty, numbers, booleans, positives, negatives, meet, join, is_within}

-- the part of X in a range
abbrev pub clip : Itv → Itv → Answer
clip x range = record { value = meet x range; holds = is_within x range }

-- ---- sums, products, quotients and remainders

-- a product is least and greatest at ends of the operands
abbrev pub least_product : Itv → Itv → ℤ
least_product x y = least_of (x.lo *ℤ y.lo) (x.lo *ℤ y.hi) (x.hi *ℤ y.lo) (x.hi *ℤ y.hi)

abbrev pub greatest_product : Itv → Itv → ℤ
greatest_product x y = greatest_of (x.lo *ℤ y.lo) (x.lo *ℤ y.hi) (x.hi *ℤ y.lo) (x.hi *ℤ y.hi)

abbrev pub product : Itv → Itv → Answer
product x y = clipped numbers (least_product x y) (greatest_product x y)

-- a quotient by numbers of one sign is least and greatest at ends of the operands
abbrev pub quotient_hull : Itv → Itv → Itv
quotient_hull x y =
    let p = int_div x.lo y.lo in
    let q = int_div x.lo y.hi in
    let r = int_div x.hi y.lo in
    let s = int_div x.hi y.hi in
    interval (least_of p q r s) (greatest_of p q r s)

abbrev pub quotients : Itv → Itv → Itv
quotients x y = if is_empty y then y else quotient_hull x y

abbrev pub above_zero : Itv → Itv
above_zero y = meet y positives

abbrev pub below_zero : Itv → Itv
below_zero y = meet y negatives

abbrev pub quotient : Itv → Itv → Answer
quotient x y = record {
  value = join (quotients x (above_zero y)) (quotients x (below_zero y));
  holds = not (is_in y (pos 0));
}

-- all numbers of X have one quotient by e, rounded down
abbrev pub is_in_one_block : Itv → ℤ → Bool
is_in_one_block x e = int_eq (int_div_euclid x.lo e) (int_div_euclid x.hi e)

abbrev pub remainders_in_block : Itv → ℤ → Itv
remainders_in_block x e = interval (int_rem_euclid x.lo e) (int_rem_euclid x.hi e)

abbrev pub remainders_over_blocks : Itv → Itv → Itv
remainders_over_blocks x y =
    if int_lt x.lo (pos 0) then interval (pos 0) (y.hi -ℤ pos 1)
    else (if int_lt x.hi y.lo then x
    else interval (pos 0) (int_min (y.hi -ℤ pos 1) x.hi))

-- the remainders by the numbers of Y, which are all above 0
abbrev pub remainders : Itv → Itv → Itv
remainders x y =
    if is_empty y then y
    else (if int_eq y.lo y.hi && is_in_one_block x y.lo then remainders_in_block x y.lo
    else remainders_over_blocks x y)

abbrev pub remainder : Itv → Itv → Answer
remainder x y = record { value = remainders x (above_zero y); holds = int_le (pos 1) y.lo }

-- ---- truth

-- the numbers of the Booleans that are possible
abbrev pub truths : Bool → Bool → Itv
truths can_hold can_fail = interval (truth (not can_fail)) (truth can_hold)

abbrev pub can_be_equal : Itv → Itv → Bool
can_be_equal x y = not (is_empty (meet x y))

abbrev pub can_differ : Itv → Itv → Bool
can_differ x y = not (int_eq x.lo x.hi && int_eq y.lo y.hi && int_eq x.lo y.lo)

abbrev pub can_be_less : Itv → Itv → Bool
can_be_less x y = int_lt x.lo y.hi

abbrev pub can_be_at_most : Itv → Itv → Bool
can_be_at_most x y = int_le x.lo y.hi

-- ---- operators with two operands that aren't empty

abbrev pub binary_table : BinOp → Itv → Itv → Answer
binary_table Add x y = clipped numbers (x.lo +ℤ y.lo) (x.hi +ℤ y.hi)
binary_table Sub x y = clipped numbers (x.lo -ℤ y.hi) (x.hi -ℤ y.lo)
binary_table Mul x y = product x y
binary_table Div x y = quotient x y
binary_table Mod x y = remainder x y
binary_table And x y = always (interval (int_min x.lo y.lo) (int_min x.hi y.hi))
binary_table Or x y = always (interval (int_max x.lo y.lo) (int_max x.hi y.hi))
binary_table Eq x y = always (truths (can_be_equal x y) (can_differ x y))
binary_table Ne x y = always (truths (can_differ x y) (can_be_equal x y))
binary_table Lt x y = always (truths (can_be_less x y) (can_be_at_most y x))
binary_table Le x y = always (truths (can_be_at_most x y) (can_be_less y x))
binary_table Gt x y = always (truths (can_be_less y x) (can_be_at_most x y))
binary_table Ge x y = always (truths (can_be_at_most y x) (can_be_less x y))

-- without numbers of an operand there is neither a result nor an error
abbrev pub binary_answer : BinOp → Itv → Itv → Answer
binary_answer op x y = if is_empty x || is_empty y then always empty else binary_table op x y

-- ---- operators with one operand that isn't empty

abbrev pub opposite : Itv → Itv
opposite x = interval (neg_ℤ x.hi) (neg_ℤ x.lo)

abbrev pub negation : Itv → Itv
negation x = interval (pos 1 -ℤ x.hi) (pos 1 -ℤ x.lo)

abbrev pub magnitude : Itv → Itv
magnitude x =
    if int_le (pos 0) x.lo then x
    else (if int_le x.hi (pos 0) then opposite x
    else interval (pos 0) (int_max (neg_ℤ x.lo) x.hi))

-- the squares of numbers that aren't negative
abbrev pub square : Itv → Answer
square x = clipped numbers (x.lo *ℤ x.lo) (x.hi *ℤ x.hi)

abbrev pub is_odd : ℤ → Bool
is_odd z = unsigned_abs z % 2 == 1

abbrev pub parity : Itv → Itv
parity x = if not (int_eq x.lo x.hi) then booleans else interval (truth (is_odd x.lo)) (truth (is_odd x.lo))

abbrev pub unary_table : UnOp → Itv → Answer
unary_table Neg x = always (opposite x)
unary_table Not x = always (negation x)
unary_table Abs x = always (magnitude x)
unary_table Sqr x = square (magnitude x)
unary_table Odd x = always (parity x)
unary_table SuccInt x = clipped numbers (x.lo +ℤ pos 1) (x.hi +ℤ pos 1)
unary_table PredInt x = clipped numbers (x.lo -ℤ pos 1) (x.hi -ℤ pos 1)
unary_table SuccBool x = clipped booleans (x.lo +ℤ pos 1) (x.hi +ℤ pos 1)
unary_table PredBool x = clipped booleans (x.lo -ℤ pos 1) (x.hi -ℤ pos 1)
unary_table OrdOf x = always x

abbrev pub unary_answer : UnOp → Itv → Answer
unary_answer op x = if is_empty x then always empty else unary_table op x
