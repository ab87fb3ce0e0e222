-- What the operands X and Y of an operator can still be where its result is wanted in an interval (after Bourdoncle, PLDI
-- 1993). W is the part of the wanted interval among the results, and is not empty.
use Rattle.std.specs.Prelude.{Bool, not, ◌&&◌, if◌then◌else◌, ℤ, pos, neg_ℤ, ◌+ℤ◌, ◌-ℤ◌, int_lt, int_le, unsigned_abs}
use Rattle.std.specs.Int.{int_min, int_max}
use Rattle.std.specs.Ordering.{int_eq}
use Rattle.px_base.specs.declared.operator.BinOp.{BinOp}
use Rattle.px_base.specs.declared.operator.BinOp.TheVariants.{Add, Sub, Mul, Div, Mod, And, Or, Eq, Ne, Lt, Le, Gt, Ge}
use Rattle.px_base.specs.declared.operator.UnOp.{UnOp}
use Rattle.px_base.specs.declared.operator.UnOp.TheVariants.{Neg, Not, Abs, Sqr, Odd, SuccInt, PredInt, SuccBool, PredBool, OrdOf}
use Rattle.arithmetic.specs.Numbers.{maxint, truth}
use Rattle.interval.specs.declared.itv.Itv.{Itv}
use Rattle.interval.specs.Forward.{binary_answer, unary_answer, least_product, greatest_product, is_odd}
use Rattle.interval.specs.Intervals.{is_in, is_empty, interval, empty, meet, join}
use Rattle.interval_back.specs.declared.relation.Relation.{Relation}
use Rattle.interval_back.specs.declared.relation.Relation.TheVariants.{Equal, Different, Less, AtMost, Greater, AtLeast}
use Rattle.interval_back.specs.Roots.{root_below, root_above}

-- the numbers of X from lo to hi
unfoldable pub within : ℤ → ℤ → Itv → Itv
within lo hi x = interval (int_max lo x.lo) (int_min hi x.hi)

-- ---- sums, differences, products, quotients and remainders

-- the numbers of X that have a sum in W with a number of Y
abbrev pub addends : Itv → Itv → Itv → Itv
addends w x y = within (w.lo -ℤ y.hi) (w.hi -ℤ y.lo) x

-- the numbers of X from which a number of Y can be taken to give one of W
abbrev pub minuends : Itv → Itv → Itv → Itv
minuends w x y = within (w.lo +ℤ y.lo) (w.hi +ℤ y.hi) x

-- the numbers of Y that can be taken from a number of X to give one of W
abbrev pub subtrahends : Itv → Itv → Itv → Itv
subtrahends w x y = within (x.lo -ℤ w.hi) (x.hi -ℤ w.lo) y

-- the factors in X, which are quotients by the other factor, in Y, unless 0 times anything is wanted
abbrev pub factors : Itv → Itv → Itv → Itv
factors w x y =
    if is_in y (pos 0) && is_in w (pos 0) then x
    else meet (binary_answer Div w y).value x

-- the most by which a dividend can be away from the product of divisor and quotient
abbrev pub slack : Itv → ℤ
slack y = int_max (pos (unsigned_abs y.lo)) (pos (unsigned_abs y.hi)) -ℤ pos 1

abbrev pub dividends : Itv → Itv → Itv → Itv
dividends w x y = within (least_product w y -ℤ slack y) (greatest_product w y +ℤ slack y) x

-- Y without 0 at an end
abbrev pub divisors : Itv → Itv
divisors y =
    if int_eq y.lo (pos 0) then interval (pos 1) y.hi
    else (if int_eq y.hi (pos 0) then interval y.lo (neg_ℤ (pos 1))
    else y)

-- where X lies from 0 and below each modulus, a remainder is the number itself
abbrev pub is_reduced : Itv → Itv → Bool
is_reduced x y = int_le (pos 0) x.lo && int_lt x.hi (int_max y.lo (pos 1))

abbrev pub reduced : Itv → Itv → Itv → Itv
reduced w x y = if is_reduced x y then meet w x else x

-- the moduli are above the remainders
abbrev pub moduli : Itv → Itv → Itv
moduli w y = within (int_max (w.lo +ℤ pos 1) (pos 1)) maxint y

-- ---- truth

-- the numbers of X that are with some number of Y the lesser of two in W
abbrev pub conjuncts : Itv → Itv → Itv → Itv
conjuncts w x y = if int_le y.lo w.hi then within w.lo maxint x else meet w x

-- the numbers of X that are with some number of Y the greater of two in W
abbrev pub disjuncts : Itv → Itv → Itv → Itv
disjuncts w x y = if int_le w.lo y.hi then within (neg_ℤ maxint) w.hi x else meet w x

-- X without its least number, its greatest one, both or none
unfoldable pub trimmed : Bool → Bool → Itv → Itv
trimmed low high x = interval (if low then x.lo +ℤ pos 1 else x.lo) (if high then x.hi -ℤ pos 1 else x.hi)

-- X without the number n where that is an end
abbrev pub without : Itv → ℤ → Itv
without x n = trimmed (int_eq x.lo n) (int_eq x.hi n) x

-- the numbers of X that are in a relation with some number of Y
abbrev pub related : Relation → Itv → Itv → Itv
related Equal x y = meet x y
related Different x y = if int_eq y.lo y.hi then without x y.lo else x
related Less x y = within (neg_ℤ maxint) (y.hi -ℤ pos 1) x
related AtMost x y = within (neg_ℤ maxint) y.hi x
related Greater x y = within (y.lo +ℤ pos 1) maxint x
related AtLeast x y = within y.lo maxint x

abbrev pub opposite : Relation → Relation
opposite Equal = Different
opposite Different = Equal
opposite Less = AtLeast
opposite AtMost = Greater
opposite Greater = AtMost
opposite AtLeast = Less

-- the numbers of X whose relation with some number of Y has its truth in W
abbrev pub decided : Relation → Itv → Itv → Itv → Itv
decided relation w x y =
    if int_le w.hi (pos 0) then related (opposite relation) x y
    else (if int_le (pos 1) w.lo then related relation x y
    else x)

-- ---- operators with two operands

abbrev pub left_operand : BinOp → Itv → Itv → Itv → Itv
left_operand Add w x y = addends w x y
left_operand Sub w x y = minuends w x y
left_operand Mul w x y = factors w x y
left_operand Div w x y = dividends w x y
left_operand Mod w x y = reduced w x y
left_operand And w x y = conjuncts w x y
left_operand Or w x y = disjuncts w x y
left_operand Eq w x y = decided Equal w x y
left_operand Ne w x y = decided Different w x y
left_operand Lt w x y = decided Less w x y
left_operand Le w x y = decided AtMost w x y
left_operand Gt w x y = decided Greater w x y
left_operand Ge w x y = decided AtLeast w x y

abbrev pub right_operand : BinOp → Itv → Itv → Itv → Itv
right_operand Add w x y = addends w y x
right_operand Sub w x y = subtrahends w x y
right_operand Mul w x y = factors w y x
right_operand Div w x y = divisors y
right_operand Mod w x y = moduli w y
right_operand And w x y = conjuncts w y x
right_operand Or w x y = disjuncts w y x
right_operand Eq w x y = decided Equal w y x
right_operand Ne w x y = decided Different w y x
right_operand Lt w x y = decided Greater w y x
right_operand Le w x y = decided AtLeast w y x
right_operand Gt w x y = decided Less w y x
right_operand Ge w x y = decided AtMost w y x

-- the wanted results that are possible
abbrev pub wanted_of_two : BinOp → Itv → Itv → Itv → Itv
wanted_of_two op wanted x y = meet wanted (binary_answer op x y).value

abbrev pub unless_empty : Itv → Itv → Itv
unless_empty w operand = if is_empty w then empty else operand

unfoldable pub left_back : BinOp → Itv → Itv → Itv → Itv
left_back op wanted x y =
    unless_empty (wanted_of_two op wanted x y) (left_operand op (wanted_of_two op wanted x y) x y)

unfoldable pub right_back : BinOp → Itv → Itv → Itv → Itv
right_back op wanted x y =
    unless_empty (wanted_of_two op wanted x y) (right_operand op (wanted_of_two op wanted x y) x y)

-- ---- operators with one operand

-- the numbers of X from lo to hi, and those whose opposite is one from lo to hi
abbrev pub of_either_sign : ℤ → ℤ → Itv → Itv
of_either_sign lo hi x = join (within lo hi x) (within (neg_ℤ hi) (neg_ℤ lo) x)

-- X without ends of the other parity, where W has one truth
abbrev pub of_parity : Itv → Itv → Itv
of_parity w x =
    if int_eq w.lo w.hi
    then trimmed (not (int_eq (truth (is_odd x.lo)) w.lo)) (not (int_eq (truth (is_odd x.hi)) w.lo)) x
    else x

abbrev pub operand : UnOp → Itv → Itv → Itv
operand Neg w x = within (neg_ℤ w.hi) (neg_ℤ w.lo) x
operand Not w x = within (pos 1 -ℤ w.hi) (pos 1 -ℤ w.lo) x
operand Abs w x = of_either_sign w.lo w.hi x
operand Sqr w x = of_either_sign (root_above w.lo) (root_below w.hi) x
operand Odd w x = of_parity w x
operand SuccInt w x = within (w.lo -ℤ pos 1) (w.hi -ℤ pos 1) x
operand PredInt w x = within (w.lo +ℤ pos 1) (w.hi +ℤ pos 1) x
operand SuccBool w x = within (w.lo -ℤ pos 1) (w.hi -ℤ pos 1) x
operand PredBool w x = within (w.lo +ℤ pos 1) (w.hi +ℤ pos 1) x
operand OrdOf w x = meet w x

abbrev pub wanted_of_one : UnOp → Itv → Itv → Itv
wanted_of_one op wanted x = meet wanted (unary_answer op x).value

unfoldable pub operand_back : UnOp → Itv → Itv → Itv
operand_back op wanted x = unless_empty (wanted_of_one op wanted x) (operand op (wanted_of_one op wanted x) x)
