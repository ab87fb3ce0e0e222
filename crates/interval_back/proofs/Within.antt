-- What is left of an operand lies within it.
use Rattle.std.proofs.Common.{◌≡◌, Bool, true, IsTrue, ℤ, pos, neg_ℤ, ◌≤ℤ◌, ◌+ℤ◌, ◌-ℤ◌, ◌&&◌, int_le, if◌then◌else◌, arith}
use Rattle.std.specs.Ordering.{int_eq}
use Rattle.std.proofs.lemmas.Bool.{cond_both}
use Rattle.std.proofs.lemmas.Int.{ints}
use Rattle.px_base.specs.declared.operator.BinOp.{BinOp}
use Rattle.px_base.specs.declared.operator.BinOp.TheVariants.{Add, Sub, Mul, Div, Mod, And, Or, Eq, Ne, Lt, Le, Gt, Ge}
use Rattle.px_base.specs.declared.operator.UnOp.{UnOp}
use Rattle.px_base.specs.declared.operator.UnOp.TheVariants.{Neg, Not, Abs, Sqr, Odd, SuccInt, PredInt, SuccBool, PredBool, OrdOf}
use Rattle.interval.specs.declared.itv.Itv.{Itv}
use Rattle.interval.specs.Forward.{binary_answer}
use Rattle.interval.specs.Intervals.{is_in, is_empty, is_within, meet, join}
use Rattle.interval.specs.IntervalLaws.{within_itself, interval_within, meet_below_left, meet_below_right, max_right, min_right, within_bounds, below_min, above_max}
use Rattle.interval_back.specs.declared.relation.Relation.{Relation}
use Rattle.interval_back.specs.declared.relation.Relation.TheVariants.{Equal, Different, Less, AtMost, Greater, AtLeast}
use Rattle.interval_back.specs.Backward.{within, trimmed, factors, divisors, is_reduced, conjuncts, disjuncts, related, opposite, decided, left_operand, right_operand, of_either_sign, operand}

abbrev IsPart : Itv → Itv → Type 0
IsPart x v = IsTrue (is_within v x)

part_within : (lo hi : ℤ) (x : Itv) → IsPart x (within lo hi x)
unfolding within
part_within lo hi x = interval_within _ _ x (max_right lo x.lo) (min_right hi x.hi)

low_end : (low : Bool) (x : Itv) → x.lo ≤ℤ (if low then x.lo +ℤ pos 1 else x.lo)
low_end low x = grind (arith, ints)

high_end : (high : Bool) (x : Itv) → (if high then x.hi -ℤ pos 1 else x.hi) ≤ℤ x.hi
high_end high x = grind (arith, ints)

part_trimmed : (low high : Bool) (x : Itv) → IsPart x (trimmed low high x)
unfolding trimmed
part_trimmed low high x = interval_within _ _ x (low_end low x) (high_end high x)

part_met : (w x : Itv) → IsPart x (meet w x)
part_met w x = meet_below_right w x

part_joined : (u v x : Itv) → IsPart x u → IsPart x v → IsPart x (join u v)
part_joined u v x h k =
    cond_both (is_empty u) _ _ (IsPart x) (λ _. k) (λ d. cond_both (is_empty v) _ _ (IsPart x) (λ _. h)
    (λ e. let left : (x.lo ≤ℤ u.lo) × (u.hi ≤ℤ x.hi) = within_bounds u x d h in
    let right : (x.lo ≤ℤ v.lo) × (v.hi ≤ℤ x.hi) = within_bounds v x e k in
    interval_within _ _ x (below_min _ _ _ left.0 right.0) (above_max _ _ _ left.1 right.1)))

either : (b : Bool) (u v x : Itv) → IsPart x u → IsPart x v → IsPart x (if b then u else v)
either b u v x h k = cond_both b u v (IsPart x) (λ _. h) (λ _. k)

number_at : (a b : ℤ) → int_eq a b ≡ true → a ≡ b
number_at a b e = grind (arith, ints)

part_divisors : (y : Itv) → IsPart y (divisors y)
part_divisors y =
    cond_both (int_eq y.lo (pos 0)) _ _ (IsPart y)
    (λ e. let zero : y.lo ≡ pos 0 = number_at _ _ e in interval_within _ _ y (omega (arith, ints)) (omega (arith, ints)))
    (λ _. cond_both (int_eq y.hi (pos 0)) _ _ (IsPart y)
    (λ e. let zero : y.hi ≡ pos 0 = number_at _ _ e in interval_within _ _ y (omega (arith, ints)) (omega (arith, ints)))
    (λ _. within_itself y))

part_related : (r : Relation) (x y : Itv) → IsPart x (related r x y)
part_related Equal x y = meet_below_left x y
part_related Different x y = either (int_eq y.lo y.hi) _ _ x (part_trimmed _ _ x) (within_itself x)
part_related Less x y = part_within _ _ x
part_related AtMost x y = part_within _ _ x
part_related Greater x y = part_within _ _ x
part_related AtLeast x y = part_within _ _ x

part_decided : (r : Relation) (w x y : Itv) → IsPart x (decided r w x y)
part_decided r w x y =
    either (int_le w.hi (pos 0)) _ _ x (part_related (opposite r) x y)
    (either (int_le (pos 1) w.lo) _ _ x (part_related r x y) (within_itself x))

part_factors : (w x y : Itv) → IsPart x (factors w x y)
part_factors w x y =
    cond_both (is_in y (pos 0) && is_in w (pos 0)) _ _ (IsPart x) (λ _. within_itself x) (λ _. part_met (binary_answer Div w y).value x)

part_conjuncts : (w x y : Itv) → IsPart x (conjuncts w x y)
part_conjuncts w x y = either (int_le y.lo w.hi) _ _ x (part_within _ _ x) (part_met w x)

part_disjuncts : (w x y : Itv) → IsPart x (disjuncts w x y)
part_disjuncts w x y = either (int_le w.lo y.hi) _ _ x (part_within _ _ x) (part_met w x)

pub left_within : (op : BinOp) (w x y : Itv) → IsTrue (is_within (left_operand op w x y) x)
left_within Add w x y = part_within _ _ x
left_within Sub w x y = part_within _ _ x
left_within Mul w x y = part_factors w x y
left_within Div w x y = part_within _ _ x
left_within Mod w x y = either (is_reduced x y) _ _ x (part_met w x) (within_itself x)
left_within And w x y = part_conjuncts w x y
left_within Or w x y = part_disjuncts w x y
left_within Eq w x y = part_decided Equal w x y
left_within Ne w x y = part_decided Different w x y
left_within Lt w x y = part_decided Less w x y
left_within Le w x y = part_decided AtMost w x y
left_within Gt w x y = part_decided Greater w x y
left_within Ge w x y = part_decided AtLeast w x y

pub right_within : (op : BinOp) (w x y : Itv) → IsTrue (is_within (right_operand op w x y) y)
right_within Add w x y = part_within _ _ y
right_within Sub w x y = part_within _ _ y
right_within Mul w x y = part_factors w y x
right_within Div w x y = part_divisors y
right_within Mod w x y = part_within _ _ y
right_within And w x y = part_conjuncts w y x
right_within Or w x y = part_disjuncts w y x
right_within Eq w x y = part_decided Equal w y x
right_within Ne w x y = part_decided Different w y x
right_within Lt w x y = part_decided Greater w y x
right_within Le w x y = part_decided AtLeast w y x
right_within Gt w x y = part_decided Less w y x
right_within Ge w x y = part_decided AtMost w y x

part_of_either_sign : (lo hi : ℤ) (x : Itv) → IsPart x (of_either_sign lo hi x)
part_of_either_sign lo hi x =
    part_joined (within lo hi x) (within (neg_ℤ hi) (neg_ℤ lo) x) x (part_within _ _ x) (part_within _ _ x)

pub operand_within : (op : UnOp) (w x : Itv) → IsTrue (is_within (operand op w x) x)
operand_within Neg w x = part_within _ _ x
operand_within Not w x = part_within _ _ x
operand_within Abs w x = part_of_either_sign _ _ x
operand_within Sqr w x = part_of_either_sign _ _ x
operand_within Odd w x = either (int_eq w.lo w.hi) _ _ x (part_trimmed _ _ x) (within_itself x)
operand_within SuccInt w x = part_within _ _ x
operand_within PredInt w x = part_within _ _ x
operand_within SuccBool w x = part_within _ _ x
operand_within PredBool w x = part_within _ _ x
operand_within OrdOf w x = part_met w x
