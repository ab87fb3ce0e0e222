-- What the tables of operators with one operand say of the operators at numbers.
use Rattle.std.proofs.Common.{◌≡◌, refl, sym, subst, true, not, IsTrue, IsOk, Ok, ◌≤◌, ℤ, pos, negsuc, neg_ℤ, ◌≤ℤ◌, ◌+ℤ◌, ◌-ℤ◌, ◌*ℤ◌, int_le, unsigned_abs, arith}
use Rattle.std.specs.Int.{int_max}
use Rattle.std.specs.Ordering.{int_eq}
use Rattle.std.proofs.lemmas.Bool.{cond_both, cond-false}
use Rattle.std.proofs.lemmas.Int.{ints}
use Rattle.std.proofs.Math.Nat.{mul-le-mul_left}
use lib.Signed.{≤ℤ_refl}
use Rattle.px_base.specs.declared.kind.Kind.{Kind}
use Rattle.px_base.specs.declared.kind.Kind.TheVariants.{Overflow, NoNeighbour, NoResult}
use Rattle.px_base.specs.declared.operator.UnOp.{UnOp}
use Rattle.px_base.specs.declared.operator.UnOp.TheVariants.{Neg, Not, Abs, Sqr, Odd, SuccInt, PredInt, SuccBool, PredBool, OrdOf}
use Rattle.arithmetic.specs.Numbers.{is_boolean, truth}
use Rattle.arithmetic.specs.Operators.{unary_result, checked}
use Rattle.interval.specs.declared.itv.Itv.{Itv}
use Rattle.interval.specs.declared.answer.Answer.{Answer}
use Rattle.interval.specs.Answers.{clipped}
use Rattle.interval.specs.Forward.{unary_table, unary_answer, magnitude, opposite, negation, parity, is_odd}
use Rattle.interval.specs.Intervals.{IsIn, interval, interval-lo, booleans}
use Rattle.interval.specs.IntervalLaws.{some_number}
use Rattle.interval.specs.Same.{interval_has}
use Rattle.interval.specs.Soundness.{HasUnaryResults, UnaryNeverFails, IsOperand}
use Rattle.interval.proofs.Sound.{chosen, checked_value, checked_is_ok, value_of, clipped_has, clipped_holds, checked_has, checked_holds, number_of_truth}

in_booleans : (z : ℤ) → is_boolean z ≡ true → IsIn booleans z
in_booleans z e = grind (arith, ints)

is_in_booleans : (z : ℤ) → IsIn booleans z → is_boolean z ≡ true
is_in_booleans z i = grind (arith, ints)

-- what a neighbour's check gives in the host of Booleans
module _ (lo hi z : ℤ) (a : lo ≤ℤ z) (b : z ≤ℤ hi) where
  boolean_has : (kind : Kind) (c : ℤ) → checked is_boolean kind z ≡ Ok c → IsIn (clipped booleans lo hi).value c
  boolean_has kind c e =
      let value : (is_boolean z ≡ true) × (z ≡ c) = checked_value is_boolean kind z c e in
      subst (IsIn (clipped booleans lo hi).value) value.1 (clipped_has booleans lo hi z (in_booleans z value.0) a b)

  boolean_holds : (kind : Kind) → IsTrue (clipped booleans lo hi).holds → IsOk (checked is_boolean kind z)
  boolean_holds kind h = checked_is_ok is_boolean kind z (is_in_booleans z (clipped_holds booleans lo hi z h a b))

module _ (x : Itv) (a : ℤ) (i : IsIn x a) where
  opposite_has : IsIn (opposite x) (neg_ℤ a)
  opposite_has = interval_has _ _ _ (omega (arith, ints), omega (arith, ints)) (omega (arith, ints)) (omega (arith, ints))

  negation_has : IsTrue (is_boolean a) → IsIn (negation x) (pos 1 -ℤ a)
  negation_has e = interval_has _ _ _ (grind (arith, ints)) (omega (arith, ints)) (omega (arith, ints))

  magnitude_has : IsIn (magnitude x) (pos (unsigned_abs a))
  magnitude_has =
      cond_both (int_le (pos 0) x.lo) _ _ (λ v. IsIn v (pos (unsigned_abs a)))
      (λ e. (omega (arith, ints), omega (arith, ints)))
      (λ e. cond_both (int_le x.hi (pos 0)) _ _ (λ v. IsIn v (pos (unsigned_abs a)))
      (λ f. interval_has _ _ _ (omega (arith, ints), omega (arith, ints)) (omega (arith, ints)) (omega (arith, ints)))
      (λ f. interval_has _ _ _ (omega (arith, ints), omega (arith, ints)) (omega (arith, ints)) (grind (arith, ints))))

  parity_has : IsIn (parity x) (truth (is_odd a))
  parity_has =
      cond_both (not (int_eq x.lo x.hi)) _ _ (λ v. IsIn v (truth (is_odd a)))
      (λ e. ((number_of_truth (is_odd a)).1, (number_of_truth (is_odd a)).2))
      (λ e. let same : x.lo ≡ a = grind (arith, ints) in
      subst (λ z. IsIn (interval (truth (is_odd z)) (truth (is_odd z))) (truth (is_odd a))) (sym same)
      (interval_has _ _ _ (number_of_truth (is_odd a)).0 (≤ℤ_refl _) (≤ℤ_refl _)))

-- the square of a number is that of its absolute value
square_of_magnitude : (a : ℤ) → a *ℤ a ≡ pos (unsigned_abs a) *ℤ pos (unsigned_abs a)
square_of_magnitude (pos a) = refl
square_of_magnitude (negsuc a) = refl

square_up : (p a : ℤ) → pos 0 ≤ℤ p → p ≤ℤ a → (p *ℤ p) ≤ℤ (a *ℤ a)
square_up (pos p) (pos a) h k =
    let below : p ≤ a = omega (arith, ints) in
    omega (arith, ints, mul-le-mul_left p below, mul-le-mul_left a below)
square_up (pos p) (negsuc a) h k = absurd (omega (arith, ints))
square_up (negsuc p) a h k = absurd (omega (arith, ints))

magnitude_not_negative : (x : Itv) → pos 0 ≤ℤ (magnitude x).lo
magnitude_not_negative x =
    let P : Itv → Type 0 = λ v. pos 0 ≤ℤ v.lo in
    cond_both (int_le (pos 0) x.lo) _ _ P (λ e. omega (arith, ints))
    (λ e. cond_both (int_le x.hi (pos 0)) _ _ P
    (λ f. grind (arith, ints, interval-lo (neg_ℤ x.hi) (neg_ℤ x.lo)))
    (λ f. grind (arith, ints, interval-lo (pos 0) (int_max (neg_ℤ x.lo) x.hi))))

-- ---- each operator

module _ (x : Itv) (a : ℤ) (i : IsIn x a) where
  square_ends : (((magnitude x).lo *ℤ (magnitude x).lo) ≤ℤ (a *ℤ a)) × ((a *ℤ a) ≤ℤ ((magnitude x).hi *ℤ (magnitude x).hi))
  square_ends =
      let m = magnitude x in
      let size = magnitude_has x a i in
      rw (square_of_magnitude a)
      (square_up m.lo (pos (unsigned_abs a)) (magnitude_not_negative x) size.0, square_up (pos (unsigned_abs a)) m.hi (omega (arith, ints)) size.1)

  successor_ends : ((x.lo +ℤ pos 1) ≤ℤ (a +ℤ pos 1)) × ((a +ℤ pos 1) ≤ℤ (x.hi +ℤ pos 1))
  successor_ends = (omega (arith, ints), omega (arith, ints))

  predecessor_ends : ((x.lo -ℤ pos 1) ≤ℤ (a -ℤ pos 1)) × ((a -ℤ pos 1) ≤ℤ (x.hi -ℤ pos 1))
  predecessor_ends = (omega (arith, ints), omega (arith, ints))

  table_has : (op : UnOp) (c : ℤ) → unary_result op a ≡ Ok c → IsIn (unary_table op x).value c
  table_has Neg c e = subst (IsIn (opposite x)) (value_of _ c e) (opposite_has x a i)
  table_has Not c e =
      let result : (is_boolean a ≡ true) × ((pos 1 -ℤ a) ≡ c) = chosen _ _ c NoResult e in
      subst (IsIn (negation x)) result.1 (negation_has x a i result.0)
  table_has Abs c e = subst (IsIn (magnitude x)) (value_of _ c e) (magnitude_has x a i)
  table_has Sqr c e = checked_has _ _ _ square_ends.0 square_ends.1 Overflow c e
  table_has Odd c e = subst (IsIn (parity x)) (value_of _ c e) (parity_has x a i)
  table_has SuccInt c e = checked_has _ _ _ successor_ends.0 successor_ends.1 NoNeighbour c e
  table_has PredInt c e = checked_has _ _ _ predecessor_ends.0 predecessor_ends.1 NoNeighbour c e
  table_has SuccBool c e = boolean_has _ _ _ successor_ends.0 successor_ends.1 NoNeighbour c e
  table_has PredBool c e = boolean_has _ _ _ predecessor_ends.0 predecessor_ends.1 NoNeighbour c e
  table_has OrdOf c e = subst (IsIn x) (value_of _ c e) i

  table_holds : (op : UnOp) → IsTrue (unary_table op x).holds → IsOperand op a → IsOk (unary_result op a)
  table_holds Neg h o = refl
  table_holds Not h o = rw o refl
  table_holds Abs h o = refl
  table_holds Sqr h o = checked_holds _ _ _ square_ends.0 square_ends.1 Overflow h
  table_holds Odd h o = refl
  table_holds SuccInt h o = checked_holds _ _ _ successor_ends.0 successor_ends.1 NoNeighbour h
  table_holds PredInt h o = checked_holds _ _ _ predecessor_ends.0 predecessor_ends.1 NoNeighbour h
  table_holds SuccBool h o = boolean_holds _ _ _ successor_ends.0 successor_ends.1 NoNeighbour h
  table_holds PredBool h o = boolean_holds _ _ _ predecessor_ends.0 predecessor_ends.1 NoNeighbour h
  table_holds OrdOf h o = refl

-- where an operand has a number, the answer is that of the table
at_table : (op : UnOp) (x : Itv) (a : ℤ) → IsIn x a → unary_answer op x ≡ unary_table op x
at_table op x a i = cond-false _ _ _ (some_number x a i)

pub unary_has : (op : UnOp) (x : Itv) → HasUnaryResults op x (unary_answer op x).value
unary_has op x a c i e = subst (λ (r : Answer). IsIn r.value c) (sym (at_table op x a i)) (table_has x a i op c e)

pub unary_holds : (op : UnOp) (x : Itv) → IsTrue (unary_answer op x).holds → UnaryNeverFails op x
unary_holds op x h a i o = table_holds x a i op (subst (λ (r : Answer). IsTrue r.holds) (at_table op x a i) h) o
