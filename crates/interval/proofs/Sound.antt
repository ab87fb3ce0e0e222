-- What the tables say of the operators at numbers.
use Rattle.std.proofs.Common.{◌≡◌, ◌≢◌, refl, sym, subst, inl, inr, Bool, true, false, not, IsTrue, IsOk, Result, Ok, Err, suc, ℤ, pos, negsuc, ◌≤ℤ◌, ◌+ℤ◌, ◌-ℤ◌, ◌*ℤ◌, int_lt, int_le, int_div, if◌then◌else◌, arith}
use Rattle.std.specs.Int.{int_min, int_max, int_rem_euclid}
use Rattle.std.specs.Ordering.{int_eq}
use Rattle.std.proofs.lemmas.Bool.{cond_both, cond-false, cases_Bool, and_parts, not_from_false, or_from, not-true, not-false}
use Rattle.std.proofs.lemmas.Int.{ints}
use Rattle.std.proofs.Math.Nat.{div-le_self}
use Rattle.px_base.specs.declared.kind.Kind.{Kind}
use Rattle.px_base.specs.declared.kind.Kind.TheVariants.{Overflow, DivisionByZero, ModulusNotPositive}
use Rattle.px_base.specs.declared.operator.BinOp.{BinOp}
use Rattle.px_base.specs.declared.operator.BinOp.TheVariants.{Add, Sub, Mul, Div, Mod, And, Or, Eq, Ne, Lt, Le, Gt, Ge}
use Rattle.arithmetic.specs.Numbers.{IsNumber, is_number, truth}
use Rattle.arithmetic.specs.Operators.{binary_result, checked}
use Rattle.interval.specs.declared.itv.Itv.{Itv}
use Rattle.interval.specs.declared.answer.Answer.{Answer}
use Rattle.interval.specs.Answers.{clipped, clipped_between}
use Rattle.interval.specs.Forward.{least_product, greatest_product, binary_table, binary_answer, quotients, quotient_hull, remainders, above_zero, below_zero, truths, can_be_equal, can_differ, can_be_less, can_be_at_most}
use Rattle.interval.specs.Intervals.{IsIn, is_in, is_empty, numbers, positives, negatives, meet, join}
use Rattle.interval.specs.IntervalLaws.{number_of, some_number, empty_has_none, meet_has, join_above_left, join_above_right, within_has, below_min, above_max}
use Rattle.interval.specs.Same.{interval_has}
use Rattle.interval.specs.Soundness.{HasBinaryResults, BinaryNeverFails}
use Rattle.interval.proofs.Between.{four_ends, product_between, product_between'}
use Rattle.interval.proofs.Quotients.{quotient_between, quotient_between_positive, quotient_between_negative}
use Rattle.interval.proofs.Signs.{above_zero-least, below_zero-greatest}
use Rattle.interval.proofs.Remainders.{remainders_has}

-- ---- results

pub chosen : (b : Bool) (z c : ℤ) (kind : Kind) → (if b then Ok z else Err kind) ≡ Ok c → (b ≡ true) × (z ≡ c)
chosen true z c kind e = (refl, cc)
chosen false z c kind e = cc

-- a checked result is the number that passed the test
pub checked_value : (fits : ℤ → Bool) (kind : Kind) (z c : ℤ) → checked fits kind z ≡ Ok c → (fits z ≡ true) × (z ≡ c)
checked_value fits kind z c e = chosen (fits z) z c kind e

pub checked_is_ok : (fits : ℤ → Bool) (kind : Kind) (z : ℤ) → fits z ≡ true → IsOk (checked fits kind z)
checked_is_ok fits kind z e = rw e refl

-- an operator whose error comes first
unchosen : (b : Bool) (z c : ℤ) (kind : Kind) → (if b then Err kind else Ok z) ≡ Ok c → (b ≡ false) × (z ≡ c)
unchosen true z c kind e = cc
unchosen false z c kind e = (refl, cc)

same_number : (a b : ℤ) → int_eq a b ≡ true → a ≡ b
same_number a b e = grind (arith, ints)

different : (a b : ℤ) → int_eq a b ≡ false → a ≢ b
different a b e same = grind (arith, ints)

pub value_of : (z c : ℤ) → ◌≡◌ {A = Result ℤ Kind} (Ok z) (Ok c) → z ≡ c
value_of z c e = cc

-- ---- the part of lo..hi in a range

pub clipped_has : (range : Itv) (lo hi z : ℤ) → IsIn range z → lo ≤ℤ z → z ≤ℤ hi → IsIn (clipped range lo hi).value z
unfolding clipped_between
clipped_has range lo hi z i a b = interval_has _ _ z (number_of range z i) (above_max _ _ z a i.0) (below_min _ _ z b i.1)

pub clipped_holds : (range : Itv) (lo hi z : ℤ) → IsTrue (clipped range lo hi).holds → lo ≤ℤ z → z ≤ℤ hi → IsIn range z
unfolding clipped_between
clipped_holds range lo hi z h a b =
    let tests : (int_le range.lo lo ≡ true) × (int_le hi range.hi ≡ true) = and_parts _ _ h in
    (omega (arith, ints, tests.0), omega (arith, ints, tests.1))

pub in_numbers : (z : ℤ) → is_number z ≡ true → IsIn numbers z
in_numbers z e = grind (arith, ints)

pub is_in_numbers : (z : ℤ) → IsIn numbers z → is_number z ≡ true
is_in_numbers z i = grind (arith, ints)

-- what a checked operator gives lies in the clipped value, and where the check holds it is no error
module _ (lo hi z : ℤ) (a : lo ≤ℤ z) (b : z ≤ℤ hi) where
  pub checked_has : (kind : Kind) (c : ℤ) → checked is_number kind z ≡ Ok c → IsIn (clipped numbers lo hi).value c
  checked_has kind c e =
      let value : (is_number z ≡ true) × (z ≡ c) = checked_value is_number kind z c e in
      subst (IsIn (clipped numbers lo hi).value) value.1 (clipped_has numbers lo hi z (in_numbers z value.0) a b)

  pub checked_holds : (kind : Kind) → IsTrue (clipped numbers lo hi).holds → IsOk (checked is_number kind z)
  checked_holds kind h = checked_is_ok is_number kind z (is_in_numbers z (clipped_holds numbers lo hi z h a b))

-- ---- products

module _ (x y : Itv) (a b : ℤ) (i : IsIn x a) (j : IsIn y b) where
  pub product_ends : (least_product x y ≤ℤ (a *ℤ b)) × ((a *ℤ b) ≤ℤ greatest_product x y)
  product_ends =
      four_ends _ _ _ _ (x.lo *ℤ b) (x.hi *ℤ b) (a *ℤ b) (product_between x.lo x.hi a b i.0 i.1)
      (product_between' y.lo y.hi x.lo b j.0 j.1) (product_between' y.lo y.hi x.hi b j.0 j.1)

-- ---- quotients

smaller_than_dividend : (a b : ℤ) → IsNumber a → IsNumber (int_div a b)
smaller_than_dividend (pos a) (pos b) n = (omega (arith, ints, div-le_self a b), omega (arith, ints, div-le_self a b))
smaller_than_dividend (pos a) (negsuc b) n = (omega (arith, ints, div-le_self a (suc b)), omega (arith, ints, div-le_self a (suc b)))
smaller_than_dividend (negsuc a) (pos b) n = (omega (arith, ints, div-le_self (suc a) b), omega (arith, ints, div-le_self (suc a) b))
smaller_than_dividend (negsuc a) (negsuc b) n =
    (omega (arith, ints, div-le_self (suc a) (suc b)), omega (arith, ints, div-le_self (suc a) (suc b)))

module _ (x y : Itv) (a b : ℤ) (i : IsIn x a) (j : IsIn y b) where
  hull_positive : pos 1 ≤ℤ y.lo → IsIn (quotient_hull x y) (int_div a b)
  hull_positive above =
      let nonzero : b ≢ pos 0 = λ e. omega (arith, ints) in
      let ends = four_ends _ _ _ _ (int_div x.lo b) (int_div x.hi b) (int_div a b) (quotient_between x.lo x.hi a b nonzero i.0 i.1)
      (quotient_between_positive y.lo y.hi x.lo b above j.0 j.1) (quotient_between_positive y.lo y.hi x.hi b above j.0 j.1) in
      interval_has _ _ _ (smaller_than_dividend a b (number_of x a i)) ends.0 ends.1

  hull_negative : y.hi ≤ℤ negsuc 0 → IsIn (quotient_hull x y) (int_div a b)
  hull_negative below =
      let nonzero : b ≢ pos 0 = λ e. omega (arith, ints) in
      let ends = four_ends _ _ _ _ (int_div x.lo b) (int_div x.hi b) (int_div a b) (quotient_between x.lo x.hi a b nonzero i.0 i.1)
      (quotient_between_negative y.lo y.hi x.lo b below j.0 j.1) (quotient_between_negative y.lo y.hi x.hi b below j.0 j.1) in
      interval_has _ _ _ (smaller_than_dividend a b (number_of x a i)) ends.0 ends.1

  quotients_has : IsIn (quotient_hull x y) (int_div a b) → IsIn (quotients x y) (int_div a b)
  quotients_has h = cond_both (is_empty y) _ _ (λ v. IsIn v (int_div a b)) (λ e. absurd (empty_has_none y b e j)) (λ _. h)

abbrev both_quotients : Itv → Itv → Itv
both_quotients x y = join (quotients x (above_zero y)) (quotients x (below_zero y))

module _ (x y : Itv) (a b : ℤ) (i : IsIn x a) (j : IsIn y b) where
  quotient_of_positive : pos 1 ≤ℤ b → IsIn (both_quotients x y) (int_div a b)
  quotient_of_positive above =
      let part : IsIn (above_zero y) b = meet_has y positives b j (above, (number_of y b j).1) in
      let least : pos 1 ≤ℤ (above_zero y).lo = above_zero-least y in
      within_has (quotients x (above_zero y)) (both_quotients x y) _ (join_above_left (quotients x (above_zero y)) (quotients x (below_zero y)))
      (quotients_has x (above_zero y) a b i part (hull_positive x (above_zero y) a b i part least))

  quotient_of_negative : b ≤ℤ negsuc 0 → IsIn (both_quotients x y) (int_div a b)
  quotient_of_negative below =
      let part : IsIn (below_zero y) b = meet_has y negatives b j ((number_of y b j).0, below) in
      let greatest : (below_zero y).hi ≤ℤ negsuc 0 = below_zero-greatest y (some_number (below_zero y) b part) in
      within_has (quotients x (below_zero y)) (both_quotients x y) _ (join_above_right (quotients x (above_zero y)) (quotients x (below_zero y)))
      (quotients_has x (below_zero y) a b i part (hull_negative x (below_zero y) a b i part greatest))

  quotient_has : (c : ℤ) → binary_result Div a b ≡ Ok c → IsIn (both_quotients x y) c
  quotient_has c e =
      let result : (int_eq b (pos 0) ≡ false) × (int_div a b ≡ c) = unchosen _ _ c DivisionByZero e in
      let nonzero : b ≢ pos 0 = different b (pos 0) result.0 in
      subst (IsIn (both_quotients x y)) result.1
      (elim (cases_Bool (int_lt b (pos 0))) [
        | inl below ↦ quotient_of_negative (omega (arith, ints))
        | inr above ↦ quotient_of_positive (omega (arith, ints))
      ])

remainders_of_positive : (x y : Itv) (a b : ℤ) → IsIn x a → IsIn y b → int_lt (pos 0) b ≡ true → IsIn (remainders x y) (int_rem_euclid a b)
remainders_of_positive x y a (pos b) i j e = remainders_has x y a b (omega (arith, ints)) i j
remainders_of_positive x y a (negsuc b) i j e = absurd (omega (arith, ints))

-- ---- truth

pub number_of_truth : (t : Bool) → IsNumber (truth t) × (pos 0 ≤ℤ truth t) × (truth t ≤ℤ pos 1)
number_of_truth false = grind (arith, ints)
number_of_truth true = grind (arith, ints)

truths_has : (can_hold can_fail t : Bool) → (t ≡ true → IsTrue can_hold) → (t ≡ false → IsTrue can_fail) → IsIn (truths can_hold can_fail) (truth t)
truths_has can_hold can_fail true h k =
    interval_has _ _ _ (number_of_truth true).0 (number_of_truth (not can_fail)).2 (rw (h refl) (grind (arith, ints)))
truths_has can_hold can_fail false h k =
    interval_has _ _ _ (number_of_truth false).0 (rw (k refl) (grind (arith, ints))) (number_of_truth can_hold).1

module _ (x y : Itv) (a b : ℤ) (i : IsIn x a) (j : IsIn y b) where
  lesser_has : IsIn (binary_table And x y).value (int_min a b)
  lesser_has = interval_has _ _ _ (grind (arith, ints)) (grind (arith, ints)) (grind (arith, ints))

  greater_has : IsIn (binary_table Or x y).value (int_max a b)
  greater_has = interval_has _ _ _ (grind (arith, ints)) (grind (arith, ints)) (grind (arith, ints))

  equal_can : int_eq a b ≡ true → IsTrue (can_be_equal x y)
  equal_can e = not_from_false _ (some_number (meet x y) a (meet_has x y a i (subst (IsIn y) (sym (same_number a b e)) j)))

  unequal_can : int_eq a b ≡ false → IsTrue (can_differ x y)
  unequal_can e = grind (arith, ints)

  less_can : int_lt a b ≡ true → IsTrue (can_be_less x y)
  less_can e = grind (arith, ints)

  not_less_can : int_lt a b ≡ false → IsTrue (can_be_at_most y x)
  not_less_can e = grind (arith, ints)

  at_most_can : int_le a b ≡ true → IsTrue (can_be_at_most x y)
  at_most_can e = grind (arith, ints)

  not_at_most_can : int_le a b ≡ false → IsTrue (can_be_less y x)
  not_at_most_can e = grind (arith, ints)

  sum_ends : ((x.lo +ℤ y.lo) ≤ℤ (a +ℤ b)) × ((a +ℤ b) ≤ℤ (x.hi +ℤ y.hi))
  sum_ends = (omega (arith, ints), omega (arith, ints))

  difference_ends : ((x.lo -ℤ y.hi) ≤ℤ (a -ℤ b)) × ((a -ℤ b) ≤ℤ (x.hi -ℤ y.lo))
  difference_ends = (omega (arith, ints), omega (arith, ints))

  remainder_has : (c : ℤ) → binary_result Mod a b ≡ Ok c → IsIn (binary_table Mod x y).value c
  remainder_has c e =
      let result : (int_lt (pos 0) b ≡ true) × (int_rem_euclid a b ≡ c) = chosen _ _ c ModulusNotPositive e in
      subst (IsIn (binary_table Mod x y).value) result.1
      (remainders_of_positive x (above_zero y) a b i (meet_has y positives b j (omega (arith, ints), (number_of y b j).1)) result.0)

-- ---- each operator

module _ (x y : Itv) (a b c : ℤ) (i : IsIn x a) (j : IsIn y b) where
  table_has : (op : BinOp) → binary_result op a b ≡ Ok c → IsIn (binary_table op x y).value c
  table_has Add e = checked_has _ _ _ (sum_ends x y a b i j).0 (sum_ends x y a b i j).1 Overflow c e
  table_has Sub e = checked_has _ _ _ (difference_ends x y a b i j).0 (difference_ends x y a b i j).1 Overflow c e
  table_has Mul e = checked_has _ _ _ (product_ends x y a b i j).0 (product_ends x y a b i j).1 Overflow c e
  table_has Div e = quotient_has x y a b i j c e
  table_has Mod e = remainder_has x y a b i j c e
  table_has And e = subst (IsIn (binary_table And x y).value) (value_of _ c e) (lesser_has x y a b i j)
  table_has Or e = subst (IsIn (binary_table Or x y).value) (value_of _ c e) (greater_has x y a b i j)
  table_has Eq e = subst (IsIn (binary_table Eq x y).value) (value_of _ c e) (truths_has _ _ _ (equal_can x y a b i j) (unequal_can x y a b i j))
  table_has Ne e = subst (IsIn (binary_table Ne x y).value) (value_of _ c e) (truths_has _ _ _ (λ t. unequal_can x y a b i j (not-true _ t)) (λ t. equal_can x y a b i j (not-false _ t)))
  table_has Lt e = subst (IsIn (binary_table Lt x y).value) (value_of _ c e) (truths_has _ _ _ (less_can x y a b i j) (not_less_can x y a b i j))
  table_has Le e = subst (IsIn (binary_table Le x y).value) (value_of _ c e) (truths_has _ _ _ (at_most_can x y a b i j) (not_at_most_can x y a b i j))
  table_has Gt e = subst (IsIn (binary_table Gt x y).value) (value_of _ c e) (truths_has _ _ _ (less_can y x b a j i) (not_less_can y x b a j i))
  table_has Ge e = subst (IsIn (binary_table Ge x y).value) (value_of _ c e) (truths_has _ _ _ (at_most_can y x b a j i) (not_at_most_can y x b a j i))

-- where both operands have a number, the answer is that of the table
at_table : (op : BinOp) (x y : Itv) (a b : ℤ) → IsIn x a → IsIn y b → binary_answer op x y ≡ binary_table op x y
at_table op x y a b i j = cond-false _ _ _ (or_from _ _ (some_number x a i) (some_number y b j))

pub binary_has : (op : BinOp) (x y : Itv) → HasBinaryResults op x y (binary_answer op x y).value
binary_has op x y a b c i j e =
    subst (λ (r : Answer). IsIn r.value c) (sym (at_table op x y a b i j)) (table_has x y a b c i j op e)

-- ---- where the check holds

nonzero_in : (y : Itv) (b : ℤ) → IsIn y b → IsTrue (not (is_in y (pos 0))) → int_eq b (pos 0) ≡ false
nonzero_in y b j h = grind (arith, ints)

positive_in : (y : Itv) (b : ℤ) → IsIn y b → IsTrue (int_le (pos 1) y.lo) → int_lt (pos 0) b ≡ true
positive_in y b j h = grind (arith, ints)

module _ (x y : Itv) (a b : ℤ) (i : IsIn x a) (j : IsIn y b) where
  table_holds : (op : BinOp) → IsTrue (binary_table op x y).holds → IsOk (binary_result op a b)
  table_holds Add h = checked_holds _ _ _ (sum_ends x y a b i j).0 (sum_ends x y a b i j).1 Overflow h
  table_holds Sub h = checked_holds _ _ _ (difference_ends x y a b i j).0 (difference_ends x y a b i j).1 Overflow h
  table_holds Mul h = checked_holds _ _ _ (product_ends x y a b i j).0 (product_ends x y a b i j).1 Overflow h
  table_holds Div h = rw (nonzero_in y b j h) refl
  table_holds Mod h = rw (positive_in y b j h) refl
  table_holds And h = refl
  table_holds Or h = refl
  table_holds Eq h = refl
  table_holds Ne h = refl
  table_holds Lt h = refl
  table_holds Le h = refl
  table_holds Gt h = refl
  table_holds Ge h = refl

pub binary_holds : (op : BinOp) (x y : Itv) → IsTrue (binary_answer op x y).holds → BinaryNeverFails op x y
binary_holds op x y h a b i j =
    table_holds x y a b i j op
    (subst (λ (r : Answer). IsTrue r.holds) (at_table op x y a b i j) h)
