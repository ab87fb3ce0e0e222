-- Remainders by a positive number.
use Rattle.std.proofs.Common.{◌≡◌, sym, ap, true, ◌&&◌, ℕ, ◌*◌, ◌+◌, ◌/◌, ◌<◌, ◌≤◌, ℤ, pos, negsuc, ◌≤ℤ◌, ◌<ℤ◌, ◌-ℤ◌, IsTrue, int_lt, subst, arith}
use Rattle.std.specs.Int.{int_div_euclid, int_rem_euclid}
use Rattle.std.specs.Ordering.{int_eq}
use Rattle.std.proofs.lemmas.Bool.{cond_both, and_parts}
use Rattle.std.proofs.lemmas.Int.{ints}
use Rattle.std.proofs.lemmas.Nat.{le-div}
use Rattle.std.proofs.Math.Nat.{div-mul-le_self, mod-le, mod-eq_of_lt}
use Rattle.arithmetic.specs.Numbers.{IsNumber}
use Rattle.interval.specs.declared.itv.Itv.{Itv}
use Rattle.interval.specs.Intervals.{IsIn, is_empty}
use Rattle.interval.specs.Forward.{remainders, remainders_in_block, remainders_over_blocks, is_in_one_block}
use Rattle.interval.specs.IntervalLaws.{number_of, below_min, empty_has_none}
use Rattle.interval.specs.Same.{interval_has}
use borrow.Author.Differences.{up, down}

div_up : (m n k : ℕ) → 0 < k → m ≤ n → m / k ≤ n / k
div_up m n k some h = le-div (m / k) n k some (omega (arith, div-mul-le_self m k))

-- a is its quotient times k plus its remainder
parts : (a : ℤ) (k : ℕ) → 0 < k
    → (up (int_rem_euclid a (pos k)) + up (int_div_euclid a (pos k)) * k + down a ≡ down (int_div_euclid a (pos k)) * k + up a)
    × (down (int_rem_euclid a (pos k)) ≡ 0) × (up (int_rem_euclid a (pos k)) < k)
parts (pos a) k some = omega arith
parts (negsuc a) k some = omega arith

quotient_up : (p a : ℤ) (k : ℕ) → 0 < k → p ≤ℤ a → int_div_euclid p (pos k) ≤ℤ int_div_euclid a (pos k)
quotient_up (pos p) (pos a) k some h = omega (arith, ints, div_up p a k some (omega (arith, ints)))
quotient_up (negsuc p) (pos a) k some h = omega (arith, ints)
quotient_up (pos p) (negsuc a) k some h = absurd (omega (arith, ints))
quotient_up (negsuc p) (negsuc a) k some h = omega (arith, ints, div_up a p k some (omega (arith, ints)))

pub remainder_range : (a : ℤ) (k : ℕ) → 0 < k → (pos 0 ≤ℤ int_rem_euclid a (pos k)) × (int_rem_euclid a (pos k) ≤ℤ (pos k -ℤ pos 1))
remainder_range a k some = (omega (arith, ints, parts a k some), omega (arith, ints, parts a k some))

small_remainder : (a : ℤ) (k : ℕ) → pos 0 ≤ℤ a → a <ℤ pos k → int_rem_euclid a (pos k) ≡ a
small_remainder (pos a) k h below = ap pos (mod-eq_of_lt (omega (arith, ints)))
small_remainder (negsuc a) k h below = absurd (omega (arith, ints))

remainder_at_most : (a : ℤ) (k : ℕ) → pos 0 ≤ℤ a → int_rem_euclid a (pos k) ≤ℤ a
remainder_at_most (pos a) k h = omega (arith, ints, mod-le a k)
remainder_at_most (negsuc a) k h = absurd (omega (arith, ints))

-- in one block the remainder grows with the number
module _ (p q a : ℤ) (k : ℕ) (some : 0 < k) (h : p ≤ℤ a) (i : a ≤ℤ q) (one : int_div_euclid p (pos k) ≡ int_div_euclid q (pos k)) where
  same_quotient : int_div_euclid a (pos k) ≡ int_div_euclid p (pos k)
  same_quotient = omega (arith, ints, quotient_up p a k some h, quotient_up a q k some i, one)

  remainder_between : (int_rem_euclid p (pos k) ≤ℤ int_rem_euclid a (pos k)) × (int_rem_euclid a (pos k) ≤ℤ int_rem_euclid q (pos k))
  remainder_between =
      let low : up (int_div_euclid a (pos k)) * k ≡ up (int_div_euclid p (pos k)) * k = ap (λ z. up z * k) same_quotient in
      let low' : down (int_div_euclid a (pos k)) * k ≡ down (int_div_euclid p (pos k)) * k = ap (λ z. down z * k) same_quotient in
      let high : up (int_div_euclid p (pos k)) * k ≡ up (int_div_euclid q (pos k)) * k = ap (λ z. up z * k) one in
      let high' : down (int_div_euclid p (pos k)) * k ≡ down (int_div_euclid q (pos k)) * k = ap (λ z. down z * k) one in
      (omega (arith, ints, parts p k some, parts a k some), omega (arith, ints, parts q k some, parts a k some))

-- ---- at intervals

over_blocks : (x y : Itv) (a : ℤ) (k : ℕ) → 0 < k → IsIn x a → IsIn y (pos k) → IsIn (remainders_over_blocks x y) (int_rem_euclid a (pos k))
over_blocks x y a k some i j =
    let r = int_rem_euclid a (pos k) in
    let range : (pos 0 ≤ℤ r) × (r ≤ℤ (pos k -ℤ pos 1)) = remainder_range a k some in
    let number : IsNumber (pos k) = number_of y (pos k) j in
    let number' : IsNumber r = omega (arith, ints) in
    cond_both (int_lt x.lo (pos 0)) _ _ (λ v. IsIn v r) (λ _. interval_has _ _ r number' range.0 (omega (arith, ints)))
    (λ above.
    let positive : pos 0 ≤ℤ a = omega (arith, ints) in
    cond_both (int_lt x.hi y.lo) _ _ (λ v. IsIn v r)
    (λ small. rw (small_remainder a k positive (omega (arith, ints))) i)
    (λ large. interval_has _ _ r number' range.0 (below_min (y.hi -ℤ pos 1) x.hi r (omega (arith, ints)) (omega (arith, ints, remainder_at_most a k positive)))))

same_number : (a b : ℤ) → int_eq a b ≡ true → a ≡ b
same_number a b e = grind (arith, ints)

in_block : (x y : Itv) (a : ℤ) (k : ℕ) → 0 < k → IsIn x a → IsIn y (pos k) → IsTrue (int_eq y.lo y.hi && is_in_one_block x y.lo)
    → IsIn (remainders_in_block x y.lo) (int_rem_euclid a (pos k))
in_block x y a k some i j e =
    let tests : (int_eq y.lo y.hi ≡ true) × (is_in_one_block x y.lo ≡ true) = and_parts _ _ e in
    let ends : y.lo ≡ y.hi = same_number y.lo y.hi tests.0 in
    let only : y.lo ≡ pos k = omega (arith, ints) in
    let one : int_div_euclid x.lo (pos k) ≡ int_div_euclid x.hi (pos k) =
    subst (λ d. int_div_euclid x.lo d ≡ int_div_euclid x.hi d) only (same_number _ _ tests.1) in
    let between = remainder_between x.lo x.hi a k some i.0 i.1 one in
    let range : (pos 0 ≤ℤ int_rem_euclid a (pos k)) × (int_rem_euclid a (pos k) ≤ℤ (pos k -ℤ pos 1)) = remainder_range a k some in
    let number : IsNumber (pos k) = number_of y (pos k) j in
    let number' : IsNumber (int_rem_euclid a (pos k)) = omega (arith, ints) in
    subst (λ d. IsIn (remainders_in_block x d) (int_rem_euclid a (pos k))) (sym only)
    (interval_has _ _ _ number' between.0 between.1)

pub remainders_has : (x y : Itv) (a : ℤ) (k : ℕ) → 0 < k → IsIn x a → IsIn y (pos k) → IsIn (remainders x y) (int_rem_euclid a (pos k))
remainders_has x y a k some i j =
    let r = int_rem_euclid a (pos k) in
    cond_both (is_empty y) _ _ (λ v. IsIn v r) (λ e. absurd (empty_has_none y (pos k) e j))
    (λ _. cond_both (int_eq y.lo y.hi && is_in_one_block x y.lo) _ _ (λ v. IsIn v r) (in_block x y a k some i j) (λ _. over_blocks x y a k some i j))
