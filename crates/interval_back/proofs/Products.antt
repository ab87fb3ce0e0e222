-- Factors are quotients of products, and dividends lie around the products of divisor and quotient.
use Rattle.std.proofs.Common.{◌≡◌, ◌≢◌, refl, sym, ap, ◌∙◌, false, true, ◌&&◌, ℕ, zero, suc, ◌*◌, ◌/◌, ◌<◌, Ok, ℤ, pos, negsuc, neg_ℤ, ◌+ℤ◌, ◌-ℤ◌, ◌*ℤ◌, ◌≤ℤ◌, int_div, int_rem, unsigned_abs, arith}
use Rattle.std.proofs.Math.Nat.{mul-div_cancel}
use Rattle.std.proofs.Math.IntN.{neg_ℤ-neg_ℤ}
use Rattle.std.specs.Int.{int_max}
use Rattle.std.specs.Ordering.{int_eq}
use Rattle.std.proofs.lemmas.Bool.{cond-false, and_from, both_ways}
use Rattle.std.proofs.lemmas.Int.{ints, quot-rem, rem_below}
use Rattle.px_base.specs.declared.operator.BinOp.TheVariants.{Div}
use Rattle.interval.specs.declared.itv.Itv.{Itv}
use Rattle.interval.specs.Intervals.{IsIn, is_in}
use Rattle.interval.specs.IntervalLaws.{max_left, max_right}
use Rattle.interval.specs.Soundness.{HasBinaryResults}
use Rattle.interval_back.specs.Backward.{slack}

-- ---- the quotient of a product by one factor is the other one

zero_quotient : (k : ℕ) → 0 / k ≡ 0
zero_quotient zero = refl
zero_quotient (suc k) = omega arith

of_negative : (m k : ℕ) → int_div (neg_ℤ (pos m)) (pos k) ≡ neg_ℤ (pos (m / k))
of_negative zero k = ap pos (zero_quotient k) ∙ sym (ap (λ n. neg_ℤ (pos n)) (zero_quotient k))
of_negative (suc m) k = refl

by_negative : (a : ℤ) (k : ℕ) → int_div a (negsuc k) ≡ neg_ℤ (int_div a (pos (suc k)))
by_negative (pos a) k = refl
by_negative (negsuc a) k = sym (neg_ℤ-neg_ℤ _)

cancelled : (a b : ℕ) → a * suc b / suc b ≡ a
cancelled a b = mul-div_cancel a (omega arith)

quotient_of_product : (a b : ℤ) → b ≢ pos 0 → int_div (a *ℤ b) b ≡ a
quotient_of_product a (pos zero) n = absurd (n refl)
quotient_of_product (pos a) (pos (suc b)) n = ap pos (cancelled a b)
quotient_of_product (negsuc a) (pos (suc b)) n = of_negative (suc a * suc b) (suc b) ∙ ap (λ m. neg_ℤ (pos m)) (cancelled (suc a) b)
quotient_of_product (pos a) (negsuc b) n =
    by_negative (pos a *ℤ negsuc b) b
    ∙ ap neg_ℤ (of_negative (a * suc b) (suc b) ∙ ap (λ m. neg_ℤ (pos m)) (cancelled a b))
    ∙ neg_ℤ-neg_ℤ (pos a)
quotient_of_product (negsuc a) (negsuc b) n = ap (λ m. neg_ℤ (pos m)) (cancelled (suc a) b)

zero_product : (a : ℤ) → a *ℤ pos 0 ≡ pos 0
zero_product (pos a) = let none : a * 0 ≡ 0 = omega arith in ap pos none
zero_product (negsuc a) = let none : suc a * 0 ≡ 0 = omega arith in ap (λ n. neg_ℤ (pos n)) none

not_zero : (b : ℤ) → b ≢ pos 0 → int_eq b (pos 0) ≡ false
not_zero b n = grind (arith, ints)

has_zero : (y : Itv) (z : ℤ) → IsIn y z → z ≡ pos 0 → is_in y (pos 0) ≡ true
has_zero y z i e = grind (arith, ints)

-- a factor is a quotient, unless 0 is wanted and the other factor can be 0
pub factor_has : (w y v : Itv) → HasBinaryResults Div w y v → (is_in y (pos 0) && is_in w (pos 0)) ≡ false
    → (a b : ℤ) → IsIn y b → IsIn w (a *ℤ b) → IsIn v a
factor_has w y v has apart a b j k =
    let nonzero : b ≢ pos 0 = λ e.
    both_ways _ apart
    (and_from _ _ (has_zero y b j e) (has_zero w (a *ℤ b) k (ap (λ z. a *ℤ z) e ∙ zero_product a))) in
    has (a *ℤ b) b a k j (cond-false _ _ _ (not_zero b nonzero) ∙ ap Ok (quotient_of_product a b nonzero))

-- ---- dividends

size_up : (b hi : ℤ) → pos 0 ≤ℤ b → b ≤ℤ hi → pos (unsigned_abs b) ≤ℤ pos (unsigned_abs hi)
size_up (pos b) (pos hi) h k = omega (arith, ints)
size_up (pos b) (negsuc hi) h k = absurd (omega (arith, ints))
size_up (negsuc b) hi h k = absurd (omega (arith, ints))

size_down : (b lo : ℤ) → b ≤ℤ pos 0 → lo ≤ℤ b → pos (unsigned_abs b) ≤ℤ pos (unsigned_abs lo)
size_down (negsuc b) (negsuc lo) h k = omega (arith, ints)
size_down (negsuc b) (pos lo) h k = absurd (omega (arith, ints))
size_down (pos b) lo h k = omega (arith, ints)

size_within : (lo hi b m : ℤ) → lo ≤ℤ b → b ≤ℤ hi → pos (unsigned_abs lo) ≤ℤ m → pos (unsigned_abs hi) ≤ℤ m → pos (unsigned_abs b) ≤ℤ m
size_within lo hi (pos b) m h k f g = let up : pos b ≤ℤ pos (unsigned_abs hi) = size_up (pos b) hi (omega (arith, ints)) k in omega (arith, ints)
size_within lo hi (negsuc b) m h k f g = let up : pos (suc b) ≤ℤ pos (unsigned_abs lo) = size_down (negsuc b) lo (omega (arith, ints)) h in omega (arith, ints)

taken_back : (n m : ℤ) → n ≤ℤ m → n ≤ℤ ((m -ℤ pos 1) +ℤ pos 1)
taken_back n m h = omega (arith, ints)

pub size_at_most : (y : Itv) (b : ℤ) → IsIn y b → pos (unsigned_abs b) ≤ℤ (slack y +ℤ pos 1)
size_at_most y b j =
    taken_back (pos (unsigned_abs b)) (int_max (pos (unsigned_abs y.lo)) (pos (unsigned_abs y.hi)))
    (size_within y.lo y.hi b _ j.0 j.1 (max_left (pos (unsigned_abs y.lo)) (pos (unsigned_abs y.hi))) (max_right (pos (unsigned_abs y.lo)) (pos (unsigned_abs y.hi))))

around : (p q m a z r : ℤ) (n : ℕ) → p ≤ℤ z → z ≤ℤ q → (z +ℤ r) ≡ a → unsigned_abs r < n → pos n ≤ℤ (m +ℤ pos 1)
    → ((p -ℤ m) ≤ℤ a) × (a ≤ℤ (q +ℤ m))
around p q m a z r n h k e small size = (omega (arith, ints), omega (arith, ints))

some_size : (b : ℤ) → b ≢ pos 0 → 0 < unsigned_abs b
some_size (pos zero) n = absurd (n refl)
some_size (pos (suc b)) n = omega arith
some_size (negsuc b) n = omega arith

-- a dividend differs from the product by the remainder
pub dividend_between : (y : Itv) (p q a b : ℤ) → IsIn y b → b ≢ pos 0 → (p ≤ℤ (int_div a b *ℤ b)) × ((int_div a b *ℤ b) ≤ℤ q)
    → ((p -ℤ slack y) ≤ℤ a) × (a ≤ℤ (q +ℤ slack y))
dividend_between y p q a b j nonzero between =
    around p q (slack y) a (int_div a b *ℤ b) (int_rem a b) (unsigned_abs b) between.0 between.1 (quot-rem a b)
    (rem_below a b (some_size b nonzero)) (size_at_most y b j)
