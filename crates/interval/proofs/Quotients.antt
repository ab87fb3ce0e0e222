-- A quotient lies between those at the ends of its operands.
use Rattle.std.proofs.Common.{◌≡◌, ◌≢◌, refl, sym, ℕ, zero, suc, ◌/◌, ◌<◌, ◌≤◌, inl, inr, ℤ, pos, negsuc, neg_ℤ, ◌≤ℤ◌, int_div, arith}
use Rattle.std.proofs.Math.Nat.{mul-le-mul_left, div-mul-le_self}
use Rattle.std.proofs.Math.IntN.{neg_ℤ-neg_ℤ}
use Rattle.std.proofs.lemmas.Int.{ints}
use Rattle.std.proofs.lemmas.Nat.{le-div}
use Rattle.interval.proofs.Between.{IsBetween}
use borrow.Author.Differences.{up, down}

div_up : (m n k : ℕ) → 0 < k → m ≤ n → m / k ≤ n / k
div_up m n k some h = le-div (m / k) n k some (omega (arith, div-mul-le_self m k))

div_down : (n j k : ℕ) → 0 < j → j ≤ k → n / k ≤ n / j
div_down n j k some h = le-div (n / k) n j some (omega (arith, div-mul-le_self n k, mul-le-mul_left (n / k) h))

ordered_parts : (p a : ℤ) → p ≤ℤ a → (up p ≤ up a) × (down a ≤ down p)
ordered_parts (pos p) (pos a) h = (omega (arith, ints), omega (arith, ints))
ordered_parts (pos p) (negsuc a) h = (omega (arith, ints), omega (arith, ints))
ordered_parts (negsuc p) (pos a) h = (omega (arith, ints), omega (arith, ints))
ordered_parts (negsuc p) (negsuc a) h = (omega (arith, ints), omega (arith, ints))

quotient_up : (p a : ℤ) (k : ℕ) → 0 < k → p ≤ℤ a → int_div p (pos k) ≤ℤ int_div a (pos k)
quotient_up p a k some h =
    let parts : (up p ≤ up a) × (down a ≤ down p) = ordered_parts p a h in
    let high : up p / k ≤ up a / k = div_up _ _ k some parts.0 in
    let low : down a / k ≤ down p / k = div_up _ _ k some parts.1 in
    omega (arith, ints)

by_negative : (a : ℤ) (k : ℕ) → int_div a (negsuc k) ≡ neg_ℤ (int_div a (pos (suc k)))
by_negative (pos a) k = refl
by_negative (negsuc a) k = sym (neg_ℤ-neg_ℤ _)

negated : (a b : ℤ) → a ≤ℤ b → neg_ℤ b ≤ℤ neg_ℤ a
negated a b h = omega (arith, ints)

-- at the ends of the dividend
pub quotient_between : (p q a b : ℤ) → b ≢ pos 0 → p ≤ℤ a → a ≤ℤ q → IsBetween (int_div p b) (int_div q b) (int_div a b)
quotient_between p q a (pos zero) n h k = absurd (n refl)
quotient_between p q a (pos (suc b)) n h k = inl (quotient_up p a (suc b) (omega arith) h, quotient_up a q (suc b) (omega arith) k)
quotient_between p q a (negsuc b) n h k =
    rw (by_negative p b, by_negative q b, by_negative a b)
    (inr (negated _ _ (quotient_up a q (suc b) (omega arith) k), negated _ _ (quotient_up p a (suc b) (omega arith) h)))

-- a quotient falls in size as the divisor grows
smaller : (a : ℤ) (j k l : ℕ) → 0 < j → j ≤ k → k ≤ l → IsBetween (int_div a (pos j)) (int_div a (pos l)) (int_div a (pos k))
smaller (pos a) j k l some h i = inr (omega (arith, ints, div_down a k l (omega arith) i), omega (arith, ints, div_down a j k some h))
smaller (negsuc a) j k l some h i =
    inl (omega (arith, ints, div_down (suc a) j k some h), omega (arith, ints, div_down (suc a) k l (omega arith) i))

swapped : (u v z : ℤ) → IsBetween u v z → IsBetween v u z
swapped u v z (inl h) = inr h
swapped u v z (inr h) = inl h

opposite_between : (u v z : ℤ) → IsBetween u v z → IsBetween (neg_ℤ u) (neg_ℤ v) (neg_ℤ z)
opposite_between u v z (inl h) = inr (negated _ _ h.1, negated _ _ h.0)
opposite_between u v z (inr h) = inl (negated _ _ h.1, negated _ _ h.0)

-- at the ends of a positive divisor
pub quotient_between_positive : (e f a b : ℤ) → pos 1 ≤ℤ e → e ≤ℤ b → b ≤ℤ f → IsBetween (int_div a e) (int_div a f) (int_div a b)
quotient_between_positive (pos e) (pos f) a (pos b) n h k = smaller a e b f (omega (arith, ints)) (omega (arith, ints)) (omega (arith, ints))
quotient_between_positive (negsuc e) f a b n h k = absurd (omega (arith, ints))
quotient_between_positive (pos e) (negsuc f) a (pos b) n h k = absurd (omega (arith, ints))
quotient_between_positive (pos e) f a (negsuc b) n h k = absurd (omega (arith, ints))

-- and at the ends of a negative one
pub quotient_between_negative : (e f a b : ℤ) → f ≤ℤ negsuc 0 → e ≤ℤ b → b ≤ℤ f → IsBetween (int_div a e) (int_div a f) (int_div a b)
quotient_between_negative (negsuc e) (negsuc f) a (negsuc b) n h k =
    rw (by_negative a e, by_negative a f, by_negative a b)
    (opposite_between _ _ _ (swapped _ _ _ (smaller a (suc f) (suc b) (suc e) (omega arith) (omega (arith, ints)) (omega (arith, ints)))))
quotient_between_negative e (pos f) a b n h k = absurd (omega (arith, ints))
quotient_between_negative e (negsuc f) a (pos b) n h k = absurd (omega (arith, ints))
quotient_between_negative (pos e) (negsuc f) a (negsuc b) n h k = absurd (omega (arith, ints))
