-- Operands that can give a wanted result stay.
use Rattle.std.proofs.Common.{◌≡◌, ◌≢◌, refl, sym, ap, subst, ◌∙◌, Bool, true, false, not, ℤ, pos, negsuc, ◌≤ℤ◌, ◌<ℤ◌, ◌+ℤ◌, ◌-ℤ◌, int_lt, int_le, if◌then◌else◌, arith}
use Rattle.std.proofs.Math.Nat.{mod-eq_of_lt}
use Rattle.std.specs.Int.{int_min, int_max, int_rem_euclid}
use Rattle.std.specs.Ordering.{int_eq}
use Rattle.std.proofs.lemmas.Bool.{cond_both, and_parts, not-true}
use Rattle.std.proofs.lemmas.Int.{ints}
use Rattle.arithmetic.specs.Numbers.{truth}
use Rattle.interval.specs.declared.itv.Itv.{Itv}
use Rattle.interval.specs.Intervals.{IsIn}
use Rattle.interval.specs.IntervalLaws.{number_of, above_max, below_min, meet_has}
use Rattle.interval.specs.Same.{interval_has}
use Rattle.interval_back.specs.declared.relation.Relation.{Relation}
use Rattle.interval_back.specs.declared.relation.Relation.TheVariants.{Equal, Different, Less, AtMost, Greater, AtLeast}
use Rattle.interval_back.specs.Backward.{within, trimmed, addends, minuends, subtrahends, divisors, is_reduced, reduced, moduli, conjuncts, disjuncts, related, opposite, decided}

-- ---- parts of an interval

pub within_has : (lo hi : ℤ) (x : Itv) (z : ℤ) → lo ≤ℤ z → z ≤ℤ hi → IsIn x z → IsIn (within lo hi x) z
unfolding within
within_has lo hi x z a b i = interval_has _ _ z (number_of x z i) (above_max _ _ z a i.0) (below_min _ _ z b i.1)

low_kept : (low : Bool) (x : Itv) (z : ℤ) → IsIn x z → (low ≡ true → z ≢ x.lo) → (if low then x.lo +ℤ pos 1 else x.lo) ≤ℤ z
low_kept false x z i other = i.0
low_kept true x z i other = let differs : z ≢ x.lo = other refl in grind (arith, ints)

high_kept : (high : Bool) (x : Itv) (z : ℤ) → IsIn x z → (high ≡ true → z ≢ x.hi) → z ≤ℤ (if high then x.hi -ℤ pos 1 else x.hi)
high_kept false x z i other = i.1
high_kept true x z i other = let differs : z ≢ x.hi = other refl in grind (arith, ints)

pub trimmed_has : (low high : Bool) (x : Itv) (z : ℤ) → IsIn x z → (low ≡ true → z ≢ x.lo) → (high ≡ true → z ≢ x.hi)
    → IsIn (trimmed low high x) z
unfolding trimmed
trimmed_has low high x z i a b = interval_has _ _ z (number_of x z i) (low_kept low x z i a) (high_kept high x z i b)

-- ---- integers

module _ (w x y : Itv) (a b c : ℤ) (i : IsIn x a) (j : IsIn y b) (k : IsIn w c) where
  pub addend_kept : a +ℤ b ≡ c → IsIn (addends w x y) a
  addend_kept e = within_has _ _ x a (omega (arith, ints)) (omega (arith, ints)) i

  pub minuend_kept : a -ℤ b ≡ c → IsIn (minuends w x y) a
  minuend_kept e = within_has _ _ x a (omega (arith, ints)) (omega (arith, ints)) i

  pub subtrahend_kept : a -ℤ b ≡ c → IsIn (subtrahends w x y) b
  subtrahend_kept e = within_has _ _ y b (omega (arith, ints)) (omega (arith, ints)) j

  pub divisor_kept : int_eq b (pos 0) ≡ false → IsIn (divisors y) b
  divisor_kept n =
      cond_both (int_eq y.lo (pos 0)) _ _ (λ v. IsIn v b)
      (λ e. interval_has _ _ b (number_of y b j) (grind (arith, ints)) j.1)
      (λ _. cond_both (int_eq y.hi (pos 0)) _ _ (λ v. IsIn v b)
      (λ e. interval_has _ _ b (number_of y b j) j.0 (grind (arith, ints)))
      (λ _. j))

small_remainder : (a b : ℤ) → pos 0 ≤ℤ a → a <ℤ b → int_rem_euclid a b ≡ a
small_remainder (pos a) (pos b) h below = ap pos (mod-eq_of_lt (omega (arith, ints)))
small_remainder (negsuc a) b h below = absurd (omega (arith, ints))
small_remainder (pos a) (negsuc b) h below = absurd (omega (arith, ints))

remainder_below : (a b : ℤ) → pos 1 ≤ℤ b → int_rem_euclid a b <ℤ b
remainder_below (pos a) (pos b) h = omega (arith, ints)
remainder_below (negsuc a) (pos b) h = omega (arith, ints)
remainder_below a (negsuc b) h = absurd (omega (arith, ints))

module _ (w x y : Itv) (a b c : ℤ) (i : IsIn x a) (j : IsIn y b) (k : IsIn w c) (some : pos 1 ≤ℤ b) (e : int_rem_euclid a b ≡ c) where
  itself : is_reduced x y ≡ true → c ≡ a
  itself h =
      let tests : (int_le (pos 0) x.lo ≡ true) × (int_lt x.hi (int_max y.lo (pos 1)) ≡ true) = and_parts _ _ h in
      let above : pos 0 ≤ℤ a = grind (arith, ints, tests.0) in
      let below : a <ℤ b = grind (arith, ints, tests.1) in
      sym e ∙ small_remainder a b above below

  pub reduced_kept : IsIn (reduced w x y) a
  reduced_kept =
      cond_both (is_reduced x y) _ _ (λ v. IsIn v a) (λ h. meet_has w x a (subst (IsIn w) (itself h) k) i) (λ _. i)

  pub modulus_kept : IsIn (moduli w y) b
  modulus_kept =
      let below : int_rem_euclid a b <ℤ b = remainder_below a b some in
      let least : (w.lo +ℤ pos 1) ≤ℤ b = omega (arith, ints) in
      within_has _ _ y b (above_max _ _ b least some) (number_of y b j).1 j

-- ---- truth

module _ (w x y : Itv) (a b c : ℤ) (i : IsIn x a) (j : IsIn y b) (k : IsIn w c) where
  pub conjunct_kept : int_min a b ≡ c → IsIn (conjuncts w x y) a
  conjunct_kept e =
      cond_both (int_le y.lo w.hi) _ _ (λ v. IsIn v a)
      (λ h. within_has _ _ x a (grind (arith, ints)) (number_of x a i).1 i)
      (λ h. let same : c ≡ a = grind (arith, ints) in meet_has w x a (subst (IsIn w) same k) i)

  pub disjunct_kept : int_max a b ≡ c → IsIn (disjuncts w x y) a
  disjunct_kept e =
      cond_both (int_le w.lo y.hi) _ _ (λ v. IsIn v a)
      (λ h. within_has _ _ x a (number_of x a i).0 (grind (arith, ints)) i)
      (λ h. let same : c ≡ a = grind (arith, ints) in meet_has w x a (subst (IsIn w) same k) i)

-- whether a relation holds
abbrev pub holds : Relation → ℤ → ℤ → Bool
holds Equal a b = int_eq a b
holds Different a b = not (int_eq a b)
holds Less a b = int_lt a b
holds AtMost a b = int_le a b
holds Greater a b = int_lt b a
holds AtLeast a b = int_le b a

opposite_holds : (r : Relation) (a b : ℤ) → holds r a b ≡ false → holds (opposite r) a b ≡ true
opposite_holds Equal a b e = grind (arith, ints)
opposite_holds Different a b e = grind (arith, ints)
opposite_holds Less a b e = grind (arith, ints)
opposite_holds AtMost a b e = grind (arith, ints)
opposite_holds Greater a b e = grind (arith, ints)
opposite_holds AtLeast a b e = grind (arith, ints)

same_number : (a b : ℤ) → int_eq a b ≡ true → a ≡ b
same_number a b e = grind (arith, ints)

-- an end of X that is n isn't a, which differs from n
other_end : (end a b n : ℤ) → int_eq a b ≡ false → b ≡ n → int_eq end n ≡ true → a ≢ end
other_end end a b n differs e f g = grind (arith, ints)

module _ (x y : Itv) (a b : ℤ) (i : IsIn x a) (j : IsIn y b) where
  different_kept : int_eq a b ≡ false → IsIn (related Different x y) a
  different_kept differs =
      cond_both (int_eq y.lo y.hi) _ _ (λ v. IsIn v a)
      (λ e. let only : b ≡ y.lo = grind (arith, ints) in
      trimmed_has _ _ x a i (other_end x.lo a b y.lo differs only) (other_end x.hi a b y.lo differs only))
      (λ _. i)

  related_kept : (r : Relation) → holds r a b ≡ true → IsIn (related r x y) a
  related_kept Equal h = meet_has x y a i (subst (IsIn y) (sym (same_number a b h)) j)
  related_kept Different h = different_kept (not-true _ h)
  related_kept Less h = within_has _ _ x a (number_of x a i).0 (grind (arith, ints)) i
  related_kept AtMost h = within_has _ _ x a (number_of x a i).0 (grind (arith, ints)) i
  related_kept Greater h = within_has _ _ x a (grind (arith, ints)) (number_of x a i).1 i
  related_kept AtLeast h = within_has _ _ x a (grind (arith, ints)) (number_of x a i).1 i

false_at_most : (t : Bool) → truth t ≤ℤ pos 0 → t ≡ false
false_at_most false h = refl
false_at_most true h = absurd (omega (arith, ints))

true_at_least : (t : Bool) → pos 1 ≤ℤ truth t → t ≡ true
true_at_least true h = refl
true_at_least false h = absurd (omega (arith, ints))

pub decided_kept : (r : Relation) (w x y : Itv) (a b : ℤ) → IsIn x a → IsIn y b → IsIn w (truth (holds r a b)) → IsIn (decided r w x y) a
decided_kept r w x y a b i j k =
    let t : ℤ = truth (holds r a b) in
    cond_both (int_le w.hi (pos 0)) _ _ (λ v. IsIn v a)
    (λ h. related_kept x y a b i j (opposite r) (opposite_holds r a b (false_at_most (holds r a b) (below_end t w.hi (pos 0) k.1 h))))
    (λ _. cond_both (int_le (pos 1) w.lo) _ _ (λ v. IsIn v a)
    (λ h. related_kept x y a b i j r (true_at_least (holds r a b) (above_end t w.lo (pos 1) k.0 h)))
    (λ _. i))
  where
    below_end : (t hi z : ℤ) → t ≤ℤ hi → int_le hi z ≡ true → t ≤ℤ z
    below_end t hi z g h = grind (arith, ints)

    above_end : (t lo z : ℤ) → lo ≤ℤ t → int_le z lo ≡ true → z ≤ℤ t
    above_end t lo z g h = grind (arith, ints)
