-- Operands of operators with one operand that can give a wanted result stay.
use Rattle.std.proofs.Common.{◌≡◌, ◌≢◌, refl, sym, ap, subst, ◌∙◌, Bool, true, false, not, Result, Ok, Err, ◌*◌, ℤ, pos, negsuc, neg_ℤ, ◌≤ℤ◌, ◌+ℤ◌, ◌-ℤ◌, ◌*ℤ◌, unsigned_abs, if◌then◌else◌, arith}
use Rattle.std.specs.Ordering.{int_eq}
use Rattle.std.proofs.lemmas.Bool.{cond_both, not-true, both_ways}
use Rattle.std.proofs.lemmas.Int.{ints}
use Rattle.px_base.specs.declared.kind.Kind.{Kind}
use Rattle.px_base.specs.declared.operator.UnOp.{UnOp}
use Rattle.px_base.specs.declared.operator.UnOp.TheVariants.{Neg, Not, Abs, Sqr, Odd, SuccInt, PredInt, SuccBool, PredBool, OrdOf}
use Rattle.arithmetic.specs.Numbers.{truth}
use Rattle.interval.specs.declared.itv.Itv.{Itv}
use Rattle.interval.specs.Forward.{is_odd}
use Rattle.interval.specs.Intervals.{IsIn}
use Rattle.interval.specs.IntervalLaws.{meet_has, join_above_left, join_above_right, within_has as in_wider}
use Rattle.interval_back.specs.Backward.{within, operand, of_either_sign, of_parity}
use Rattle.interval_back.specs.Kept.{KeepsOperand}
use Rattle.interval_back.specs.Roots.{root_above, root_below}
use Rattle.interval_back.proofs.Kept.{within_has, trimmed_has}
use Rattle.interval_back.proofs.Squares.{below_root_below, above_root_above}

-- ---- results

pub chosen : (b : Bool) (z c : ℤ) (kind : Kind) → (if b then Ok z else Err kind) ≡ Ok c → z ≡ c
chosen true z c kind e = cc
chosen false z c kind e = cc

pub value_of : (z c : ℤ) → ◌≡◌ {A = Result ℤ Kind} (Ok z) (Ok c) → z ≡ c
value_of z c e = cc

-- ---- signs

module _ (lo hi : ℤ) (x : Itv) (a : ℤ) (i : IsIn x a) where
  positive_has : lo ≤ℤ a → a ≤ℤ hi → IsIn (of_either_sign lo hi x) a
  positive_has b d =
      in_wider (within lo hi x) (of_either_sign lo hi x) a
      (join_above_left (within lo hi x) (within (neg_ℤ hi) (neg_ℤ lo) x)) (within_has lo hi x a b d i)

  negative_has : neg_ℤ hi ≤ℤ a → a ≤ℤ neg_ℤ lo → IsIn (of_either_sign lo hi x) a
  negative_has b d =
      in_wider (within (neg_ℤ hi) (neg_ℤ lo) x) (of_either_sign lo hi x) a
      (join_above_right (within lo hi x) (within (neg_ℤ hi) (neg_ℤ lo) x)) (within_has _ _ x a b d i)

-- a number whose absolute value lies from lo to hi
either_sign_has : (lo hi : ℤ) (x : Itv) (a : ℤ) → IsIn x a → lo ≤ℤ pos (unsigned_abs a) → pos (unsigned_abs a) ≤ℤ hi
    → IsIn (of_either_sign lo hi x) a
either_sign_has lo hi x (pos n) i b d = positive_has lo hi x (pos n) i b d
either_sign_has lo hi x (negsuc n) i b d = negative_has lo hi x (negsuc n) i (omega (arith, ints)) (omega (arith, ints))

square_of_magnitude : (a : ℤ) → a *ℤ a ≡ pos (unsigned_abs a * unsigned_abs a)
square_of_magnitude (pos a) = refl
square_of_magnitude (negsuc a) = refl

-- ---- parity

-- an end of the other parity isn't a number whose parity is the wanted one
other_parity : (w : Itv) (end a : ℤ) → w.lo ≡ w.hi → IsIn w (truth (is_odd a)) → not (int_eq (truth (is_odd end)) w.lo) ≡ true → a ≢ end
other_parity w end a one k differs same =
    both_ways _ (not-true _ differs) (equal_to_itself (truth (is_odd end)) w.lo (ap (λ z. truth (is_odd z)) (sym same) ∙ only (truth (is_odd a)) w.lo w.hi one k.0 k.1))
  where
    equal_to_itself : (p q : ℤ) → p ≡ q → int_eq p q ≡ true
    equal_to_itself p q e = grind (arith, ints)

    only : (t lo hi : ℤ) → lo ≡ hi → lo ≤ℤ t → t ≤ℤ hi → t ≡ lo
    only t lo hi e f g = omega (arith, ints)

same_number : (a b : ℤ) → int_eq a b ≡ true → a ≡ b
same_number a b e = grind (arith, ints)

parity_kept : (w x : Itv) (a : ℤ) → IsIn x a → IsIn w (truth (is_odd a)) → IsIn (of_parity w x) a
parity_kept w x a i k =
    cond_both (int_eq w.lo w.hi) _ _ (λ v. IsIn v a)
    (λ one. trimmed_has _ _ x a i (other_parity w x.lo a (same_number _ _ one) k) (other_parity w x.hi a (same_number _ _ one) k))
    (λ _. i)

-- ---- each operator

module _ (w x : Itv) (a c : ℤ) (i : IsIn x a) (k : IsIn w c) where
  opposite_kept : neg_ℤ a ≡ c → IsIn (operand Neg w x) a
  opposite_kept e = within_has _ _ x a (omega (arith, ints)) (omega (arith, ints)) i

  negation_kept : (pos 1 -ℤ a) ≡ c → IsIn (operand Not w x) a
  negation_kept e = within_has _ _ x a (omega (arith, ints)) (omega (arith, ints)) i

  magnitude_kept : pos (unsigned_abs a) ≡ c → IsIn (operand Abs w x) a
  magnitude_kept e = either_sign_has w.lo w.hi x a i (omega (arith, ints)) (omega (arith, ints))

  root_kept : a *ℤ a ≡ c → IsIn (operand Sqr w x) a
  root_kept e =
      let square : c ≡ pos (unsigned_abs a * unsigned_abs a) = sym e ∙ square_of_magnitude a in
      let inside : IsIn w (pos (unsigned_abs a * unsigned_abs a)) = subst (IsIn w) square k in
      either_sign_has (root_above w.lo) (root_below w.hi) x a i
      (above_root_above (unsigned_abs a) w.lo inside.0) (below_root_below (unsigned_abs a) w.hi inside.1)

  predecessor_kept : (a +ℤ pos 1) ≡ c → IsIn (operand SuccInt w x) a
  predecessor_kept e = within_has _ _ x a (omega (arith, ints)) (omega (arith, ints)) i

  successor_kept : (a -ℤ pos 1) ≡ c → IsIn (operand PredInt w x) a
  successor_kept e = within_has _ _ x a (omega (arith, ints)) (omega (arith, ints)) i

pub operand_kept : (op : UnOp) (w x : Itv) → KeepsOperand op w x (operand op w x)
operand_kept Neg w x a c i e k = opposite_kept w x a c i k (value_of _ c e)
operand_kept Not w x a c i e k = negation_kept w x a c i k (chosen _ _ c _ e)
operand_kept Abs w x a c i e k = magnitude_kept w x a c i k (value_of _ c e)
operand_kept Sqr w x a c i e k = root_kept w x a c i k (chosen _ _ c _ e)
operand_kept Odd w x a c i e k = parity_kept w x a i (subst (IsIn w) (sym (value_of _ c e)) k)
operand_kept SuccInt w x a c i e k = predecessor_kept w x a c i k (chosen _ _ c _ e)
operand_kept PredInt w x a c i e k = successor_kept w x a c i k (chosen _ _ c _ e)
operand_kept SuccBool w x a c i e k = predecessor_kept w x a c i k (chosen _ _ c _ e)
operand_kept PredBool w x a c i e k = successor_kept w x a c i k (chosen _ _ c _ e)
operand_kept OrdOf w x a c i e k = meet_has w x a (subst (IsIn w) (sym (value_of _ c e)) k) i
