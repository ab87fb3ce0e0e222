-- Operands that can give a wanted result stay, operator by operator.
use Rattle.std.proofs.Common.{◌≡◌, ◌≢◌, refl, sym, ap, subst, ◌∙◌, Bool, true, false, Ok, Err, ℤ, pos, ◌≤ℤ◌, ◌*ℤ◌, ◌+ℤ◌, int_lt, int_div, if◌then◌else◌, arith}
use Rattle.std.proofs.Math.IntN.{*ℤ_comm}
use Rattle.std.specs.Int.{int_min, int_max}
use Rattle.std.specs.Ordering.{int_eq}
use Rattle.std.proofs.lemmas.Int.{ints}
use Rattle.px_base.specs.declared.kind.Kind.{Kind}
use Rattle.px_base.specs.declared.operator.BinOp.{BinOp}
use Rattle.px_base.specs.declared.operator.BinOp.TheVariants.{Add, Sub, Mul, Div, Mod, And, Or, Eq, Ne}
use Rattle.arithmetic.specs.Numbers.{truth}
use Rattle.arithmetic.specs.Operators.{binary_result}
use Rattle.interval.specs.declared.itv.Itv.{Itv}
use Rattle.interval.specs.Intervals.{IsIn}
use Rattle.interval_back.specs.declared.relation.Relation.{Relation}
use Rattle.interval_back.specs.declared.relation.Relation.TheVariants.{Equal, Different}
use Rattle.interval_back.specs.Backward.{addends, minuends, subtrahends, divisors, reduced, moduli, conjuncts, disjuncts, decided}
use Rattle.interval_back.specs.Kept.{KeepsLeft, KeepsRight}
use Rattle.interval_back.proofs.Kept.{addend_kept, minuend_kept, subtrahend_kept, divisor_kept, reduced_kept, modulus_kept, conjunct_kept, disjunct_kept, holds, decided_kept}
use Rattle.interval_back.proofs.KeptOne.{chosen, value_of}

-- ---- what an arm of the code gives is what the table gives

pub left_arm : (w x y : Itv) {op p : BinOp} {r v : Itv} → op ≡ p → r ≡ v → KeepsLeft p w x y v → KeepsLeft op w x y r
left_arm w x y {op} {p} {r} {v} o e h = subst (λ q. KeepsLeft q w x y r) (sym o) (subst (KeepsLeft p w x y) (sym e) h)

pub right_arm : (w x y : Itv) {op p : BinOp} {r v : Itv} → op ≡ p → r ≡ v → KeepsRight p w x y v → KeepsRight op w x y r
right_arm w x y {op} {p} {r} {v} o e h = subst (λ q. KeepsRight q w x y r) (sym o) (subst (KeepsRight p w x y) (sym e) h)

-- ---- results

-- an operator whose error comes first
unchosen : (b : Bool) (z c : ℤ) (kind : Kind) → (if b then Err kind else Ok z) ≡ Ok c → (b ≡ false) × (z ≡ c)
unchosen true z c kind e = cc
unchosen false z c kind e = (refl, cc)

chosen_test : (b : Bool) (z c : ℤ) (kind : Kind) → (if b then Ok z else Err kind) ≡ Ok c → b ≡ true
chosen_test true z c kind e = refl
chosen_test false z c kind e = cc

pub nonzero_divisor : (a b c : ℤ) → binary_result Div a b ≡ Ok c → (b ≢ pos 0) × (int_div a b ≡ c)
nonzero_divisor a b c e =
    let result : (int_eq b (pos 0) ≡ false) × (int_div a b ≡ c) = unchosen _ _ c _ e in
    (λ zero. grind (arith, ints), result.1)

positive : (b : ℤ) → int_lt (pos 0) b ≡ true → pos 1 ≤ℤ b
positive b e = grind (arith, ints)

-- ---- the rows

module _ (w x y : Itv) where
  pub left_of_sum : KeepsLeft Add w x y (addends w x y)
  left_of_sum a b c i j e k = addend_kept w x y a b c i j k (chosen _ _ c _ e)

  pub right_of_sum : KeepsRight Add w x y (addends w y x)
  right_of_sum a b c i j e k = addend_kept w y x b a c j i k (swapped (chosen _ _ c _ e))
    where
      swapped : a +ℤ b ≡ c → b +ℤ a ≡ c
      swapped f = omega (arith, ints)

  pub left_of_difference : KeepsLeft Sub w x y (minuends w x y)
  left_of_difference a b c i j e k = minuend_kept w x y a b c i j k (chosen _ _ c _ e)

  pub right_of_difference : KeepsRight Sub w x y (subtrahends w x y)
  right_of_difference a b c i j e k = subtrahend_kept w x y a b c i j k (chosen _ _ c _ e)

  pub right_of_product : (r : Itv) → ((a b : ℤ) → IsIn y a → IsIn x b → IsIn w (a *ℤ b) → IsIn r a) → KeepsRight Mul w x y r
  right_of_product r h a b c i j e k = h b a j i (subst (IsIn w) (sym (chosen _ _ c _ e) ∙ *ℤ_comm a b) k)

  pub right_of_quotient : KeepsRight Div w x y (divisors y)
  right_of_quotient a b c i j e k = divisor_kept w x y a b c i j k (unchosen _ _ c _ e).0

  pub left_of_remainder : KeepsLeft Mod w x y (reduced w x y)
  left_of_remainder a b c i j e k =
      reduced_kept w x y a b c i j k (positive b (chosen_test _ _ c _ e)) (chosen _ _ c _ e)

  pub right_of_remainder : KeepsRight Mod w x y (moduli w y)
  right_of_remainder a b c i j e k =
      modulus_kept w x y a b c i j k (positive b (chosen_test _ _ c _ e)) (chosen _ _ c _ e)

  pub left_of_conjunction : KeepsLeft And w x y (conjuncts w x y)
  left_of_conjunction a b c i j e k = conjunct_kept w x y a b c i j k (value_of _ c e)

  pub right_of_conjunction : KeepsRight And w x y (conjuncts w y x)
  right_of_conjunction a b c i j e k = conjunct_kept w y x b a c j i k (swapped ∙ value_of _ c e)
    where
      swapped : int_min b a ≡ int_min a b
      swapped = grind (arith, ints)

  pub left_of_disjunction : KeepsLeft Or w x y (disjuncts w x y)
  left_of_disjunction a b c i j e k = disjunct_kept w x y a b c i j k (value_of _ c e)

  pub right_of_disjunction : KeepsRight Or w x y (disjuncts w y x)
  right_of_disjunction a b c i j e k = disjunct_kept w y x b a c j i k (swapped ∙ value_of _ c e)
    where
      swapped : int_max b a ≡ int_max a b
      swapped = grind (arith, ints)

  pub left_of_relation : (op : BinOp) (r : Relation) → ((a b : ℤ) → binary_result op a b ≡ Ok (truth (holds r a b)))
      → KeepsLeft op w x y (decided r w x y)
  left_of_relation op r h a b c i j e k =
      decided_kept r w x y a b i j (subst (IsIn w) (sym (value_of _ c (sym (h a b) ∙ e))) k)

  pub right_of_relation : (op : BinOp) (r : Relation) → ((a b : ℤ) → binary_result op a b ≡ Ok (truth (holds r b a)))
      → KeepsRight op w x y (decided r w y x)
  right_of_relation op r h a b c i j e k =
      decided_kept r w y x b a j i (subst (IsIn w) (sym (value_of _ c (sym (h a b) ∙ e))) k)

-- equality and difference read the same from the right
symmetric : (a b : ℤ) → int_eq a b ≡ int_eq b a
symmetric a b = grind (arith, ints)

pub equal_from_right : (a b : ℤ) → binary_result Eq a b ≡ Ok (truth (holds Equal b a))
equal_from_right a b = ap (λ t. Ok (truth t)) (symmetric a b)

pub different_from_right : (a b : ℤ) → binary_result Ne a b ≡ Ok (truth (holds Different b a))
different_from_right a b = rw (symmetric a b) refl
