-- A number of the language is the same after it was passed as bits.
use Rattle.std.proofs.Common.{◌≡◌, ℕ, Bool, true, false, sym, ap, ◌∙◌, subst, ℤ, rules, Result, Ok}
use Rattle.std.proofs.lemmas.Int.{ints, to_z-of_z}
use Rattle.std.specs.Int.{w32}
use Rattle.px_base.specs.declared.kind.Kind.{Kind}
use Rattle.arithmetic.specs.Numbers.{IsNumber}
use Rattle.control_points.specs.declared.fault.Fault.{Fault}
use Rattle.control_points.specs.Evaluation.{checked}
use mir.Val.{of_z, to_z}

pub number_cast : (z : ℤ) → IsNumber z → IsNumber (to_z w32 (of_z w32 z))
number_cast z h = let low = h.0 in let high = h.1 in subst IsNumber (sym (to_z-of_z w32 z (search (rules, ints)))) h

pub number_kept : (z : ℤ) → IsNumber z → z ≡ to_z w32 (of_z w32 z)
number_kept z h = let low = h.0 in let high = h.1 in sym (to_z-of_z w32 z (search (rules, ints)))

pub numbers_kept : {A : Type 0} (f : ℤ → ℤ → A) (x y : ℤ) → IsNumber x → IsNumber y → f x y ≡ f (to_z w32 (of_z w32 x)) (to_z w32 (of_z w32 y))
numbers_kept f x y h k = ap (λ x. f x y) (number_kept x h) ∙ ap (f (to_z w32 (of_z w32 x))) (number_kept y k)

-- numbers with the same bits are the same
pub same_bits : (x y : ℤ) → IsNumber x → IsNumber y → of_z w32 x ≡ of_z w32 y → x ≡ y
same_bits x y h k e = number_kept x h ∙ ap (to_z w32) e ∙ sym (number_kept y k)

-- what passes a check is what was given to it
pub checked_is : (b : Bool) (k : Kind) (at : ℕ) (x y : ℤ) → ◌≡◌ {A = Result ℤ Fault} (Ok y) (checked b k at x) → x ≡ y
checked_is true k at x y h = cc
checked_is false k at x y h = absurd (cc)

pub checked_number : (b : Bool) (k : Kind) (at : ℕ) (x y : ℤ) → ◌≡◌ {A = Result ℤ Fault} (Ok y) (checked b k at x) → IsNumber x → IsNumber y
checked_number b k at x y h n = subst IsNumber (checked_is b k at x y h) n
