-- What operators give at numbers of their hosts is a number of the host that they give.
use Rattle.std.proofs.Common.{◌≡◌, ℕ, zero, suc, ◌/◌, ◌%◌, ◌<◌, ◌≤◌, Bool, true, false, cond, not, ◌&&◌, ℤ, pos, negsuc, neg_ℤ, ◌+ℤ◌, ◌-ℤ◌, ◌*ℤ◌, int_le, int_lt, int_eq, int_div, unsigned_abs, refl, sym, ap, subst, ◌∙◌, inl, inr, Result, Ok, Err, leb, le-leb, leb-true, ltb-true, div-le_self, le_trans, arith, ◌==◌}
use Rattle.std.proofs.lemmas.Bool.{and_parts, and_from, cases_Bool, cond-true, cond-false, true≢false}
use Rattle.std.specs.Int.{int_min, int_max, int_rem_euclid}
use Rattle.arithmetic.specs.Numbers.{is_number, is_boolean, truth}
use Rattle.arithmetic.specs.Operators.{checked, quotient, modulus, negation, binary_result, unary_result}
use Rattle.px_base.specs.declared.kind.Kind.{Kind}
use Rattle.px_base.specs.declared.kind.Kind.TheVariants as kinds
use Rattle.px_base.specs.declared.operator.BinOp.{BinOp}
use Rattle.px_base.specs.declared.operator.BinOp.TheVariants as binary
use Rattle.px_base.specs.declared.operator.UnOp.{UnOp}
use Rattle.px_base.specs.declared.operator.UnOp.TheVariants as unary
use Rattle.pas_program.specs.Typed.{unary_takes, unary_gives, binary_takes, binary_gives}
use Rattle.pas_program.specs.Types.{in_host}

-- ---- integers by their absolute values, and Booleans

integer_from : (z : ℤ) → unsigned_abs z ≤ 2147483647 → in_host false z ≡ true
integer_from (pos n) h = le-leb n 2147483647 h
integer_from (negsuc n) h = and_from _ _ (le-leb n 2147483646 (omega arith)) refl

integer_to : (z : ℤ) → in_host false z ≡ true → unsigned_abs z ≤ 2147483647
integer_to (pos n) h = leb-true n 2147483647 h
integer_to (negsuc n) h = let below = leb-true n 2147483646 (and_parts (leb n 2147483646) _ h).0 in omega arith

boolean_from : (n : ℕ) → n ≤ 1 → in_host true (pos n) ≡ true
boolean_from n h = and_from _ _ (le-leb 0 n (omega arith)) (le-leb n 1 h)

pub boolean_to : (z : ℤ) → in_host true z ≡ true → (n : ℕ) × (z ≡ pos n) × (n ≤ 1)
boolean_to (pos n) h = (n, refl, leb-true n 1 (and_parts (leb 0 n) _ h).1)
boolean_to (negsuc n) h = absurd (true≢false (sym h))

truth_is_boolean : (b : Bool) → in_host true (truth b) ≡ true
truth_is_boolean true = refl
truth_is_boolean false = refl

-- ---- results

same_result : (x y : ℤ) → ◌≡◌ {A = Result ℤ Kind} (Ok x) (Ok y) → x ≡ y
same_result x y h = cc

no_result : (k : Kind) (z : ℤ) → ◌≡◌ {A = Result ℤ Kind} (Err k) (Ok z) → ⊥
no_result k z h = cc

checked_result : (fits : ℤ → Bool) (k : Kind) (x z : ℤ) → checked fits k x ≡ Ok z → fits z ≡ true
checked_result fits k x z h =
    elim (cases_Bool (fits x)) [
      | inl e ↦ subst (λ w. fits w ≡ true) (same_result x z (sym (cond-true (fits x) (Ok x) (Err k) e) ∙ h)) e
      | inr e ↦ absurd (no_result k z (sym (cond-false (fits x) (Ok x) (Err k) e) ∙ h))
    ]

at_result : (b : Bool) (x z : ℤ) → in_host b x ≡ true → ◌≡◌ {A = Result ℤ Kind} (Ok x) (Ok z) → in_host b z ≡ true
at_result b x z h e = subst (λ w. in_host b w ≡ true) (same_result x z e) h

abs_neg : (n : ℕ) → unsigned_abs (neg_ℤ (pos n)) ≡ n
abs_neg zero = refl
abs_neg (suc n) = refl

abs_negated : (x : ℤ) → unsigned_abs (neg_ℤ x) ≡ unsigned_abs x
abs_negated (pos zero) = refl
abs_negated (pos (suc n)) = refl
abs_negated (negsuc n) = refl

abs_quotient : (x y : ℤ) → unsigned_abs (int_div x y) ≤ unsigned_abs x
abs_quotient (pos a) (pos b) = div-le_self a b
abs_quotient (pos a) (negsuc b) = subst (λ n. n ≤ a) (sym (abs_neg (a / suc b))) (div-le_self a (suc b))
abs_quotient (negsuc a) (pos b) = subst (λ n. n ≤ suc a) (sym (abs_neg (suc a / b))) (div-le_self (suc a) b)
abs_quotient (negsuc a) (negsuc b) = div-le_self (suc a) (suc b)

abs_modulus : (x : ℤ) (b : ℕ) → 0 < b → unsigned_abs (int_rem_euclid x (pos b)) ≤ b
abs_modulus (pos a) b h = let below : a % b < b = omega arith in omega arith
abs_modulus (negsuc a) b h = omega arith

positive_is : (y : ℤ) → int_lt (pos 0) y ≡ true → (b : ℕ) × (y ≡ pos b) × (0 < b)
positive_is (pos b) h = (b, refl, ltb-true 0 b h)
positive_is (negsuc b) h = absurd (true≢false (sym h))

modulus_fits : (x y z : ℤ) → in_host false y ≡ true → modulus x y ≡ Ok z → in_host false z ≡ true
modulus_fits x y z fits h =
    elim (cases_Bool (int_lt (pos 0) y)) [
      | inl e ↦
          let b = positive_is y e in
          let bound = integer_to y fits in
          let is = ap unsigned_abs b.1 in
          let result = abs_modulus x b.0 b.2 in
          let small : unsigned_abs (int_rem_euclid x y) ≤ 2147483647 = subst (λ w. unsigned_abs (int_rem_euclid x w) ≤ 2147483647) (sym b.1) (le_trans result (subst (λ n. n ≤ 2147483647) is bound)) in
          at_result false (int_rem_euclid x y) z (integer_from (int_rem_euclid x y) small) (sym (cond-true (int_lt (pos 0) y) (Ok (int_rem_euclid x y)) (Err kinds.ModulusNotPositive) e) ∙ h)
      | inr e ↦ absurd (no_result _ z (sym (cond-false (int_lt (pos 0) y) (Ok (int_rem_euclid x y)) (Err kinds.ModulusNotPositive) e) ∙ h))
    ]

quotient_fits : (x y z : ℤ) → in_host false x ≡ true → quotient x y ≡ Ok z → in_host false z ≡ true
quotient_fits x y z fits h =
    elim (cases_Bool (int_eq y (pos 0))) [
      | inl e ↦ absurd (no_result _ z (sym (cond-true (int_eq y (pos 0)) (Err kinds.DivisionByZero) (Ok (int_div x y)) e) ∙ h))
      | inr e ↦
          at_result false (int_div x y) z (integer_from (int_div x y) (le_trans (abs_quotient x y) (integer_to x fits)))
          (sym (cond-false (int_eq y (pos 0)) (Err kinds.DivisionByZero) (Ok (int_div x y)) e) ∙ h)
    ]

negation_at : (n : ℕ) → n ≤ 1 → in_host true (pos 1 -ℤ pos n) ≡ true
negation_at zero h = refl
negation_at (suc zero) h = refl
negation_at (suc (suc n)) h = absurd (omega arith)

negation_fits : (x z : ℤ) → in_host true x ≡ true → negation x ≡ Ok z → in_host true z ≡ true
negation_fits x z fits h =
    let b = boolean_to x fits in
    at_result true (pos 1 -ℤ x) z (subst (λ w. in_host true (pos 1 -ℤ w) ≡ true) (sym b.1) (negation_at b.0 b.2))
    (sym (cond-true (is_boolean x) (Ok (pos 1 -ℤ x)) (Err kinds.NoResult) fits) ∙ h)

-- a Boolean is an integer
widened : (boolean : Bool) (x : ℤ) → in_host boolean x ≡ true → in_host false x ≡ true
widened false x h = h
widened true x h = let b = boolean_to x h in subst (λ w. in_host false w ≡ true) (sym b.1) (integer_from (pos (b.0)) (le_trans b.2 (omega arith)))

chosen : (b c : Bool) (x y : ℤ) → in_host b x ≡ true → in_host b y ≡ true → in_host b (cond c x y) ≡ true
chosen b true x y h k = h
chosen b false x y h k = k

host_is : (b : Bool) → not b ≡ true → b ≡ false
host_is false h = refl
host_is true h = absurd (true≢false (sym h))

at_host : (a b : Bool) (x : ℤ) → b ≡ a → in_host b x ≡ true → in_host a x ≡ true
at_host a b x e h = subst (λ c. in_host c x ≡ true) e h

-- ---- every operator

pub unary_in_host : (op : UnOp) (b : Bool) (x z : ℤ) → unary_takes op b ≡ true → in_host b x ≡ true → unary_result op x ≡ Ok z → in_host (unary_gives op) z ≡ true
unary_in_host unary.Neg b x z takes fits h = at_result false (neg_ℤ x) z (integer_from (neg_ℤ x) (subst (λ n. n ≤ 2147483647) (sym (abs_negated x)) (integer_to x (at_host false b x (host_is b takes) fits)))) h
unary_in_host unary.Not b x z takes fits h = negation_fits x z (at_host true b x takes fits) h
unary_in_host unary.Abs b x z takes fits h = at_result false (pos (unsigned_abs x)) z (integer_from (pos (unsigned_abs x)) (integer_to x (at_host false b x (host_is b takes) fits))) h
unary_in_host unary.Sqr b x z takes fits h = checked_result is_number kinds.Overflow (x *ℤ x) z h
unary_in_host unary.Odd b x z takes fits h = at_result true _ z (truth_is_boolean (unsigned_abs x % 2 == 1)) h
unary_in_host unary.SuccInt b x z takes fits h = checked_result is_number kinds.NoNeighbour (x +ℤ pos 1) z h
unary_in_host unary.PredInt b x z takes fits h = checked_result is_number kinds.NoNeighbour (x -ℤ pos 1) z h
unary_in_host unary.SuccBool b x z takes fits h = checked_result is_boolean kinds.NoNeighbour (x +ℤ pos 1) z h
unary_in_host unary.PredBool b x z takes fits h = checked_result is_boolean kinds.NoNeighbour (x -ℤ pos 1) z h
unary_in_host unary.OrdOf b x z takes fits h = at_result false x z (widened b x fits) h

both_false : (a b : Bool) → (not a && not b) ≡ true → (a ≡ false) × (b ≡ false)
both_false false false h = (refl, refl)
both_false false true h = absurd (true≢false (sym h))
both_false true b h = absurd (true≢false (sym h))

pub binary_in_host : (op : BinOp) (a b : Bool) (x y z : ℤ) → binary_takes op a b ≡ true → in_host a x ≡ true → in_host b y ≡ true → binary_result op x y ≡ Ok z → in_host (binary_gives op) z ≡ true
binary_in_host binary.Add a b x y z takes p q h = checked_result is_number kinds.Overflow (x +ℤ y) z h
binary_in_host binary.Sub a b x y z takes p q h = checked_result is_number kinds.Overflow (x -ℤ y) z h
binary_in_host binary.Mul a b x y z takes p q h = checked_result is_number kinds.Overflow (x *ℤ y) z h
binary_in_host binary.Div a b x y z takes p q h = quotient_fits x y z (at_host false a x (both_false a b takes).0 p) h
binary_in_host binary.Mod a b x y z takes p q h = modulus_fits x y z (at_host false b y (both_false a b takes).1 q) h
binary_in_host binary.And a b x y z takes p q h = at_result true (int_min x y) z (chosen true (int_lt y x) y x (at_host true b y (and_parts a b takes).1 q) (at_host true a x (and_parts a b takes).0 p)) h
binary_in_host binary.Or a b x y z takes p q h = at_result true (int_max x y) z (chosen true (int_lt y x) x y (at_host true a x (and_parts a b takes).0 p) (at_host true b y (and_parts a b takes).1 q)) h
binary_in_host binary.Eq a b x y z takes p q h = at_result true _ z (truth_is_boolean (int_eq x y)) h
binary_in_host binary.Ne a b x y z takes p q h = at_result true _ z (truth_is_boolean (not (int_eq x y))) h
binary_in_host binary.Lt a b x y z takes p q h = at_result true _ z (truth_is_boolean (int_lt x y)) h
binary_in_host binary.Le a b x y z takes p q h = at_result true _ z (truth_is_boolean (int_le x y)) h
binary_in_host binary.Gt a b x y z takes p q h = at_result true _ z (truth_is_boolean (int_lt y x)) h
binary_in_host binary.Ge a b x y z takes p q h = at_result true _ z (truth_is_boolean (int_le y x)) h
