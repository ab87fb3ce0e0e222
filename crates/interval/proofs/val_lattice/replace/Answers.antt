use Rattle.std.proofs.Common.{◌≡◌, Bool, true, false, ◌&&◌, refl, sym, ◌∙◌, arith, ℤ}
use Rattle.std.proofs.Math.Bool.{beq}
use Rattle.std.proofs.lemmas.Bool.{OnFalse_from, and_parts, not-false}
use Rattle.std.proofs.lemmas.Int.{ints}
use Rattle.std.specs.Ordering.{int_eq}
use Rattle.interval.specs.declared.val.Val.{Val}
use Rattle.interval.specs.Same.{same_bounds}
use Rattle.interval.specs.ValueLaws.{same_parts}
use Rattle.interval.proofs.val_lattice.replace.Goals as goal

same_undef : (a b : Bool) → beq a b ≡ true → a ≡ b
same_undef false false e = refl
same_undef false true e = cc
same_undef true false e = cc
same_undef true true e = refl

same_number : (a b : ℤ) → int_eq a b ≡ true → a ≡ b
same_number a b e = grind (arith, ints)

-- the test of a derived `==`
same_value : (v w : Val) → (beq v.undef w.undef && (int_eq v.itv.lo w.itv.lo && int_eq v.itv.hi w.itv.hi)) ≡ true → v ≡ w
same_value v w e =
    let parts = and_parts _ _ e in
    let bounds = and_parts _ _ parts.1 in
    same_parts v w (same_undef _ _ parts.0) (same_bounds v.itv w.itv (same_number _ _ bounds.0) (same_number _ _ bounds.1))

pub returns-clause-same : goal.returns-clause-same
returns-clause-same c =
    OnFalse_from _ _ (λ e. sym (same_value c.args.place.now c.args.v (not-false _ (sym c.ne-changed.ensures ∙ e))))
