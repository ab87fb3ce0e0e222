use Rattle.std.proofs.Common.{sym, ◌∙◌, arith}
use Rattle.interp.specs.InputItems as spec
use Rattle.interp.proofs.InputLemmas.{not_all, none_by_digits, none_by_size, decimal_more}
use Rattle.interp.proofs.items.magnitude.Goals as goal
use Rattle.interp.proofs.items.magnitude.Goals.{then-not-is_digit-via-then-not-is_digit, then-not-is_digit-via-else-not-is_digit+then-value-gt214748364}

pub returns-then-not-is_digit-clause-value : goal.returns-then-not-is_digit-clause-value
returns-then-not-is_digit-clause-value c =
    let digits = c.args.digits.now in
    elim c.then-not-is_digit.branch [
      | then-not-is_digit-via-then-not-is_digit w ↦
          none_by_digits digits (not_all spec.is_digit digits c.loop-digit.digit-index c.loop-digit-test.true (sym c.is_digit.ensures ∙ w.if-not-is_digit.true))
      | then-not-is_digit-via-else-not-is_digit+then-value-gt214748364 w ↦
          none_by_size digits (omega (arith, decimal_more digits c.loop-digit.digit-index c.loop-digit-test.true, c.loop-digit.invariant.so_far, w.if-value-gt214748364.true))
    ]
