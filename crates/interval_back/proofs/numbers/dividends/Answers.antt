use Rattle.std.proofs.Common.{sym, subst, arith, ◌∙◌, int_div}
use Rattle.std.proofs.lemmas.Int.{ints}
use Rattle.interval.specs.Intervals.{IsIn}
use Rattle.interval_back.proofs.Equal.{same_within}
use Rattle.interval_back.proofs.Kept.{within_has}
use Rattle.interval_back.proofs.Products.{dividend_between}
use Rattle.interval_back.proofs.numbers.dividends.Goals as goal

pub returns-clause-value : goal.returns-clause-value
returns-clause-value c = c.within.ensures ∙ same_within _ (omega (arith, ints)) (omega (arith, ints))

pub returns-clause-kept : goal.returns-clause-kept
returns-clause-kept c a b i j n k =
    let between = dividend_between c.args.y _ _ a b j n (c.product_ends-least.ensures.between (int_div a b) b k j) in
    subst (λ v. IsIn v a) (sym c.within.ensures)
    (within_has _ _ c.args.x a (omega (arith, ints, between.0)) (omega (arith, ints, between.1)) i)
