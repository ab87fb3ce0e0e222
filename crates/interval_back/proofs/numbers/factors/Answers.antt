use Rattle.std.proofs.Common.{◌≡◌, ◌&&◌, sym, subst, ◌∙◌, false, pos}
use Rattle.interval.specs.Intervals.{IsIn, is_in}
use Rattle.interval.specs.IntervalLaws.{meet_has}
use Rattle.interval_back.proofs.Products.{factor_has}
use Rattle.interval_back.proofs.numbers.factors.Goals as goal

pub returns-else-allows_any_factor-clause-kept : goal.returns-else-allows_any_factor-clause-kept
returns-else-allows_any_factor-clause-kept c a b i j k =
    let apart : (is_in c.args.y (pos 0) && is_in c.args.w (pos 0)) ≡ false = sym c.allows_any_factor.ensures ∙ c.if-allows_any_factor.false in
    subst (λ v. IsIn v a) (sym c.meet.ensures)
    (meet_has c.binary.result.value c.args.x a
    (factor_has c.args.w c.args.y c.binary.result.value c.binary.ensures.sound apart a b j k) i)
