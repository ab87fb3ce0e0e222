use Rattle.std.proofs.Common.{refl, ap, subst, sym, ◌∙◌, pos, ◌≤ℤ◌}
use Rattle.interval.specs.Intervals.{number_by_test, canonical_in_order, is_in}
use Rattle.interval.proofs.Signs.{above_zero-nonzero, above_zero-least}
use Rattle.interval.proofs.tables.above_zero.Goals as goal

pub invariant_of-meet : goal.invariant_of-meet
invariant_of-meet c = record {
  lo_in_range = number_by_test _ refl;
  hi_in_range = number_by_test _ refl;
  canonical = canonical_in_order _ _ refl;
}

pub returns-clause-nonzero : goal.returns-clause-nonzero
returns-clause-nonzero c = ap (λ y. is_in y (pos 0)) c.meet.ensures ∙ above_zero-nonzero c.args.y

pub returns-clause-least : goal.returns-clause-least
returns-clause-least c = subst (λ y. pos 1 ≤ℤ y.lo) (sym c.meet.ensures) (above_zero-least c.args.y)
