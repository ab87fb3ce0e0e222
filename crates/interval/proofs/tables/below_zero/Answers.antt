use Rattle.std.proofs.Common.{refl, ap, ◌∙◌, pos}
use Rattle.interval.specs.Intervals.{number_by_test, canonical_in_order, is_in}
use Rattle.interval.proofs.Signs.{below_zero-nonzero}
use Rattle.interval.proofs.tables.below_zero.Goals as goal

pub invariant_of-meet : goal.invariant_of-meet
invariant_of-meet c = record {
  lo_in_range = number_by_test _ refl;
  hi_in_range = number_by_test _ refl;
  canonical = canonical_in_order _ _ refl;
}

pub returns-clause-nonzero : goal.returns-clause-nonzero
returns-clause-nonzero c = ap (λ y. is_in y (pos 0)) c.meet.ensures ∙ below_zero-nonzero c.args.y
