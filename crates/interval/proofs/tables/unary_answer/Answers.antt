use Rattle.std.proofs.Common.{refl}
use Rattle.interval.specs.Intervals.{number_by_test, canonical_in_order}
use Rattle.interval.proofs.tables.unary_answer.Goals as goal

pub invariant_of-successor : goal.invariant_of-successor
invariant_of-successor c = record {
  lo_in_range = number_by_test _ refl;
  hi_in_range = number_by_test _ refl;
  canonical = canonical_in_order _ _ refl;
}

pub invariant_of-predecessor : goal.invariant_of-predecessor
invariant_of-predecessor c = record {
  lo_in_range = number_by_test _ refl;
  hi_in_range = number_by_test _ refl;
  canonical = canonical_in_order _ _ refl;
}

pub invariant_of-successor-in-SuccBool : goal.invariant_of-successor-in-SuccBool
invariant_of-successor-in-SuccBool c = record {
  lo_in_range = number_by_test _ refl;
  hi_in_range = number_by_test _ refl;
  canonical = canonical_in_order _ _ refl;
}

pub invariant_of-predecessor-in-PredBool : goal.invariant_of-predecessor-in-PredBool
invariant_of-predecessor-in-PredBool c = record {
  lo_in_range = number_by_test _ refl;
  hi_in_range = number_by_test _ refl;
  canonical = canonical_in_order _ _ refl;
}
