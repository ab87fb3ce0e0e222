use Rattle.std.proofs.Common.{sym, subst}
use Rattle.std.specs.List.{flat_map}
use Rattle.std.specs.List.Sorted.{IsStrictlySortedBy}
use Rattle.std.specs.Ordering.{int_cmp}
use Rattle.control_points.specs.Thresholds.{near}
use Rattle.control_points.proofs.Left.{then_if}
use Rattle.control_points.proofs.RisingSteps.{rising_is_sorted}
use Rattle.control_points.proofs.widening.thresholds.Goals as goal

pub returns-clause-sorted : goal.returns-clause-sorted
returns-clause-sorted c = then_if c.steps_of.result c.steps_of.ensures (λ v e. subst (IsStrictlySortedBy int_cmp) (sym e) (rising_is_sorted (flat_map near c.as_slice.result.now)))
