use Rattle.std.proofs.Common.{◌≡◌, ℕ, suc, length, nat_eq, Some}
use Rattle.std.specs.HashMap.{get}
use Rattle.std.specs.List.{slice_get, slice_index, slice_range}
use Rattle.control_points.specs.declared.labels.Labels.{Labels}
use Rattle.control_points.specs.Labelled.{label_in}
use Rattle.control_points.proofs.labels.label_tables.Given as goal

abbrev pub invariant-loop-r : goal.invariant-loop-r
invariant-loop-r l = record {
  many : length l.tables ≡ l.r;
  each : (r : ℕ) (t : Labels) → slice_get l.tables r ≡ Some t → (n : ℕ) → get nat_eq t.points n ≡ label_in (slice_index l.numbering.entries r) (slice_range l.numbering.marks (slice_index l.numbering.entries r) (slice_index l.numbering.entries (suc r))) n;
}
