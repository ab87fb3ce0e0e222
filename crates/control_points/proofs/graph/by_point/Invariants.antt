use Rattle.std.proofs.Common.{◌≡◌, ℕ, ◌<◌, length, take, Some}
use Rattle.std.specs.List.{slice_get}
use Rattle.control_points.specs.Listing.{at_end}
use Rattle.control_points.proofs.graph.by_point.Given as goal

abbrev pub invariant-loop-k : goal.invariant-loop-k
invariant-loop-k l = record {
  many : length l.lists.items ≡ l.points;
  each : (p : ℕ) → p < l.points → slice_get l.lists.items p ≡ Some (at_end l.end (take l.k l.edges) p);
}
