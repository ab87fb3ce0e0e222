use Rattle.std.proofs.Common.{◌≡◌, ℕ, ◌+◌, drop, nat_eq}
use Rattle.std.specs.HashMap.{get}
use Rattle.control_points.specs.Labelled.{label_in, or_else}
use Rattle.control_points.proofs.labels.labels_of.Given as goal

abbrev pub invariant-loop-k : goal.invariant-loop-k
invariant-loop-k l = (n : ℕ) → or_else (get nat_eq l.points n) (label_in (l.first + l.k) (drop l.k l.marks) n) ≡ label_in l.first l.marks n
