use Rattle.std.proofs.Common.{◌≡◌, ◌-◌, ◌≤◌, ℕ, List, length}
use Rattle.std.specs.Prelude.{◌↔◌}
use Rattle.px_base.specs.Bytes.{Gives}
use Rattle.px_base.proofs.reading.read_rest.Given as goal

abbrev pub invariant-loop-count : goal.invariant-loop-count
invariant-loop-count g l = record {
  within : length l.bytes.items ≤ l.limit;
  given : Gives (g.P.Shelf.left l.initial.shelf) (g.P.Shelf.left l.shelf) l.bytes.items;
  names : (n : List ℕ) → g.P.Shelf.may_ask l.shelf n ↔ g.P.Shelf.may_ask l.initial.shelf n;
  files : (n : List ℕ) → g.P.Shelf.file l.shelf n ≡ g.P.Shelf.file l.initial.shelf n;
  no_fault : g.P.Shelf.faults l.shelf ≡ g.P.Shelf.faults l.initial.shelf;
}

abbrev pub decreases-loop-count : goal.decreases-loop-count
decreases-loop-count g l = l.limit - length l.bytes.items
