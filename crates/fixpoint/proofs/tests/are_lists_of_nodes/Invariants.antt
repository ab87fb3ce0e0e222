use Rattle.std.proofs.Common.{ℕ, ◌<◌, map}
use Rattle.std.specs.List.{Contains}
use Rattle.fixpoint.specs.Reversal.{list_at}
use Rattle.fixpoint.proofs.tests.are_lists_of_nodes.Given as goal

abbrev pub invariant-loop-list : goal.invariant-loop-list
invariant-loop-list l = (k r : ℕ) → k < l.list-index → Contains (list_at (map (λ v. v.items) l.lists) k) r → r < l.nodes
