use Rattle.std.proofs.Common.{◌≡◌, ℕ, ◌<◌, length, map}
use Rattle.std.specs.List.{Contains}
use Rattle.fixpoint.specs.Reversal.{list_at}
use Rattle.fixpoint.proofs.tests.order_of.Given as goal

abbrev pub invariant-loop-node : goal.invariant-loop-node
invariant-loop-node l = (l.edges.nodes ≡ length l.system.equations.now)
    × ((k r : ℕ) → k < l.node → Contains (list_at (map (λ v. v.items) l.system.reads.now) k) r → Contains l.edges.pairs (r, k))
