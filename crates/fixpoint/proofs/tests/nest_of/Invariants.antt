use Rattle.std.proofs.Common.{◌≡◌, ℕ, ◌<◌, length}
use Rattle.std.specs.Prelude.{slice_index}
use Rattle.fixpoint.proofs.tests.nest_of.Given as goal

abbrev pub invariant-loop-node : goal.invariant-loop-node
invariant-loop-node l = record {
  all : length l.nodes.items ≡ l.node;
  own : (k : ℕ) → k < l.node → slice_index l.nodes.items k ≡ k;
  as_many : length l.ends.items ≡ l.node;
  last : (k : ℕ) → k < l.node → slice_index l.ends.items k ≡ l.count;
}
