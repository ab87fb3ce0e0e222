-- Which nodes the forward equation of each node reads: those whose actions its incoming arcs are, and of returns the exits.
use Rattle.std.specs.Prelude.{◌≡◌, ℕ, ◌<◌, Bool, List, ◌∷◌, length, nat_eq}
use Rattle.std.specs.List.{flat_map, list_any}
use Rattle.std.specs.List.Sorted.{IsStrictlyIncreasing}
use Rattle.std.specs.Option.{option_to_list}
use Rattle.fixpoint.specs.Reversal.{list_at}
use Rattle.activations.specs.declared.arc.Arc.{Arc}
use Rattle.activations.specs.Drawn.{Drawn}
use Rattle.transfer_fwd.specs.Forward.{incoming_at}

-- by one arc
abbrev pub read_by : Arc → List ℕ
read_by a = a.from ∷ option_to_list a.other

-- by the arcs that lead to a node
abbrev pub all_read : Drawn → ℕ → List ℕ
all_read g node = flat_map read_by (incoming_at g node)

abbrev pub is_in : List ℕ → ℕ → Bool
is_in nodes node = list_any (nat_eq node) nodes

-- The lists have these of each node, in rising order.
pub record AreForwardReads (g : Drawn) (lists : List (List ℕ)) : Type 0 where
  pub as_many : length lists ≡ length g.nodes
  pub rising : (node : ℕ) → node < length g.nodes → IsStrictlyIncreasing (list_at lists node)
  pub members : (node read : ℕ) → node < length g.nodes → is_in (list_at lists node) read ≡ is_in (all_read g node) read
