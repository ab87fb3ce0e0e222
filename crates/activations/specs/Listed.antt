-- How the nodes and arcs of a graph are kept.
use Rattle.std.specs.Prelude.{◌≡◌, ℕ, ◌+◌, ◌<◌, ◌^◌, List, map, length, Some, slice_get}
use Rattle.std.specs.List.{range_with_len}
use Rattle.activations.specs.declared.arc.Arc.{Arc}
use Rattle.activations.specs.declared.arcs.Arcs.{Arcs}
use Rattle.activations.specs.declared.nodes.Nodes.{Nodes}
use Rattle.activations.specs.Arcs.{arcs_from, arcs_into}
use Rattle.activations.specs.Parts.{lists_of}
use Rattle.activations.specs.Unfolding.{Unfolding, nodes_of}

-- the arcs, at each of so many nodes those that lead to it and those that leave it
pub record AreListed (nodes : ℕ) (arcs : List Arc) (listed : Arcs) : Type 0 where
  pub incoming : lists_of listed.incoming.items ≡ map (arcs_into arcs) (range_with_len 0 nodes)
  pub outgoing : lists_of listed.outgoing.items ≡ map (arcs_from arcs) (range_with_len 0 nodes)

-- the node of the class i and the point p has the number n
pub record HasNumber (ns : Nodes) (i p n : ℕ) : Type 0 where
  pub first : ℕ
  pub rank : ℕ
  pub begins : slice_get ns.firsts.items i ≡ Some first
  pub ranked : slice_get ns.ranks.items p ≡ Some rank
  pub number : n ≡ first + rank

-- The node of a class and a point stands as far behind the first of its class as the point is behind the first of its routine.
pub record AreNumbered (ns : Nodes) : Type 0 where
  pub few : length ns.list.items < 2 ^ 32
  pub numbered : (n i p : ℕ) → slice_get ns.list.items n ≡ Some (record { class = i; point = p }) → HasNumber ns i p n

pub record AreNodesOf (u : Unfolding) (ns : Nodes) : Type 0 where
  pub listed : ns.list.items ≡ nodes_of u
  pub numbered : AreNumbered ns
