-- What contracts see of a graph, and when it is the unfolding of a flow.
use Rattle.std.specs.Prelude.{◌≡◌, ℕ, ◌≤◌, Bool, List, map, length}
use Rattle.std.specs.List.{range_with_len}
use Rattle.control_points.specs.declared.flow.Flow.{Flow}
use Rattle.alias_class.specs.declared.bind.Link.{Link}
use Rattle.alias_class.specs.Outlines.{outline_of}
use Rattle.alias_class.specs.Tables.{Table}
use Rattle.activations.specs.declared.arc.Arc.{Arc}
use Rattle.activations.specs.declared.discovery.Call.{Call}
use Rattle.activations.specs.declared.fault.UnfoldFault.{UnfoldFault}
use Rattle.activations.specs.declared.fault.UnfoldFault.TheVariants.{TooMany, Memory}
use Rattle.activations.specs.declared.node.Node.{Node}
use Rattle.activations.specs.Arcs.{arcs, arcs_from, arcs_into, calls, links}
use Rattle.activations.specs.Silence.{AreLeft}
use Rattle.activations.specs.Unfolding.{IsTooMany, IsWhole, Unfolding, most_cells, nodes_of, size_of, unfolding_of}
use Rattle.alias_class.specs.Classes.{Class}

pub record Drawn : Type 0 where
  -- the classes, each at its number
  pub table : Table
  -- the class and the point of each node
  pub nodes : List Node
  -- of each node the arcs that lead to it, and those that leave it
  pub incoming : List (List Arc)
  pub outgoing : List (List Arc)
  -- the calls by number, and the links of each
  pub calls : List Call
  pub links : List (List Link)
  -- of each class, whether one of its reach has a `goto` to a label of another routine
  pub left : List Bool
  -- the sum over the nodes of one and the cells of the node's class
  pub size : ℕ

-- of each node what `at` says of all arcs
abbrev pub at_nodes : Unfolding → (List Arc → ℕ → List Arc) → List (List Arc)
at_nodes u at = map (at (arcs u)) (range_with_len 0 (length (nodes_of u)))

pub record IsUnfoldingOf (u : Unfolding) (g : Drawn) : Type 0 where
  pub whole : IsWhole u
  pub within : size_of u u.classes ≤ most_cells
  pub size : g.size ≡ size_of u u.classes
  pub nodes : g.nodes ≡ nodes_of u
  pub incoming : g.incoming ≡ at_nodes u arcs_into
  pub outgoing : g.outgoing ≡ at_nodes u arcs_from
  pub calls : g.calls ≡ calls u
  pub links : g.links ≡ links u
  pub left : AreLeft u g.left

-- The graph is the unfolding of the flow.
pub record IsUnfolding (f : Flow) (g : Drawn) : Type 0 where
  pub outline : g.table.outline ≡ outline_of f
  pub unfolded : IsUnfoldingOf (unfolding_of f g.table.classes) g

-- why a flow has no unfolding: it would have too many cells, or memory was lacking
abbrev pub IsCause : Flow → UnfoldFault → Type 0
IsCause f (TooMany cells) = (classes : List Class) × IsTooMany (unfolding_of f classes) cells
IsCause f (Memory error) = Unit {0}
