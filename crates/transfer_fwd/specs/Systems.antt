-- The forward equations of all nodes as one system, and what is kept while it is solved.
use Rattle.std.specs.Prelude.{◌≡◌, ℕ, ◌<◌, ◌≤◌, Bool, List, Some, fold, length, map, slice_get}
use Rattle.fixpoint.specs.Reversal.{list_at}
use Rattle.fixpoint.specs.System.{System, element}
use Rattle.environment.specs.Environments.{Environment, cell_count, env_join, env_ops}
use Rattle.environment.specs.Kept.{Roomy}
use Rattle.abstract_expr.specs.Standing.{cells_in}
use Rattle.activations.specs.declared.arc.Arc.{Arc}
use Rattle.activations.specs.Drawn.{Drawn}
use Rattle.activations.specs.Fitting.{point_number}
use Rattle.control_points.specs.declared.edge.Edge.{Edge}
use Rattle.control_points.specs.declared.flow.Flow.{Flow}
use Rattle.transfer_fwd.specs.Forward.{along, cells_at, forward_value}

-- the equations, of which each reads these nodes
abbrev pub forward_system : Flow → Drawn → List (List ℕ) → Bool → Bool → System Environment
forward_system f g lists with_asserts origin = record {
  nodes = length g.nodes;
  reads = list_at lists;
  shape = cells_at g;
  value = λ node table. forward_value f g with_asserts origin node table;
}

-- what environments hold, without their room
abbrev pub environments : List Roomy → List Environment
environments table = map (λ (e : Roomy). e.env) table

-- A table has an environment of each node, with the cells of its class.
pub record FitsGraph (g : Drawn) (table : List Environment) : Type 0 where
  pub size : length table ≡ length g.nodes
  pub cells : (node : ℕ) → node < length g.nodes → cell_count (element env_ops table node) ≡ cells_at g node

-- there is room for the cells of each class
abbrev pub HasRoomFor : Drawn → ℕ → Type 0
HasRoomFor g room = (class : ℕ) → class < length g.table.classes → cells_in g.table class ≤ room

-- the edge leaves the point of a node
abbrev pub LeavesNode : Flow → Drawn → ℕ → ℕ → Type 0
LeavesNode f g k node = (e : Edge) → slice_get f.edges k ≡ Some e → e.from ≡ point_number g node

-- what comes along several arcs, joined to an environment one by one
abbrev pub all_joined : Flow → Drawn → List Environment → Environment → List Arc → Environment
all_joined f g table env arcs = fold (λ (e : Environment) (a : Arc). env_join e (along f g table a)) env arcs
