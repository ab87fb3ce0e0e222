-- What a table says of a point over all classes of its routine.
use Rattle.std.specs.Prelude.{◌≡◌, ℕ, Bool, List, filter, fold, length, map, nat_eq, Some, true}
use Rattle.std.specs.List.{list_any, range_with_len}
use Rattle.interval.specs.declared.val.Val.{Val}
use Rattle.interval.specs.Values.{nothing, val_join}
use Rattle.environment.specs.Environments.{env_ops, is_reachable, value_at}
use Rattle.control_points.specs.declared.flow.Flow.{Flow}
use Rattle.control_points.specs.Fits.{routine_at}
use Rattle.pas_program.specs.Checked.{tables}
use Rattle.pas_program.specs.Tables.{is_visible}
use Rattle.alias_class.specs.Outlines.{outline_of}
use Rattle.activations.specs.Drawn.{Drawn}
use Rattle.activations.specs.Fitting.{ArcsFit, class_number, point_number}
use Rattle.abstract_expr.specs.Standing.{binds}
use Rattle.fixpoint.specs.System.{element}
use Rattle.transfer_fwd.specs.Forward.{Table}
use Rattle.transfer_fwd.specs.Systems.{FitsGraph}

module _ (g : Drawn) where
  -- those of the first n nodes that are of a point, in order of number
  abbrev pub first_nodes_at : ℕ → ℕ → List ℕ
  first_nodes_at n point = filter (λ node. nat_eq (point_number g node) point) (range_with_len 0 n)

  -- the nodes of a point: one for each class of its routine
  abbrev pub nodes_at : ℕ → List ℕ
  nodes_at point = first_nodes_at (length g.nodes) point

  -- the point is reached in some class
  abbrev pub is_reached : Table → ℕ → Bool
  is_reached table point = list_any (λ node. is_reachable (element env_ops table node)) (nodes_at point)

  -- what a variable may hold at a node; nothing where that is not reached
  abbrev pub held : Table → ℕ → ℕ → Val
  held table var node = value_at (element env_ops table node) (binds g.table (class_number g node) var).cell

  -- what it may hold at a point, joined over all classes
  abbrev pub joined : Table → ℕ → ℕ → Val
  joined table point var = fold (λ v node. val_join v (held table var node)) nothing (nodes_at point)

-- The graph fits the flow, and both tables are of its nodes.
pub record AreTables (f : Flow) (g : Drawn) (plain way : Table) : Type 0 where
  pub outline : g.table.outline ≡ outline_of f
  pub graph : ArcsFit f g
  pub plain_fits : FitsGraph g plain
  pub way_fits : FitsGraph g way

-- for each of so many points its nodes
abbrev pub nodes_by_point : Drawn → ℕ → List (List ℕ)
nodes_by_point g points = map (nodes_at g) (range_with_len 0 points)

-- the variable is in scope in the routine of a point
abbrev pub SeesVariable : Flow → ℕ → ℕ → Type 0
SeesVariable f point v = (r : ℕ) → routine_at f.points point ≡ Some r → is_visible (tables f.program) r v ≡ true
