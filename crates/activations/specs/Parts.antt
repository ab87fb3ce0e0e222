-- What is found on the way to a graph: the points of each routine, and the classes with their calls.
use Rattle.std.specs.Prelude.{◌≡◌, ℕ, ◌<◌, ◌≤◌, List, map, length, Some, slice_get}
use Rattle.std.specs.List.{range_with_len}
use Rattle.std.specs.declared.vec.Vec.{Vec}
use Rattle.std.specs.declared.alloc.Global.{Global}
use Rattle.control_points.specs.declared.flow.Flow.{Flow}
use Rattle.control_points.specs.Fits.{routine_at}
use Rattle.alias_class.specs.Cells.{IsClass}
use Rattle.alias_class.specs.Classes.{class_at}
use Rattle.alias_class.specs.Outlines.{outline_of}
use Rattle.activations.specs.declared.discovery.Discovery.{Discovery}
use Rattle.activations.specs.declared.routines.RoutinePoints.{RoutinePoints}
use Rattle.activations.specs.Arcs.{calls}
use Rattle.activations.specs.Calls.{points_of}
use Rattle.activations.specs.Unfolding.{IsWhole, most_cells, size_of, unfolding_of}

-- the lists of a list of lists
abbrev pub lists_of : {A : Type 0} → List (Vec A Global) → List (List A)
lists_of lists = map (λ l. l.items) lists

-- of each routine its points in order, and of each point how many of its routine come before it
pub record ArePointsOf (f : Flow) (r : RoutinePoints) : Type 0 where
  pub lists : lists_of r.lists.items ≡ map (points_of f.points) (range_with_len 0 (length f.program.routines))
  pub ranks : length r.ranks.items ≡ length f.points
  pub ranked : (p s k : ℕ) → routine_at f.points p ≡ Some s → slice_get r.ranks.items p ≡ Some k → slice_get (points_of f.points s) k ≡ Some p

-- all classes of a flow, with their calls by number
pub record IsDiscovery (f : Flow) (d : Discovery) : Type 0 where
  pub outline : d.classes.outline ≡ outline_of f
  pub whole : IsWhole (unfolding_of f d.classes.classes)
  pub valid : (i : ℕ) → i < length d.classes.classes → IsClass d.classes.outline (class_at d.classes.classes i)
  pub within : d.size ≤ most_cells
  pub size : d.size ≡ size_of (unfolding_of f d.classes.classes) d.classes.classes
  pub calls : d.calls.items ≡ calls (unfolding_of f d.classes.classes)
