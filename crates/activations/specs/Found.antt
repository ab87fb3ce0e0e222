-- What is found step by step: the points of each routine, and the classes that a class calls.
use Rattle.std.specs.Prelude.{◌≡◌, ℕ, suc, ◌≤◌, List, ◌++◌, fold, map, take, length, Some, slice_get}
use Rattle.std.specs.List.{flat_map, range_with_len}
use Rattle.control_points.specs.declared.flow.Flow.{Flow}
use Rattle.control_points.specs.Fits.{routine_at}
use Rattle.alias_class.specs.Calls.{callee}
use Rattle.alias_class.specs.Cells.{routine_of}
use Rattle.alias_class.specs.Classes.{class_at, same_class}
use Rattle.alias_class.specs.Distinct.{with_member}
use Rattle.alias_class.specs.Outlines.{outline_of}
use Rattle.activations.specs.declared.discovery.Call.{Call}
use Rattle.activations.specs.declared.discovery.Discovery.{Discovery}
use Rattle.activations.specs.declared.routines.RoutinePoints.{RoutinePoints}
use Rattle.activations.specs.Arcs.{call_of}
use Rattle.activations.specs.Calls.{points_of, sites_of}
use Rattle.activations.specs.Parts.{lists_of}
use Rattle.activations.specs.Unfolding.{AreKnown, Unfolding, most_cells, size_of, unfolding_of}

-- the first n points of a flow by their routines, and of each how many of its routine come before it
pub record AreFirstPoints (f : Flow) (n : ℕ) (r : RoutinePoints) : Type 0 where
  pub lists : lists_of r.lists.items ≡ map (points_of (take n f.points)) (range_with_len 0 (length f.program.routines))
  pub ranks : length r.ranks.items ≡ n
  pub ranked : (p s k : ℕ) → routine_at (take n f.points) p ≡ Some s → slice_get r.ranks.items p ≡ Some k → slice_get (points_of (take n f.points) s) k ≡ Some p

-- Between the two, the class of the number i has made its calls at these edges, in order: each callee is a class where it is none yet.
pub record HasEntered (f : Flow) (i : ℕ) (edges : List ℕ) (old new : Discovery) : Type 0 where
  pub outline : new.classes.outline ≡ old.classes.outline
  pub classes : new.classes.classes ≡ fold (with_member same_class) old.classes.classes (map (callee (outline_of f) f.edges (class_at old.classes.classes i)) edges)
  pub calls : new.calls.items ≡ old.calls.items ++ map (λ k. call_of (unfolding_of f new.classes.classes) (record { caller = i; edge = k })) edges
  pub size : new.size ≡ old.size

-- the calls of the class of a number, in order of their points
abbrev pub calls_of_class : Unfolding → ℕ → List Call
calls_of_class u i = map (λ k. call_of u (record { caller = i; edge = k })) (sites_of u.points u.edges (routine_of u.outline (class_at u.classes i)))

-- The first n classes are counted and have made their calls.
pub record IsFound (f : Flow) (n : ℕ) (d : Discovery) : Type 0 where
  pub outline : d.classes.outline ≡ outline_of f
  pub known : AreKnown (unfolding_of f d.classes.classes) n
  pub number : n ≤ length d.classes.classes
  pub within : d.size ≤ most_cells
  pub size : d.size ≡ size_of (unfolding_of f d.classes.classes) (take n d.classes.classes)
  pub calls : d.calls.items ≡ flat_map (calls_of_class (unfolding_of f d.classes.classes)) (range_with_len 0 n)
  -- there is a call for each class but the first, and a point for each call
  pub called : length d.classes.classes ≤ suc (length d.calls.items)
  pub few : length d.calls.items ≤ d.size
