-- The calls of a class, and the classes that they enter.
use Rattle.std.specs.Prelude.{ℕ, Bool, List, map, filter, nat_eq}
use Rattle.std.specs.List.{flat_map}
use Rattle.std.specs.Option.{is_some, option_and_then}
use Rattle.control_points.specs.declared.edge.Edge.{Edge}
use Rattle.control_points.specs.declared.point.Point.{Point}
use Rattle.control_points.specs.Chart.{leaving, numbers_from}
use Rattle.control_points.specs.Fits.{act_at, callee_of}
use Rattle.alias_class.specs.declared.outline.Outline.{Outline}
use Rattle.alias_class.specs.Calls.{callee}
use Rattle.alias_class.specs.Cells.{routine_of}
use Rattle.alias_class.specs.Classes.{Class}

-- ---- of a routine

-- its points, in order of number
abbrev pub points_of : List Point → ℕ → List ℕ
points_of points r = numbers_from 0 (λ (q : Point). nat_eq q.routine r) points

abbrev pub is_call : List Edge → ℕ → Bool
is_call edges k = is_some (option_and_then callee_of (act_at edges k))

-- the edges of the calls that stand at a point
abbrev pub sites_at : List Edge → ℕ → List ℕ
sites_at edges p = filter (is_call edges) (leaving edges p)

-- the edges of the calls that stand in a routine, in order of their points
abbrev pub sites_of : List Point → List Edge → ℕ → List ℕ
sites_of points edges r = flat_map (sites_at edges) (points_of points r)

-- the classes that a class calls, in the same order
abbrev pub callees : List Point → List Edge → Outline → Class → List Class
callees points edges o c = map (callee o edges c) (sites_of points edges (routine_of o c))
