-- The graph as the second walk has drawn it up to a point.
use Rattle.std.specs.Prelude.{ℕ, ◌+◌, ◌<◌, ◌≤◌, List, drop}
use Rattle.control_points.specs.declared.graph.Graph.{Graph}
use Rattle.control_points.specs.declared.point.Point.{Point}
use Rattle.control_points.specs.declared.scene.Scene.{Scene}
use Rattle.control_points.specs.declared.wiring.Stand.{Stand}
use Rattle.control_points.specs.Edges.{plan_from}
use Rattle.control_points.specs.Pieces.{Plan}
use Rattle.control_points.specs.Wired.{IsGraph, Begins, points_of}

abbrev pub points_in : Scene → List Point
points_in s = points_of s.numbering.now.marks

-- what the numbers in the scene stand for
abbrev pub plan_in : Scene → Plan
plan_in s = plan_from s.program.now s.numbering.now.marks s.numbering.now.entries

-- what is drawn fits, and no check is of a point behind n
abbrev pub IsDrawn : Scene → Graph → ℕ → Type 0
IsDrawn s g n = IsGraph s.program.now (points_in s) g.edges g.checks n

-- the sizes from the place k on begin with these
abbrev pub SizesAt : Scene → ℕ → List ℕ → Type 0
SizesAt s k sizes = Begins sizes (drop k s.numbering.now.sizes)

-- what stands there has n points, between the entry and the exit of the routine; and a point of it follows
pub record StandsAt (s : Scene) (stand : Stand) (n : ℕ) : Type 0 where
  pub low : s.entry < stand.here
  pub room : stand.here + n ≤ s.exit
  pub next_low : s.entry < stand.next
  pub next_high : stand.next ≤ s.exit
