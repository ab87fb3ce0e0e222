-- Points with their assertions, edges and checks that are exactly those of a program, in their order.
use Rattle.std.specs.Prelude.{◌≡◌, ℕ, List}
use Rattle.pas_program.specs.declared.program.Program.{Program}
use Rattle.control_points.specs.declared.check.Check.{Check}
use Rattle.control_points.specs.declared.edge.Edge.{Edge}
use Rattle.control_points.specs.declared.point.Point.{Point}
use Rattle.control_points.specs.Edges.{checks_of, edges_of}
use Rattle.control_points.specs.Marks.{routines_marks}
use Rattle.control_points.specs.Wired.{asserts_of, points_of}

pub record IsExact (p : Program) (points : List Point) (asserts : List (List ℕ)) (edges : List Edge) (checks : List Check) : Type 0 where
  pub points_are : points ≡ points_of (routines_marks 0 p.routines)
  pub asserts_are : asserts ≡ asserts_of (routines_marks 0 p.routines)
  pub edges_are : edges ≡ edges_of p
  pub checks_are : checks ≡ checks_of p
