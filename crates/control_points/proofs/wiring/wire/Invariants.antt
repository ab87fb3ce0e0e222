use Rattle.std.proofs.Common.{drop}
use Rattle.std.specs.List.{slice_index}
use Rattle.control_points.specs.Extents.{routines_sizes}
use Rattle.control_points.specs.Wired.{Begins, IsGraph, points_of}
use Rattle.control_points.specs.Edges.{plan_from, program_piece, routines_piece}
use Rattle.control_points.proofs.Followed.{LeadsTo}
use Rattle.control_points.proofs.wiring.wire.Given as goal

abbrev pub invariant-loop-r : goal.invariant-loop-r
invariant-loop-r l = record {
  sizes : Begins (routines_sizes (drop l.r l.program.routines)) (drop l.order l.numbering.sizes);
  drawn : IsGraph l.program (points_of l.numbering.marks) l.graph.edges l.graph.checks (slice_index l.numbering.entries l.r);
  exact : LeadsTo l.graph (routines_piece (plan_from l.program l.numbering.marks l.numbering.entries) l.r (drop l.r l.program.routines)) (program_piece l.program 0);
}
