use Rattle.std.proofs.Common.{◌≡◌, ◌≤◌, ◌++◌, drop, length}
use Rattle.control_points.specs.Extents.{routines_sizes}
use Rattle.control_points.specs.Marks.{routines_marks, starts}
use Rattle.control_points.proofs.numbering.Numbering.of_program.Given as goal

abbrev pub invariant-loop-r : goal.invariant-loop-r
invariant-loop-r l = record {
  marks : l.numbering.marks ++ routines_marks l.r (drop l.r l.program.routines) ≡ routines_marks 0 l.program.routines;
  sizes : l.numbering.sizes ++ routines_sizes (drop l.r l.program.routines) ≡ routines_sizes l.program.routines;
  entries : l.numbering.entries ++ starts (length l.numbering.marks) l.r (drop l.r l.program.routines) ≡ starts 0 0 l.program.routines;
  grown : l.r ≤ length l.numbering.marks;
}
