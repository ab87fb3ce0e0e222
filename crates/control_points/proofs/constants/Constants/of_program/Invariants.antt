use Rattle.std.proofs.Common.{◌≡◌, ◌++◌, drop, map}
use Rattle.pas_program.specs.Checked.{tables}
use Rattle.control_points.specs.Marks.{joined}
use Rattle.control_points.specs.Thresholds.{first_different, program_constants, routine_constants}
use Rattle.control_points.proofs.constants.Constants.of_program.Given as goal

abbrev pub invariant-loop-routine : goal.invariant-loop-routine
invariant-loop-routine l =
    first_different (l.found.values ++ joined (map (routine_constants (tables l.program) l.program.asserts) (drop l.routine-index l.program.routines)))
    ≡ first_different (program_constants l.program)
