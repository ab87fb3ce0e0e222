use Rattle.std.proofs.Common.{◌≡◌, ◌++◌, drop}
use Rattle.pas_program.specs.Checked.{tables}
use Rattle.control_points.specs.Thresholds.{first_different, listed_constants}
use Rattle.control_points.proofs.constants.Constants.assertions.Given as goal

abbrev pub invariant-loop-a : goal.invariant-loop-a
invariant-loop-a l =
    first_different (l.self.values ++ listed_constants (tables l.program) l.program.asserts (drop l.a-index l.listed))
    ≡ first_different (l.initial.self.values ++ listed_constants (tables l.program) l.program.asserts l.listed)
