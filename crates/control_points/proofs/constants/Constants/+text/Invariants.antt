use Rattle.std.proofs.Common.{◌≡◌, ◌++◌, drop, map}
use Rattle.pas_program.specs.Checked.{tables}
use Rattle.control_points.specs.Marks.{joined}
use Rattle.control_points.specs.Thresholds.{arm_constants, first_different, of_arm, statements_constants}
use Rattle.control_points.proofs.constants.Constants.+text.Given as goal

abbrev pub invariant-sequence-loop-s : goal.invariant-sequence-loop-s
invariant-sequence-loop-s l =
    first_different (l.self.values ++ statements_constants (tables l.program) l.program.asserts (drop l.s-index l.body))
    ≡ first_different (l.initial.self.values ++ statements_constants (tables l.program) l.program.asserts l.body)

abbrev pub invariant-arms-loop-arm : goal.invariant-arms-loop-arm
invariant-arms-loop-arm l =
    first_different (l.self.values ++ joined (map (of_arm l.boolean) (map (arm_constants (tables l.program) l.program.asserts) (drop l.arm-index l.arms))))
    ≡ first_different (l.initial.self.values ++ joined (map (of_arm l.boolean) (map (arm_constants (tables l.program) l.program.asserts) l.arms)))
