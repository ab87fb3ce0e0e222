use Rattle.std.proofs.Common.{◌≡◌, ◌++◌, drop}
use Rattle.control_points.specs.Checking.{assert_checks}
use Rattle.control_points.specs.Judging.{judged}
use Rattle.control_points.proofs.judging.Judge.assertions.Given as goal

abbrev pub invariant-loop-a : goal.invariant-loop-a
invariant-loop-a l =
    l.checks ++ judged l.self (assert_checks l.self.program.now.asserts (drop l.a-index l.listed))
    ≡ l.initial.checks ++ judged l.self (assert_checks l.self.program.now.asserts l.listed)
