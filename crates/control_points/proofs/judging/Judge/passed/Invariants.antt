use Rattle.std.proofs.Common.{◌≡◌, ◌++◌, drop}
use Rattle.control_points.specs.Checking.{passing_checks}
use Rattle.control_points.specs.Judging.{known, judged}
use Rattle.control_points.proofs.judging.Judge.passed.Given as goal

abbrev pub invariant-loop-k : goal.invariant-loop-k
invariant-loop-k l =
    l.checks ++ judged l.self (passing_checks (known l.self) (drop l.k l.actuals) (drop l.k l.formals))
    ≡ l.initial.checks ++ judged l.self (passing_checks (known l.self) l.actuals l.formals)
