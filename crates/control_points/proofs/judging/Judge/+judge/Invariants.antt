use Rattle.std.proofs.Common.{◌≡◌, ◌++◌, map, drop}
use Rattle.control_points.specs.Checking.{subscripts_checks, checked_expr}
use Rattle.control_points.specs.Judging.{known, judged}
use Rattle.control_points.proofs.judging.Judge.+judge.Given as goal

abbrev pub invariant-subscripts-loop-e : goal.invariant-subscripts-loop-e
invariant-subscripts-loop-e l =
    l.checks ++ judged l.self (subscripts_checks (known l.self) l.t (map (checked_expr (known l.self)) (drop l.e-index l.subscripts)))
    ≡ l.initial.checks ++ judged l.self (subscripts_checks (known l.self) l.of_type (map (checked_expr (known l.self)) l.subscripts))
