use Rattle.std.proofs.Common.{◌≡◌, drop}
use Rattle.control_points.specs.Judgements.{passing_judgements}
use Rattle.abstract_expr.specs.Judging.{after_parts, known}
use Rattle.abstract_expr.specs.Tallies.{tallied}
use Rattle.abstract_expr.proofs.judge.Judge.actuals.Given as goal

abbrev pub invariant-loop-k : goal.invariant-loop-k
invariant-loop-k l =
    after_parts l.self (passing_judgements (known l.self) (drop l.k l.actuals) (drop l.k l.formals)) (tallied l.tally l.marks)
    ≡ after_parts l.self (passing_judgements (known l.self) l.actuals l.formals) (tallied l.fn.tally l.fn.marks)
