use Rattle.std.proofs.Common.{◌≡◌, drop}
use Rattle.control_points.specs.Judgements.{assert_judgements}
use Rattle.abstract_expr.specs.Judging.{after_parts}
use Rattle.abstract_expr.specs.Scopes.{program_of}
use Rattle.abstract_expr.specs.Tallies.{tallied}
use Rattle.abstract_expr.proofs.judge.Judge.assertions.Given as goal

abbrev pub invariant-loop-number : goal.invariant-loop-number
invariant-loop-number l =
    after_parts l.self (assert_judgements (program_of l.self.scope).asserts (drop l.number-index l.listed)) (tallied l.tally l.marks)
    ≡ after_parts l.self (assert_judgements (program_of l.self.scope).asserts l.listed) (tallied l.fn.tally l.fn.marks)
