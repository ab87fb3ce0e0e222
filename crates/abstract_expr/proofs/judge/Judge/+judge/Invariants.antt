use Rattle.std.proofs.Common.{◌≡◌, map, drop}
use Rattle.control_points.specs.Judgements.{subscripts_judgements}
use Rattle.abstract_expr.specs.Judging.{after_parts, beside, known}
use Rattle.abstract_expr.specs.Tallies.{tallied}
use Rattle.abstract_expr.proofs.judge.Judge.+judge.Given as goal

abbrev pub invariant-subscripts-loop-subscript : goal.invariant-subscripts-loop-subscript
invariant-subscripts-loop-subscript l =
    after_parts l.self (subscripts_judgements (known l.self) l.t (map (beside (known l.self)) (drop l.subscript-index l.subscripts))) (tallied l.tally l.marks)
    ≡ after_parts l.self (subscripts_judgements (known l.self) l.of_type (map (beside (known l.self)) l.subscripts)) (tallied l.fn.tally l.fn.marks)
