use Rattle.std.proofs.Common.{[], sym, ◌∙◌, arith}
use Rattle.std.proofs.lemmas.List.{append-nil}
use Rattle.control_points.specs.Judging.{check_of, known}
use Rattle.control_points.proofs.Left.{mapped_step}
use Rattle.control_points.proofs.Passing.{passing_past, passing_more}
use Rattle.control_points.proofs.judging.Judge.passed.Goals as goal
use Rattle.control_points.proofs.judging.Judge.passed.Goals.{then-k-formals+in_ok-actual, else-k-formals}

pub loop-k-preserved : goal.loop-k-preserved
loop-k-preserved c =
    let t = known c.args.self.now in
    elim c.if-k-formals.branch [
      | then-k-formals+in_ok-actual w ↦ mapped_step (check_of c.args.self.now.point) _ _ _ _ _ _ (w.checks-is ∙ w.in_ok-actual.ensures) (passing_more t c.args.actuals.now c.args.formals.now c.loop-k.k c.index-actuals-k.result (omega arith) (omega arith) c.index-actuals-k.is) c.loop-k.invariant
      | else-k-formals w ↦ mapped_step (check_of c.args.self.now.point) c.loop-k.checks _ _ [] _ _ (w.checks-is ∙ sym (append-nil c.loop-k.checks)) (passing_past t c.args.actuals.now c.args.formals.now c.loop-k.k (omega arith) (omega arith)) c.loop-k.invariant
    ]
