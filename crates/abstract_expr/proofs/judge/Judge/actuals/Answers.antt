use Rattle.std.proofs.Common.{◌+◌, sym, ap, ◌∙◌, drop, get_or, arith}
use Rattle.pas_program.specs.declared.expr.Actual.TheViews.{out-Actual}
use Rattle.pas_program.specs.Each.{each_actual}
use Rattle.control_points.specs.Judgements.{actual_judgements, passing_judgements}
use Rattle.abstract_expr.specs.Judging.{after_parts, known, seen_by}
use Rattle.abstract_expr.specs.Tallies.{tallied}
use Rattle.abstract_expr.proofs.JudgedSteps.{all_true_at, passing_done, passing_more, step_parts}
use Rattle.abstract_expr.proofs.judge.Judge.actuals.Goals as goal

pub actual-requires : goal.actual-requires
actual-requires c =
    record { seen = all_true_at (each_actual (seen_by c.args.self.now)) c.args.actuals.now c.loop-k.k c.index-actuals-k.result (omega arith) c.index-actuals-k.is c.requires.seen }

pub loop-k-preserved : goal.loop-k-preserved
loop-k-preserved c =
    let j = c.args.self.now in
    let t = known j in
    let xs = c.args.actuals.now in
    let fs = c.args.formals.now in
    let k = c.loop-k.k in
    step_parts j (actual_judgements t (get_or fs k 0) (out-Actual c.index-actuals-k.result)) (passing_judgements t (drop (k + 1) xs) (drop (k + 1) fs)) (passing_judgements t (drop k xs) (drop k fs))
    (tallied c.loop-k.tally c.loop-k.marks) (tallied c.actual.new.tally c.actual.new.marks) _
    (passing_more t xs fs k c.index-actuals-k.result (omega arith) (omega arith) c.index-actuals-k.is) c.actual.ensures.verdicts c.loop-k.invariant

pub returns : goal.returns
returns c =
    let j = c.args.self.now in
    let done = passing_done (known j) c.args.actuals.now c.args.formals.now c.loop-k.k (omega arith) in
    record { verdicts = ap (λ js. after_parts j js (tallied c.loop-k.tally c.loop-k.marks)) (sym done) ∙ c.loop-k.invariant }
