use Rattle.std.proofs.Common.{◌∙◌}
use Rattle.px_base.specs.declared.kind.Kind.TheVariants.{ValueOutOfRange}
use Rattle.control_points.specs.Judgements.{expr_judgements, in_type}
use Rattle.abstract_expr.specs.Judging.{known}
use Rattle.abstract_expr.specs.Tallies.{tallied}
use Rattle.abstract_expr.proofs.JudgedSteps.{then_parts, typed_judged}
use Rattle.abstract_expr.proofs.judge.Judge.assigned.Goals as goal

pub returns : goal.returns
returns c =
    let j = c.args.self.now in
    let k = known j in
    let e = c.args.e.now in
    let n = c.args.of_type in
    let mid = tallied c.expr-x.new.tally c.expr-x.new.marks in
    record {
      verdicts = then_parts j (expr_judgements k e) (in_type k n ValueOutOfRange e) (tallied c.args.tally.now c.args.marks.now) mid (tallied c.in_type.new.tally c.in_type.new.marks)
          c.expr-x.ensures.verdicts (c.in_type.ensures ∙ typed_judged j n ValueOutOfRange e c.expr-x.result mid c.expr-x.ensures.value);
    }
