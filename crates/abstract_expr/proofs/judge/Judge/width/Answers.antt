use Rattle.std.proofs.Common.{ap, ◌∙◌}
use Rattle.px_base.specs.declared.kind.Kind.TheVariants.{WidthOutOfRange}
use Rattle.pas_program.specs.declared.expr.Actual.TheViews.{out-Expr}
use Rattle.interval.specs.Intervals.{is_within}
use Rattle.control_points.specs.Judgements.{expr_judgements, one, write_width}
use Rattle.abstract_expr.specs.Expressions.{value_in}
use Rattle.abstract_expr.specs.Judging.{known}
use Rattle.abstract_expr.specs.Scopes.{scope_of}
use Rattle.abstract_expr.specs.Tallies.{after_verdict, tallied}
use Rattle.abstract_expr.proofs.JudgedSteps.{then_parts}
use Rattle.abstract_expr.proofs.judge.Judge.width.Goals as goal

pub returns : goal.returns
returns c =
    let j = c.args.self.now in
    let k = known j in
    let e = c.args.width.now in
    let x = value_in (scope_of j.scope).bind j.env.now.env e in
    let mid = tallied c.expr-x.new.tally c.expr-x.new.marks in
    record {
      verdicts = then_parts j (expr_judgements k e) (one WidthOutOfRange (out-Expr e).first (write_width e)) (tallied c.args.tally.now c.args.marks.now) mid (tallied c.add.new.self c.add.new.marks)
          c.expr-x.ensures.verdicts
          (c.add.ensures ∙ ap (after_verdict mid) (c.is_within.ensures ∙ ap (λ y. is_within y c.widths.result) c.expr-x.ensures.value ∙ ap (is_within x) c.widths.ensures));
    }
