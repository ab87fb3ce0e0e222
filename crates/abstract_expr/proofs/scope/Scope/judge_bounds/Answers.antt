use Rattle.std.proofs.Common.{◌≡◌, ◌++◌, true, false, sym, ap, ◌∙◌}
use Rattle.px_base.specs.declared.kind.Kind.TheVariants.{ValueOutOfRange}
use Rattle.pas_program.specs.declared.expr.Actual.TheViews.{out-Expr}
use Rattle.pas_program.specs.Checked.{tables}
use Rattle.control_points.specs.Checking.{is_narrow}
use Rattle.control_points.specs.Judgements.{constants_at, expr_judgements, first_bound, last_bound, one_if}
use Rattle.abstract_expr.specs.Judging.{turns_of}
use Rattle.abstract_expr.specs.Scopes.{scope_of}
use Rattle.abstract_expr.specs.Tallies.{tallied}
use Rattle.abstract_expr.proofs.JudgedSteps.{bounds_free, bounds_judged, then_judged}
use Rattle.abstract_expr.proofs.Shrinking.{less_itself}
use Rattle.abstract_expr.proofs.scope.Scope.judge_bounds.Goals as goal

pub returns-then-is_narrow-clause-verdicts : goal.returns-then-is_narrow-clause-verdicts
returns-then-is_narrow-clause-verdicts c =
    let s = scope_of c.args.self.now in
    let t = s.tables in
    let b = c.args.bounds.now in
    let r = turns_of b in
    let env = c.args.env.now.env in
    let cs = constants_at c.args.self.now.flow.now.edges c.args.point in
    let n = is_narrow (t.type_at b.of_type) in
    let p = (out-Expr b.first.now).first in
    let q = (out-Expr b.last.now).first in
    let old = tallied c.args.tally.now c.args.marks.now in
    let one = tallied c.expr.new.tally c.expr.new.marks in
    let two = tallied c.expr-2.new.tally c.expr-2.new.marks in
    let new = tallied c.judge_turn.new.tally c.judge_turn.new.marks in
    let ends = one_if n ValueOutOfRange p (first_bound r) ++ one_if n ValueOutOfRange q (last_bound r) in
    let narrow : n ≡ true = sym (c.is_narrow.ensures ∙ ap is_narrow (c.type_at.ensures ∙ ap (λ p. (tables p).type_at b.of_type) c.program.ensures)) ∙ c.if-is_narrow.true in
    then_judged s cs env (expr_judgements t b.first.now) (expr_judgements t b.last.now ++ ends) old one new c.expr.ensures.verdicts
    (then_judged s cs env (expr_judgements t b.last.now) ends one two new c.expr-2.ensures.verdicts
    (c.judge_turn.ensures.verdicts ∙ bounds_judged s cs env n p q r two narrow))

pub returns-else-is_narrow-clause-verdicts : goal.returns-else-is_narrow-clause-verdicts
returns-else-is_narrow-clause-verdicts c =
    let s = scope_of c.args.self.now in
    let t = s.tables in
    let b = c.args.bounds.now in
    let r = turns_of b in
    let env = c.args.env.now.env in
    let cs = constants_at c.args.self.now.flow.now.edges c.args.point in
    let n = is_narrow (t.type_at b.of_type) in
    let p = (out-Expr b.first.now).first in
    let q = (out-Expr b.last.now).first in
    let old = tallied c.args.tally.now c.args.marks.now in
    let one = tallied c.expr.new.tally c.expr.new.marks in
    let two = tallied c.expr-2.new.tally c.expr-2.new.marks in
    let ends = one_if n ValueOutOfRange p (first_bound r) ++ one_if n ValueOutOfRange q (last_bound r) in
    let wide : n ≡ false = sym (c.is_narrow.ensures ∙ ap is_narrow (c.type_at.ensures ∙ ap (λ p. (tables p).type_at b.of_type) c.program.ensures)) ∙ c.if-is_narrow.false in
    then_judged s cs env (expr_judgements t b.first.now) (expr_judgements t b.last.now ++ ends) old one two c.expr.ensures.verdicts
    (then_judged s cs env (expr_judgements t b.last.now) ends one two two c.expr-2.ensures.verdicts (bounds_free s cs env n p q r two wide))

pub returns-else-is_narrow-clause-below : goal.returns-else-is_narrow-clause-below
returns-else-is_narrow-clause-below c = (less_itself c.args.env.now.env).below
