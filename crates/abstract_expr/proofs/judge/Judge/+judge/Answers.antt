use Rattle.std.proofs.Common.{◌≡◌, ◌++◌, rules, sym, ap, subst, ◌∙◌, true, map}
use Rattle.interval.specs.Forward.{binary_answer, unary_answer}
use Rattle.interval.specs.declared.answer.Answer.{Answer}
use Rattle.pas_program.specs.declared.expr.Actual.TheViews.{out-Access, the_lemmas}
use Rattle.pas_program.specs.declared.expr.ExprForm.TheVariants.{rolls-Binary, rolls-Call, rolls-Const, rolls-Unary, rolls-Value}
use Rattle.pas_program.specs.Checked.{tables}
use Rattle.pas_program.specs.Each.{each_expr}
use Rattle.control_points.specs.Evaluation.{element_type, index_type, var_type}
use Rattle.control_points.specs.Judgements.{binary_judgements, constants_at, expr_judgements, subscripts_judgements, unary_judgements}
use Rattle.abstract_expr.specs.Expressions.{value_in}
use Rattle.abstract_expr.specs.Judging.{after_parts, beside, is_checked, is_checked_alone, known, seen_by}
use Rattle.abstract_expr.specs.Scopes.{scope_of}
use Rattle.abstract_expr.specs.Tallies.{after_verdict_if, tallied}
use Rattle.abstract_expr.proofs.JudgedForms.{access_is, binary_is, call_is, const_is, unary_is, value_is}
use Rattle.abstract_expr.proofs.JudgedSteps.{all_true_at, binary_judged, subscript_judged, then_parts, unary_judged}
use Rattle.abstract_expr.proofs.Parts.{operands_each}
use Rattle.abstract_expr.proofs.judge.Judge.+judge.Goals as goal

pub access-returns : goal.access-returns
access-returns t c =
    let j = c.args.self.now in
    let k = known j in
    let a = c.args.access.now in
    let old = tallied c.args.tally.now c.args.marks.now in
    let v = var_type k (out-Access a).var in
    record {
      verdicts =
          c.subscripts.ensures.verdicts
          ∙ ap (λ n. after_parts j (subscripts_judgements k n (map (beside k) c.as_slice.result.now)) old) (c.var_type-of_type.ensures ∙ ap (λ p. var_type (tables p) (out-Access a).var) c.program.ensures)
          ∙ ap (λ xs. after_parts j (subscripts_judgements k v (map (beside k) xs)) old) c.as_slice.ensures
          ∙ ap (λ js. after_parts j js old) (sym (access_is k a));
    }

pub expr-expr-y-requires : goal.expr-expr-y-requires
expr-expr-y-requires t c =
    let q = seen_by c.args.self.now in (
      search (rules, the_lemmas),
      subst (λ x. each_expr q x ≡ true) (sym c.get-in-Binary-2.ensures) (operands_each q c.args.e.now c.in-Binary.op c.in-Binary.left c.in-Binary.right c.in-Binary.at (c.in-Binary.is ∙ sym (rolls-Binary c.in-Binary.op c.in-Binary.left c.in-Binary.right c.in-Binary.at)) c.requires.seen).1,
    )

pub expr-returns-in-Value-clause-verdicts : goal.expr-returns-in-Value-clause-verdicts
expr-returns-in-Value-clause-verdicts t c =
    let j = c.args.self.now in
    c.used.ensures.verdicts ∙ ap (λ js. after_parts j js (tallied c.args.tally.now c.args.marks.now)) (sym (value_is (known j) c.args.e.now c.in-Value.access (c.in-Value.is ∙ sym (rolls-Value c.in-Value.access))))

pub expr-returns-in-Unary-clause-verdicts : goal.expr-returns-in-Unary-clause-verdicts
expr-returns-in-Unary-clause-verdicts t c =
    let j = c.args.self.now in
    let k = known j in
    let s = scope_of j.scope in
    let op = c.in-Unary.op in
    let x = c.in-Unary.of in
    let old = tallied c.args.tally.now c.args.marks.now in
    let mid = tallied c.expr-x.new.tally c.expr-x.new.marks in
    let new = tallied c.add_if.new.self c.add_if.new.marks in
    let first : mid ≡ after_parts j (expr_judgements k x) old = c.expr-x.ensures.verdicts ∙ ap (λ e. after_parts j (expr_judgements k e) old) c.get.ensures in
    let answer = c.unary-answer.ensures.answer ∙ ap (unary_answer op) (c.expr-x.ensures.value ∙ ap (value_in s.bind j.env.now.env) c.get.ensures) in
    let second : new ≡ after_parts j (unary_judgements op x c.in-Unary.at) mid =
    c.add_if.ensures ∙ ap (λ b. after_verdict_if b mid c.unary-answer.result.holds) c.is_checked_alone.ensures
    ∙ ap (λ (a : Answer). after_verdict_if (is_checked_alone op) mid a.holds) answer
    ∙ unary_judged s (constants_at j.scope.flow.now.edges j.point) j.env.now.env op x c.in-Unary.at mid in
    then_parts j (expr_judgements k x) (unary_judgements op x c.in-Unary.at) old mid new first second
    ∙ ap (λ js. after_parts j js old) (sym (unary_is k c.args.e.now op x c.in-Unary.at (c.in-Unary.is ∙ sym (rolls-Unary op x c.in-Unary.at))))

pub expr-returns-in-Binary-clause-verdicts : goal.expr-returns-in-Binary-clause-verdicts
expr-returns-in-Binary-clause-verdicts t c =
    let j = c.args.self.now in
    let k = known j in
    let s = scope_of j.scope in
    let op = c.in-Binary.op in
    let l = c.in-Binary.left in
    let r = c.in-Binary.right in
    let old = tallied c.args.tally.now c.args.marks.now in
    let one = tallied c.expr-x-in-Binary.new.tally c.expr-x-in-Binary.new.marks in
    let two = tallied c.expr-y.new.tally c.expr-y.new.marks in
    let new = tallied c.add_if-in-Binary.new.self c.add_if-in-Binary.new.marks in
    let own = binary_judgements op l r c.in-Binary.at in
    let left : one ≡ after_parts j (expr_judgements k l) old = c.expr-x-in-Binary.ensures.verdicts ∙ ap (λ e. after_parts j (expr_judgements k e) old) c.get-in-Binary.ensures in
    let right : two ≡ after_parts j (expr_judgements k r) one = c.expr-y.ensures.verdicts ∙ ap (λ e. after_parts j (expr_judgements k e) one) c.get-in-Binary-2.ensures in
    let answer =
    c.binary-answer.ensures.answer
    ∙ ap (λ x. binary_answer op x c.expr-y.result) (c.expr-x-in-Binary.ensures.value ∙ ap (value_in s.bind j.env.now.env) c.get-in-Binary.ensures)
    ∙ ap (binary_answer op (value_in s.bind j.env.now.env l)) (c.expr-y.ensures.value ∙ ap (value_in s.bind j.env.now.env) c.get-in-Binary-2.ensures) in
    let last : new ≡ after_parts j own two =
    c.add_if-in-Binary.ensures ∙ ap (λ b. after_verdict_if b two c.binary-answer.result.holds) c.is_checked.ensures
    ∙ ap (λ (a : Answer). after_verdict_if (is_checked op) two a.holds) answer
    ∙ binary_judged s (constants_at j.scope.flow.now.edges j.point) j.env.now.env op l r c.in-Binary.at two in
    then_parts j (expr_judgements k l) (expr_judgements k r ++ own) old one new left (then_parts j (expr_judgements k r) own one two new right last)
    ∙ ap (λ js. after_parts j js old) (sym (binary_is k c.args.e.now op l r c.in-Binary.at (c.in-Binary.is ∙ sym (rolls-Binary op l r c.in-Binary.at))))

pub expr-returns-in-Const-clause-verdicts : goal.expr-returns-in-Const-clause-verdicts
expr-returns-in-Const-clause-verdicts t c =
    let j = c.args.self.now in
    ap (λ js. after_parts j js (tallied c.args.tally.now c.args.marks.now)) (sym (const_is (known j) c.args.e.now c.in-Const.boolean c.in-Const.value (c.in-Const.is ∙ sym (rolls-Const c.in-Const.boolean c.in-Const.value))))

pub expr-returns-in-Call-clause-verdicts : goal.expr-returns-in-Call-clause-verdicts
expr-returns-in-Call-clause-verdicts t c =
    let j = c.args.self.now in
    let d = c.in-Call in
    ap (λ js. after_parts j js (tallied c.args.tally.now c.args.marks.now)) (sym (call_is (known j) c.args.e.now d.routine d.actuals d.slot d.at (d.is ∙ sym (rolls-Call d.routine d.actuals d.slot d.at))))

pub subscripts-expr-x-requires : goal.subscripts-expr-x-requires
subscripts-expr-x-requires t c = (
  search (rules, the_lemmas),
  all_true_at (each_expr (seen_by c.args.self.now)) c.args.subscripts.now c.loop-subscript.subscript-index c.subscript-item.result c.loop-subscript-test.true c.subscript-item.is c.requires.seen,
)

pub subscripts-loop-subscript-preserved : goal.subscripts-loop-subscript-preserved
subscripts-loop-subscript-preserved t c =
    let j = c.args.self.now in
    let n = c.loop-subscript.t in
    let array = c.type_at-array.ensures ∙ ap (λ p. (tables p).type_at n) c.program.ensures in
    subscript_judged j n c.index_type.result c.element_type-t.result c.loop-subscript.subscript-index c.subscript-item.result c.args.subscripts.now c.expr-x.result
    (tallied c.loop-subscript.tally c.loop-subscript.marks) (tallied c.expr-x.new.tally c.expr-x.new.marks) (tallied c.in_type.new.tally c.in_type.new.marks) _
    c.loop-subscript-test.true c.subscript-item.is (c.index_type.ensures ∙ ap index_type array) (c.element_type-t.ensures ∙ ap element_type array)
    c.expr-x.ensures.value c.expr-x.ensures.verdicts c.in_type.ensures c.loop-subscript.invariant
