use Rattle.std.proofs.Common.{rules}
use Rattle.pas_program.specs.declared.expr.Actual.TheViews.{the_lemmas}
use Rattle.pas_program.specs.Checked.{numbers_in}
use Rattle.pas_program.specs.Each.{each_expr, each_actual}
use Rattle.pas_program.proofs.Elements.{all_true_at}
use Rattle.pas_program.proofs.tests.+weigh.Goals as goal

pub in_exprs-in_expr-sum-requires : goal.in_exprs-in_expr-sum-requires
in_exprs-in_expr-sum-requires t c =
    (search (rules, the_lemmas), all_true_at (each_expr (numbers_in c.args.p.now)) c.args.exprs.now c.loop-e.e-index c.e-item.result c.loop-e-test.true c.e-item.is c.requires)

pub in_actuals-in_actual-sum-requires : goal.in_actuals-in_actual-sum-requires
in_actuals-in_actual-sum-requires t c =
    (search (rules, the_lemmas), all_true_at (each_actual (numbers_in c.args.p.now)) c.args.actuals.now c.loop-a.a-index c.a-item.result c.loop-a-test.true c.a-item.is c.requires)
