use Rattle.control_points.specs.Thresholds.{actual_constants, expr_constants}
use Rattle.control_points.proofs.Walked.{binary_constants, expr_constants_is, ok_found, walked_all, walked_more}
use Rattle.control_points.proofs.constants.Constants.+constants.Goals as goal

pub expr-returns-in_ok-expr-in-Binary : goal.expr-returns-in_ok-expr-in-Binary
expr-returns-in_ok-expr-in-Binary t c =
    let left = rw c.get-in-Binary.ensures at c.in_ok-expr-in-Binary.ensures in
    let right = rw c.get-in-Binary-2.ensures at c.expr-in-Binary-2.ensures in
    rw (expr_constants_is c.args.e.now, c.in-Binary.is, binary_constants) (ok_found _ _ _ _ _ _ left right)

pub exprs-returns : goal.exprs-returns
exprs-returns t c = walked_all expr_constants c.args.exprs.now c.loop-e.e-index c.loop-e.self.values _ c.loop-e.self.first c.loop-e-test.false c.loop-e.invariant

pub actuals-returns : goal.actuals-returns
actuals-returns t c = walked_all actual_constants c.args.actuals.now c.loop-a.a-index c.loop-a.self.values _ c.loop-a.self.first c.loop-a-test.false c.loop-a.invariant

pub exprs-loop-e-preserved : goal.exprs-loop-e-preserved
exprs-loop-e-preserved t c = walked_more expr_constants c.args.exprs.now c.loop-e.e-index c.e-item.result _ _ _ c.loop-e-test.true c.e-item.is c.in_ok-expr.ensures c.loop-e.invariant

pub actuals-loop-a-preserved : goal.actuals-loop-a-preserved
actuals-loop-a-preserved t c = walked_more actual_constants c.args.actuals.now c.loop-a.a-index c.a-item.result _ _ _ c.loop-a-test.true c.a-item.is c.in_ok-actual.ensures c.loop-a.invariant
