use Rattle.std.proofs.Common.{refl, sym, rules}
use Rattle.std.proofs.lemmas.List.{append-nil}
use Rattle.control_points.specs.Calls.{actuals_calls, exprs_calls}
use Rattle.control_points.proofs.CallsOf.{expr_calls_is, access_calls_is, const_calls, value_calls, unary_calls, binary_calls, call_calls, scalar_calls, whole_calls, var_calls, pushed_site}
use Rattle.control_points.proofs.Left.{left_done, appended, ok_appended}
use Rattle.control_points.proofs.calls.+calls.Goals as goal

pub calls_in_expr-returns-in-Const : goal.calls_in_expr-returns-in-Const
calls_in_expr-returns-in-Const t c = rw (expr_calls_is c.args.e.now, c.in-Const.is, const_calls) (sym (append-nil _))

pub calls_in_expr-returns-in-Value : goal.calls_in_expr-returns-in-Value
calls_in_expr-returns-in-Value t c = rw (expr_calls_is c.args.e.now, c.in-Value.is, value_calls) c.calls_in_access.ensures

pub calls_in_expr-returns-in-Unary : goal.calls_in_expr-returns-in-Unary
calls_in_expr-returns-in-Unary t c = let same = c.get.ensures in rw (expr_calls_is c.args.e.now, c.in-Unary.is, unary_calls) (search (rules, same, c.calls_in_expr.ensures))

pub calls_in_expr-returns-in_ok-calls_in_expr-in-Binary : goal.calls_in_expr-returns-in_ok-calls_in_expr-in-Binary
calls_in_expr-returns-in_ok-calls_in_expr-in-Binary t c =
    let left = rw c.get-in-Binary.ensures at c.in_ok-calls_in_expr-in-Binary.ensures in
    let right = rw c.get-in-Binary-2.ensures at c.calls_in_expr-in-Binary-2.ensures in
    rw (expr_calls_is c.args.e.now, c.in-Binary.is, binary_calls) (ok_appended _ _ _ _ _ _ left right)

pub calls_in_expr-returns-in_ok-push-in-Call : goal.calls_in_expr-returns-in_ok-push-in-Call
calls_in_expr-returns-in_ok-push-in-Call t c =
    let actuals = rw c.as_slice.ensures at c.in_ok-calls_in_actuals-in-Call.ensures in
    let site = rw c.as_slice-in-Call.ensures at (pushed_site _ _ _ c.in_ok-push-in-Call.ensures.items) in
    rw (expr_calls_is c.args.e.now, c.in-Call.is, call_calls) (appended _ _ _ _ _ actuals site)

pub calls_in_access-returns : goal.calls_in_access-returns
calls_in_access-returns t c = rw (access_calls_is c.args.access.now) (rw c.as_slice.ensures at c.calls_in_exprs.ensures)

pub calls_in_exprs-returns : goal.calls_in_exprs-returns
calls_in_exprs-returns t c = left_done exprs_calls c.args.exprs.now c.loop-e.e-index _ _ refl c.loop-e-test.false c.loop-e.invariant

pub calls_in_actuals-returns : goal.calls_in_actuals-returns
calls_in_actuals-returns t c = left_done actuals_calls c.args.actuals.now c.loop-a.a-index _ _ refl c.loop-a-test.false c.loop-a.invariant

pub calls_in_actual-returns-in-Value : goal.calls_in_actual-returns-in-Value
calls_in_actual-returns-in-Value t c = rw (c.in-Value.is, scalar_calls) c.calls_in_expr.ensures

pub calls_in_actual-returns-in-Whole : goal.calls_in_actual-returns-in-Whole
calls_in_actual-returns-in-Whole t c = rw (c.in-Whole.is, whole_calls) c.calls_in_access.ensures

pub calls_in_actual-returns-in-Var : goal.calls_in_actual-returns-in-Var
calls_in_actual-returns-in-Var t c = rw (c.in-Var.is, var_calls) c.calls_in_access-in-Var.ensures
