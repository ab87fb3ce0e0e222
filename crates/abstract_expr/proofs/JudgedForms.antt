-- The judgements of an expression by its form.
use Rattle.std.proofs.Common.{◌≡◌, ℕ, ℤ, Bool, List, [], ◌++◌, map, sym, ap, ◌∙◌}
use Rattle.px_base.specs.declared.kind.Kind.TheVariants.{UndefinedValue}
use Rattle.px_base.specs.declared.operator.BinOp.{BinOp}
use Rattle.px_base.specs.declared.operator.UnOp.{UnOp}
use Rattle.pas_program.specs.declared.expr.Access.{Access}
use Rattle.pas_program.specs.declared.expr.Actual.{Actual}
use Rattle.pas_program.specs.declared.expr.Actual.TheFolds.{para-roll-Access, para-roll-Expr, para-roll-ExprForm}
use Rattle.pas_program.specs.declared.expr.Actual.TheOpen.{ExprForm-F}
use Rattle.pas_program.specs.declared.expr.Actual.TheViews.{out-Access, out-Expr, roll-ExprForm, roll-out-Access, roll-out-Expr}
use Rattle.pas_program.specs.declared.expr.Expr.{Expr}
use Rattle.pas_program.specs.Tables.{Tables}
use Rattle.control_points.specs.Evaluation.{var_type}
use Rattle.control_points.specs.Judgements.{Judgements, access_judgements, access_step, binary_judgements, expr_judgements, expr_step, form_judgements, form_step, one, subscripts_judgements, unary_judgements, used_variable}
use Rattle.abstract_expr.specs.Judging.{beside}

module _ (t : Tables) where
  expr_is : (e : Expr) → expr_judgements t e ≡ form_judgements t (out-Expr e).form
  expr_is e = ap (expr_judgements t) (sym (roll-out-Expr e)) ∙ para-roll-Expr (Unit {0}) Judgements Judgements Judgements (λ a. tt) form_step (access_step t) expr_step (out-Expr e)

  pub access_is : (a : Access) → access_judgements t a ≡ subscripts_judgements t (var_type t (out-Access a).var) (map (beside t) (out-Access a).subscripts)
  access_is a = ap (access_judgements t) (sym (roll-out-Access a)) ∙ para-roll-Access (Unit {0}) Judgements Judgements Judgements (λ a. tt) form_step (access_step t) expr_step (out-Access a)

  pub const_is : (e : Expr) (boolean : Bool) (z : ℤ) → (out-Expr e).form ≡ roll-ExprForm (ExprForm-F.Const boolean z) → expr_judgements t e ≡ []
  const_is e boolean z is = expr_is e ∙ ap (form_judgements t) is ∙ para-roll-ExprForm (Unit {0}) Judgements Judgements Judgements (λ a. tt) form_step (access_step t) expr_step (ExprForm-F.Const boolean z)

  pub call_is : (e : Expr) (routine : ℕ) (actuals : List Actual) (slot at : ℕ) → (out-Expr e).form ≡ roll-ExprForm (ExprForm-F.Call routine actuals slot at) → expr_judgements t e ≡ []
  call_is e routine actuals slot at is = expr_is e ∙ ap (form_judgements t) is ∙ para-roll-ExprForm (Unit {0}) Judgements Judgements Judgements (λ a. tt) form_step (access_step t) expr_step (ExprForm-F.Call routine actuals slot at)

  pub value_is : (e : Expr) (a : Access) → (out-Expr e).form ≡ roll-ExprForm (ExprForm-F.«ExprForm::Value» a) → expr_judgements t e ≡ access_judgements t a ++ one UndefinedValue (out-Access a).at (used_variable a)
  value_is e a is = expr_is e ∙ ap (form_judgements t) is ∙ para-roll-ExprForm (Unit {0}) Judgements Judgements Judgements (λ a. tt) form_step (access_step t) expr_step (ExprForm-F.«ExprForm::Value» a)

  pub unary_is : (e : Expr) (op : UnOp) (x : Expr) (at : ℕ) → (out-Expr e).form ≡ roll-ExprForm (ExprForm-F.Unary op x at) → expr_judgements t e ≡ expr_judgements t x ++ unary_judgements op x at
  unary_is e op x at is = expr_is e ∙ ap (form_judgements t) is ∙ para-roll-ExprForm (Unit {0}) Judgements Judgements Judgements (λ a. tt) form_step (access_step t) expr_step (ExprForm-F.Unary op x at)

  pub binary_is : (e : Expr) (op : BinOp) (l r : Expr) (at : ℕ) → (out-Expr e).form ≡ roll-ExprForm (ExprForm-F.Binary op l r at) → expr_judgements t e ≡ expr_judgements t l ++ (expr_judgements t r ++ binary_judgements op l r at)
  binary_is e op l r at is = expr_is e ∙ ap (form_judgements t) is ∙ para-roll-ExprForm (Unit {0}) Judgements Judgements Judgements (λ a. tt) form_step (access_step t) expr_step (ExprForm-F.Binary op l r at)
