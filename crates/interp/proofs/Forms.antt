-- What holds of an expression or an actual holds of its parts.
use Rattle.std.proofs.Common.{◌≡◌, ℕ, Bool, true, false, ◌&&◌, List, map, refl, sym, ap, ◌∙◌}
use Rattle.std.proofs.lemmas.Bool.{true≢false, and_parts}
use Rattle.px_base.specs.declared.operator.BinOp.{BinOp}
use Rattle.pas_program.specs.declared.expr.Access.{Access}
use Rattle.pas_program.specs.declared.expr.Actual.{Actual}
use Rattle.pas_program.specs.declared.expr.Actual.TheFolds.{fold_out-Actual, fold_out-Expr, fold_out-ExprForm, fold-roll-ExprForm, map-Actual, map-ExprForm}
use Rattle.pas_program.specs.declared.expr.Actual.TheOpen.{Actual-F, ExprForm-F}
use Rattle.pas_program.specs.declared.expr.Actual.TheViews.{out-Actual, out-Expr, out-ExprForm, roll-ExprForm}
use Rattle.pas_program.specs.declared.expr.Expr.{Expr}
use Rattle.pas_program.specs.declared.expr.ExprForm.{ExprForm}
use Rattle.pas_program.specs.declared.variable.VarDef.{VarDef}
use Rattle.pas_program.specs.declared.variable.VarKind.{VarKind}
use Rattle.pas_program.specs.declared.variable.VarKind.TheVariants as kind
use Rattle.pas_program.specs.Each.{Rule, actual_step, form_step, access_step, expr_step, each_access, each_actual, each_expr, each_form}
use Rattle.pas_program.specs.Tables.{Tables, holds_of, is_kind}
use Rattle.pas_program.specs.Typed.{Hosted, Passed, Reached, actual_type_step, form_type_step, access_type_step, expr_type_step, hosted, hosted_form, function_fits, is_passed_to, passed, reached, scalar, type_of_var}
use Rattle.pas_program.specs.Types.{has_host, is_scalar}
use Rattle.interp.proofs.Targets.{hosted_scalar}

module _ (t : Tables) where
  form_is : (e : Expr) → hosted t e ≡ hosted_form t (out-Expr e).form
  form_is e = fold_out-Expr Passed Hosted Reached Hosted actual_type_step (form_type_step t) (access_type_step t) expr_type_step e

  step_is : (e : Expr) (f : ExprForm) (d : ExprForm-F Actual ExprForm Access Expr) → (out-Expr e).form ≡ f → out-ExprForm f ≡ d → hosted t e ≡ form_type_step t (map-ExprForm Actual ExprForm Access Expr Passed Hosted Reached Hosted (passed t) (hosted_form t) (reached t) (hosted t) d)
  step_is e f d is o =
      form_is e ∙ ap (hosted_form t) is ∙ fold_out-ExprForm Passed Hosted Reached Hosted actual_type_step (form_type_step t) (access_type_step t) expr_type_step f
      ∙ ap (λ d. form_type_step t (map-ExprForm Actual ExprForm Access Expr Passed Hosted Reached Hosted (passed t) (hosted_form t) (reached t) (hosted t) d)) o

  rolled_is : (e : Expr) (d : ExprForm-F Actual ExprForm Access Expr) → (out-Expr e).form ≡ roll-ExprForm d → hosted t e ≡ form_type_step t (map-ExprForm Actual ExprForm Access Expr Passed Hosted Reached Hosted (passed t) (hosted_form t) (reached t) (hosted t) d)
  rolled_is e d is = form_is e ∙ ap (hosted_form t) is ∙ fold-roll-ExprForm Passed Hosted Reached Hosted actual_type_step (form_type_step t) (access_type_step t) expr_type_step d

  pub value_scalar : (e : Expr) (a : Access) (f : ExprForm) → (out-Expr e).form ≡ f → out-ExprForm f ≡ ExprForm-F.«ExprForm::Value» a → (hosted t e).fits ≡ true → is_scalar (t.type_at (reached t a).of_type) ≡ true
  value_scalar e a f is o h = hosted_scalar (t.type_at (reached t a).of_type) (and_parts (reached t a).fits _ (sym (ap (λ (x : Hosted). x.fits) (step_is e f (ExprForm-F.«ExprForm::Value» a) is o)) ∙ h)).1

  pub call_scalar : (e : Expr) (routine : ℕ) (actuals : List Actual) (slot at : ℕ) → (out-Expr e).form ≡ roll-ExprForm (ExprForm-F.Call routine actuals slot at) → (hosted t e).fits ≡ true → is_scalar (type_of_var t slot) ≡ true
  call_scalar e routine actuals slot at is h =
      hosted_scalar (type_of_var t slot) (and_parts (holds_of (function_fits t (map (passed t) actuals) slot) (t.head_at routine)) _ (sym (ap (λ (x : Hosted). x.fits) (rolled_is e (ExprForm-F.Call routine actuals slot at) is)) ∙ h)).1

  pub right_fits : (e : Expr) (op : BinOp) (l r : Expr) (at : ℕ) → (out-Expr e).form ≡ roll-ExprForm (ExprForm-F.Binary op l r at) → (hosted t e).fits ≡ true → (hosted t r).fits ≡ true
  right_fits e op l r at is h =
      (and_parts (hosted t l).fits _ (and_parts ((hosted t l).fits && (hosted t r).fits) _ (sym (ap (λ (x : Hosted). x.fits) (rolled_is e (ExprForm-F.Binary op l r at) is)) ∙ h)).0).1

  pub passed_value : (x y : Actual) (e : Expr) (d : VarDef) → x ≡ y → out-Actual y ≡ Actual-F.«Actual::Value» e → is_passed_to t (passed t x) d ≡ true → (is_kind kind.Value d.kind ≡ true) × (has_host (hosted t e).boolean (t.type_at d.of_type) ≡ true)
  passed_value x y e d is o h =
      let p : passed t x ≡ scalar (hosted t e) =
      ap (passed t) is ∙ fold_out-Actual Passed Hosted Reached Hosted actual_type_step (form_type_step t) (access_type_step t) expr_type_step y
      ∙ ap (λ d. actual_type_step (map-Actual Actual ExprForm Access Expr Passed Hosted Reached Hosted (passed t) (hosted_form t) (reached t) (hosted t) d)) o in
      let q = and_parts (hosted t e).fits _ (sym (ap (λ r. is_passed_to t r d) p) ∙ h) in
      and_parts (is_kind kind.Value d.kind) _ q.1

module _ (q : Rule) where
  rule_is : (e : Expr) (d : ExprForm-F Actual ExprForm Access Expr) → (out-Expr e).form ≡ roll-ExprForm d → each_expr q e ≡ form_step q (map-ExprForm Actual ExprForm Access Expr Bool Bool Bool Bool (each_actual q) (each_form q) (each_access q) (each_expr q) d)
  rule_is e d is = fold_out-Expr Bool Bool Bool Bool actual_step (form_step q) (access_step q) expr_step e ∙ ap (each_form q) is ∙ fold-roll-ExprForm Bool Bool Bool Bool actual_step (form_step q) (access_step q) expr_step d

  pub right_each : (e : Expr) (op : BinOp) (l r : Expr) (at : ℕ) → (out-Expr e).form ≡ roll-ExprForm (ExprForm-F.Binary op l r at) → each_expr q e ≡ true → each_expr q r ≡ true
  right_each e op l r at is h = (and_parts (each_expr q l) _ (sym (rule_is e (ExprForm-F.Binary op l r at) is) ∙ h)).1

  pub call_each : (e : Expr) (routine : ℕ) (actuals : List Actual) (slot at : ℕ) → (out-Expr e).form ≡ roll-ExprForm (ExprForm-F.Call routine actuals slot at) → each_expr q e ≡ true → q.call routine slot ≡ true
  call_each e routine actuals slot at is h = (and_parts (q.call routine slot) _ (sym (rule_is e (ExprForm-F.Call routine actuals slot at) is) ∙ h)).0

pub value_not_var : (k : VarKind) → is_kind kind.Value k ≡ true → is_kind kind.Var k ≡ false
value_not_var kind.Local h = refl
value_not_var kind.Value h = refl
value_not_var kind.Var h = absurd (true≢false (sym h))
value_not_var kind.Result h = refl
value_not_var kind.Slot h = refl
value_not_var kind.Bound h = refl
