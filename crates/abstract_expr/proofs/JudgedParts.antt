-- The checks in an expression judge operators, used variables and subscripts: tests of these alone are one test.
use Rattle.std.proofs.Common.{◌≡◌, ℕ, Bool, true, false, ◌&&◌, List, [], ◌∷◌, ◌++◌, map, refl, sym, ap, subst, ◌∙◌}
use Rattle.std.proofs.lemmas.List.Folds.{list_all-append}
use Rattle.std.specs.List.{list_all}
use Rattle.px_base.specs.declared.kind.Kind.{Kind}
use Rattle.px_base.specs.declared.kind.Kind.TheVariants.{IndexOutOfRange, UndefinedValue}
use Rattle.px_base.specs.declared.operator.BinOp.{BinOp}
use Rattle.px_base.specs.declared.operator.BinOp.TheVariants as binary
use Rattle.px_base.specs.declared.operator.UnOp.{UnOp}
use Rattle.px_base.specs.declared.operator.UnOp.TheVariants as unary
use Rattle.pas_program.specs.declared.expr.Access.{Access}
use Rattle.pas_program.specs.declared.expr.Actual.{Actual}
use Rattle.pas_program.specs.declared.expr.Actual.TheFolds.{ind-Expr, map-Access, map-Expr, map-ExprForm, para-roll-Access, para-roll-Expr, para-roll-ExprForm}
use Rattle.pas_program.specs.declared.expr.Actual.TheOpen.{Access-F, ExprForm-F, Expr-F}
use Rattle.pas_program.specs.declared.expr.Actual.TheViews.{out-Access, out-Expr, roll-Access, roll-Expr, roll-ExprForm}
use Rattle.pas_program.specs.declared.expr.Expr.{Expr}
use Rattle.pas_program.specs.declared.expr.ExprForm.{ExprForm}
use Rattle.pas_program.specs.Tables.{Tables}
use Rattle.control_points.specs.Checking.{is_narrow}
use Rattle.control_points.specs.Evaluation.{element_type, index_type, var_type}
use Rattle.control_points.specs.Judgements.{Judgement, Judgements, Subject, access_judgements, access_step, binary_judgements, binary_operator, expr_judgements, expr_step, form_judgements, form_step, in_type, one, one_if, subscripts_judgements, typed_value, unary_judgements, unary_operator, used_variable}
use Rattle.abstract_expr.specs.Judging.{beside}
use Rattle.abstract_expr.proofs.Weaker.{With}

-- tests that agree on the parts that an expression's checks judge
pub record AgreeInside (f g : Subject → Bool) : Type 0 where
  pub binary : (op : BinOp) (l r : Expr) → f (binary_operator op l r) ≡ g (binary_operator op l r)
  pub unary : (op : UnOp) (e : Expr) → f (unary_operator op e) ≡ g (unary_operator op e)
  pub used : (a : Access) → f (used_variable a) ≡ g (used_variable a)
  pub typed : (n : ℕ) (e : Expr) → f (typed_value n e) ≡ g (typed_value n e)

module _ (t : Tables) (f g : Subject → Bool) (agree : AgreeInside f g) where
  abbrev pub all_pass : (Subject → Bool) → Judgements → Bool
  all_pass h js = list_all (λ (j : Judgement). h j.subject) js

  abbrev Same : Judgements → Type 0
  Same js = all_pass f js ≡ all_pass g js

  both_same : (xs ys : Judgements) → Same xs → Same ys → Same (xs ++ ys)
  both_same xs ys p q =
      list_all-append (λ (j : Judgement). f j.subject) xs ys
      ∙ ap (λ b. b && all_pass f ys) p ∙ ap (λ b. all_pass g xs && b) q
      ∙ sym (list_all-append (λ (j : Judgement). g j.subject) xs ys)

  one_same : (k : Kind) (at : ℕ) (s : Subject) → f s ≡ g s → Same (one k at s)
  one_same k at s h = ap (λ b. b && true) h

  if_same : (b : Bool) (k : Kind) (at : ℕ) (s : Subject) → f s ≡ g s → Same (one_if b k at s)
  if_same true k at s h = one_same k at s h
  if_same false k at s h = refl

  unary_same : (op : UnOp) (e : Expr) (at : ℕ) → Same (unary_judgements op e at)
  unary_same unary.Neg e at = refl
  unary_same unary.Not e at = refl
  unary_same unary.Abs e at = refl
  unary_same unary.Sqr e at = ap (λ b. b && true) (agree.unary unary.Sqr e)
  unary_same unary.Odd e at = refl
  unary_same unary.SuccInt e at = ap (λ b. b && true) (agree.unary unary.SuccInt e)
  unary_same unary.PredInt e at = ap (λ b. b && true) (agree.unary unary.PredInt e)
  unary_same unary.SuccBool e at = ap (λ b. b && true) (agree.unary unary.SuccBool e)
  unary_same unary.PredBool e at = ap (λ b. b && true) (agree.unary unary.PredBool e)
  unary_same unary.OrdOf e at = refl

  binary_same : (op : BinOp) (l r : Expr) (at : ℕ) → Same (binary_judgements op l r at)
  binary_same binary.Add l r at = ap (λ b. b && true) (agree.binary binary.Add l r)
  binary_same binary.Sub l r at = ap (λ b. b && true) (agree.binary binary.Sub l r)
  binary_same binary.Mul l r at = ap (λ b. b && true) (agree.binary binary.Mul l r)
  binary_same binary.Div l r at = ap (λ b. b && true) (agree.binary binary.Div l r)
  binary_same binary.Mod l r at = ap (λ b. b && true) (agree.binary binary.Mod l r)
  binary_same binary.And l r at = refl
  binary_same binary.Or l r at = refl
  binary_same binary.Eq l r at = refl
  binary_same binary.Ne l r at = refl
  binary_same binary.Lt l r at = refl
  binary_same binary.Le l r at = refl
  binary_same binary.Gt l r at = refl
  binary_same binary.Ge l r at = refl

  abbrev OfExpr : Expr → Type 0
  OfExpr e = Same (expr_judgements t e)

  abbrev OfForm : ExprForm → Type 0
  OfForm e = Same (form_judgements t e)

  abbrev OfAccess : Access → Type 0
  OfAccess a = Same (access_judgements t a)

  abbrev OfActual : Actual → Type 0
  OfActual a = Unit {0}

  subscripts_same : (ys : List (With OfExpr)) (n : ℕ) → Same (subscripts_judgements t n (map (beside t) (map (λ (y : With OfExpr). y.0) ys)))
  subscripts_same [] n = refl
  subscripts_same (y ∷ ys) n =
      let index = index_type (t.type_at n) in
      let own = expr_judgements t (y.0) ++ in_type t index IndexOutOfRange (y.0) in
      both_same own _
      (both_same (expr_judgements t (y.0)) (in_type t index IndexOutOfRange (y.0)) y.1 (if_same (is_narrow (t.type_at index)) IndexOutOfRange (out-Expr (y.0)).first (typed_value index (y.0)) (agree.typed index (y.0))))
      (subscripts_same ys (element_type (t.type_at n)))

  of_access : (y : Access-F (With OfActual) (With OfForm) (With OfAccess) (With OfExpr)) → OfAccess (roll-Access (map-Access (With OfActual) (With OfForm) (With OfAccess) (With OfExpr) Actual ExprForm Access Expr (λ e. e.0) (λ e. e.0) (λ e. e.0) (λ e. e.0) y))
  of_access y =
      let d = map-Access (With OfActual) (With OfForm) (With OfAccess) (With OfExpr) Actual ExprForm Access Expr (λ e. e.0) (λ e. e.0) (λ e. e.0) (λ e. e.0) y in
      let is = para-roll-Access (Unit {0}) Judgements Judgements Judgements (λ a. tt) form_step (access_step t) expr_step d in
      ap (all_pass f) is ∙ subscripts_same y.subscripts (var_type t y.var) ∙ sym (ap (all_pass g) is)

  -- one level of a form
  form_at : (d : ExprForm-F Actual ExprForm Access Expr)
      → Same (form_step (map-ExprForm Actual ExprForm Access Expr (Actual × Unit {0}) (ExprForm × Judgements) (Access × Judgements) (Expr × Judgements) (λ a. (a, tt)) (λ f. (f, form_judgements t f)) (λ a. (a, access_judgements t a)) (beside t) d))
      → OfForm (roll-ExprForm d)
  form_at d h =
      let is = para-roll-ExprForm (Unit {0}) Judgements Judgements Judgements (λ a. tt) form_step (access_step t) expr_step d in
      ap (all_pass f) is ∙ h ∙ sym (ap (all_pass g) is)

  of_form : (y : ExprForm-F (With OfActual) (With OfForm) (With OfAccess) (With OfExpr)) → OfForm (roll-ExprForm (map-ExprForm (With OfActual) (With OfForm) (With OfAccess) (With OfExpr) Actual ExprForm Access Expr (λ e. e.0) (λ e. e.0) (λ e. e.0) (λ e. e.0) y))
  of_form (ExprForm-F.Const boolean n) = form_at (ExprForm-F.Const boolean n) refl
  of_form (ExprForm-F.«ExprForm::Value» a) =
      form_at (ExprForm-F.«ExprForm::Value» (a.0))
      (both_same (access_judgements t (a.0)) (one UndefinedValue (out-Access (a.0)).at (used_variable (a.0))) a.1 (one_same UndefinedValue (out-Access (a.0)).at (used_variable (a.0)) (agree.used (a.0))))
  of_form (ExprForm-F.Unary op e at) =
      form_at (ExprForm-F.Unary op (e.0) at) (both_same (expr_judgements t (e.0)) (unary_judgements op (e.0) at) e.1 (unary_same op (e.0) at))
  of_form (ExprForm-F.Binary op left right at) =
      form_at (ExprForm-F.Binary op (left.0) (right.0) at)
      (both_same (expr_judgements t (left.0)) (expr_judgements t (right.0) ++ binary_judgements op (left.0) (right.0) at) left.1
      (both_same (expr_judgements t (right.0)) (binary_judgements op (left.0) (right.0) at) right.1 (binary_same op (left.0) (right.0) at)))
  of_form (ExprForm-F.Call routine actuals slot at) = form_at (ExprForm-F.Call routine (map (λ (e : With OfActual). e.0) actuals) slot at) refl

  of_expr : (y : Expr-F (With OfActual) (With OfForm) (With OfAccess) (With OfExpr)) → OfExpr (roll-Expr (map-Expr (With OfActual) (With OfForm) (With OfAccess) (With OfExpr) Actual ExprForm Access Expr (λ e. e.0) (λ e. e.0) (λ e. e.0) (λ e. e.0) y))
  of_expr y =
      let d = map-Expr (With OfActual) (With OfForm) (With OfAccess) (With OfExpr) Actual ExprForm Access Expr (λ e. e.0) (λ e. e.0) (λ e. e.0) (λ e. e.0) y in
      let is = para-roll-Expr (Unit {0}) Judgements Judgements Judgements (λ a. tt) form_step (access_step t) expr_step d in
      ap (all_pass f) is ∙ y.form.1 ∙ sym (ap (all_pass g) is)

  pub inside_same : (e : Expr) → OfExpr e
  inside_same =
      ind-Expr OfActual OfForm OfAccess OfExpr
      (λ x y is. tt)
      (λ x y is. subst (λ z. OfForm (roll-ExprForm z)) is (of_form y))
      (λ x y is. subst (λ z. OfAccess (roll-Access z)) is (of_access y))
      (λ x y is. subst (λ z. OfExpr (roll-Expr z)) is (of_expr y))
