-- What holds of the variables and of the calls in an expression under a stronger rule holds under a weaker one.
use Rattle.std.proofs.Common.{◌≡◌, ℕ, Bool, true, ◌&&◌, List, [], ◌∷◌, map, refl, sym, subst, ◌∙◌}
use Rattle.std.proofs.lemmas.Bool.{and_from, and_parts}
use Rattle.pas_program.specs.declared.expr.Access.{Access}
use Rattle.pas_program.specs.declared.expr.Actual.{Actual}
use Rattle.pas_program.specs.declared.expr.Actual.TheFolds.{fold-roll-Access, fold-roll-Actual, fold-roll-Expr, fold-roll-ExprForm, ind-Access, ind-Expr, map-Access, map-Actual, map-Expr, map-ExprForm}
use Rattle.pas_program.specs.declared.expr.Actual.TheOpen.{Access-F, Actual-F, ExprForm-F, Expr-F}
use Rattle.pas_program.specs.declared.expr.Actual.TheViews.{roll-Access, roll-Actual, roll-Expr, roll-ExprForm}
use Rattle.pas_program.specs.declared.expr.Expr.{Expr}
use Rattle.pas_program.specs.declared.expr.ExprForm.{ExprForm}
use Rattle.pas_program.specs.Each.{Rule, all_true, actual_step, form_step, access_step, expr_step, each_access, each_actual, each_expr, each_form}

-- one test of a value brings another
abbrev Along : {A : Type 0} → (A → Bool) → (A → Bool) → A → Type 0
Along f g x = f x ≡ true → g x ≡ true

-- a value, with what is known of it
abbrev pub With : {A : Type 0} → (A → Type 0) → Type 0
With {A} P = (x : A) × P x

all_along : {A : Type 0} (f g : A → Bool) (ys : List (With (Along f g))) → all_true (map f (map (λ (y : With (Along f g)). y.0) ys)) ≡ true → all_true (map g (map (λ (y : With (Along f g)). y.0) ys)) ≡ true
all_along f g [] h = refl
all_along f g (y ∷ ys) h = let p = and_parts (f y.0) _ h in and_from _ _ (y.1 p.0) (all_along f g ys p.1)

module _ (q : Rule) where
  actual_is : (d : Actual-F Actual ExprForm Access Expr) → each_actual q (roll-Actual d) ≡ actual_step (map-Actual Actual ExprForm Access Expr Bool Bool Bool Bool (each_actual q) (each_form q) (each_access q) (each_expr q) d)
  actual_is d = fold-roll-Actual Bool Bool Bool Bool actual_step (form_step q) (access_step q) expr_step d

  form_is : (d : ExprForm-F Actual ExprForm Access Expr) → each_form q (roll-ExprForm d) ≡ form_step q (map-ExprForm Actual ExprForm Access Expr Bool Bool Bool Bool (each_actual q) (each_form q) (each_access q) (each_expr q) d)
  form_is d = fold-roll-ExprForm Bool Bool Bool Bool actual_step (form_step q) (access_step q) expr_step d

  access_is : (d : Access-F Actual ExprForm Access Expr) → each_access q (roll-Access d) ≡ (q.variable d.var && all_true (map (each_expr q) d.subscripts))
  access_is d = fold-roll-Access Bool Bool Bool Bool actual_step (form_step q) (access_step q) expr_step d

  expr_is : (d : Expr-F Actual ExprForm Access Expr) → each_expr q (roll-Expr d) ≡ each_form q d.form
  expr_is d = fold-roll-Expr Bool Bool Bool Bool actual_step (form_step q) (access_step q) expr_step d

module _ (q u : Rule) (variables : (v : ℕ) → q.variable v ≡ true → u.variable v ≡ true) (calls : (r slot : ℕ) → q.call r slot ≡ true → u.call r slot ≡ true) where
  abbrev OfActual : Actual → Type 0
  OfActual = Along (each_actual q) (each_actual u)

  abbrev OfForm : ExprForm → Type 0
  OfForm = Along (each_form q) (each_form u)

  abbrev OfAccess : Access → Type 0
  OfAccess = Along (each_access q) (each_access u)

  abbrev OfExpr : Expr → Type 0
  OfExpr = Along (each_expr q) (each_expr u)

  of_actual : (y : Actual-F (With OfActual) (With OfForm) (With OfAccess) (With OfExpr)) → OfActual (roll-Actual (map-Actual (With OfActual) (With OfForm) (With OfAccess) (With OfExpr) Actual ExprForm Access Expr (λ e. e.0) (λ e. e.0) (λ e. e.0) (λ e. e.0) y))
  of_actual (Actual-F.«Actual::Value» e) h = actual_is u (Actual-F.«Actual::Value» e.0) ∙ e.1 (sym (actual_is q (Actual-F.«Actual::Value» e.0)) ∙ h)
  of_actual (Actual-F.Whole a) h = actual_is u (Actual-F.Whole a.0) ∙ a.1 (sym (actual_is q (Actual-F.Whole a.0)) ∙ h)
  of_actual (Actual-F.Var a) h = actual_is u (Actual-F.Var a.0) ∙ a.1 (sym (actual_is q (Actual-F.Var a.0)) ∙ h)

  of_form : (y : ExprForm-F (With OfActual) (With OfForm) (With OfAccess) (With OfExpr)) → OfForm (roll-ExprForm (map-ExprForm (With OfActual) (With OfForm) (With OfAccess) (With OfExpr) Actual ExprForm Access Expr (λ e. e.0) (λ e. e.0) (λ e. e.0) (λ e. e.0) y))
  of_form (ExprForm-F.Const boolean value) h = form_is u (ExprForm-F.Const boolean value)
  of_form (ExprForm-F.«ExprForm::Value» a) h = form_is u (ExprForm-F.«ExprForm::Value» a.0) ∙ a.1 (sym (form_is q (ExprForm-F.«ExprForm::Value» a.0)) ∙ h)
  of_form (ExprForm-F.Unary op e at) h = form_is u (ExprForm-F.Unary op e.0 at) ∙ e.1 (sym (form_is q (ExprForm-F.Unary op e.0 at)) ∙ h)
  of_form (ExprForm-F.Binary op l r at) h =
      let p = and_parts (each_expr q l.0) _ (sym (form_is q (ExprForm-F.Binary op l.0 r.0 at)) ∙ h) in
      form_is u (ExprForm-F.Binary op l.0 r.0 at) ∙ and_from _ _ (l.1 p.0) (r.1 p.1)
  of_form (ExprForm-F.Call routine actuals slot at) h =
      let p = and_parts (q.call routine slot) _ (sym (form_is q (ExprForm-F.Call routine (map (λ e. e.0) actuals) slot at)) ∙ h) in
      form_is u (ExprForm-F.Call routine (map (λ e. e.0) actuals) slot at) ∙ and_from _ _ (calls routine slot p.0) (all_along (each_actual q) (each_actual u) actuals p.1)

  of_access : (y : Access-F (With OfActual) (With OfForm) (With OfAccess) (With OfExpr)) → OfAccess (roll-Access (map-Access (With OfActual) (With OfForm) (With OfAccess) (With OfExpr) Actual ExprForm Access Expr (λ e. e.0) (λ e. e.0) (λ e. e.0) (λ e. e.0) y))
  of_access y h =
      let p = and_parts (q.variable y.var) _ (sym (access_is q _) ∙ h) in
      access_is u _ ∙ and_from _ _ (variables y.var p.0) (all_along (each_expr q) (each_expr u) y.subscripts p.1)

  of_expr : (y : Expr-F (With OfActual) (With OfForm) (With OfAccess) (With OfExpr)) → OfExpr (roll-Expr (map-Expr (With OfActual) (With OfForm) (With OfAccess) (With OfExpr) Actual ExprForm Access Expr (λ e. e.0) (λ e. e.0) (λ e. e.0) (λ e. e.0) y))
  of_expr y h = expr_is u _ ∙ y.form.1 (sym (expr_is q _) ∙ h)

  by_actual : (x : Actual-F Actual ExprForm Access Expr) (y : Actual-F (With OfActual) (With OfForm) (With OfAccess) (With OfExpr)) → map-Actual (With OfActual) (With OfForm) (With OfAccess) (With OfExpr) Actual ExprForm Access Expr (λ e. e.0) (λ e. e.0) (λ e. e.0) (λ e. e.0) y ≡ x → OfActual (roll-Actual x)
  by_actual x y is = subst (λ z. OfActual (roll-Actual z)) is (of_actual y)

  by_form : (x : ExprForm-F Actual ExprForm Access Expr) (y : ExprForm-F (With OfActual) (With OfForm) (With OfAccess) (With OfExpr)) → map-ExprForm (With OfActual) (With OfForm) (With OfAccess) (With OfExpr) Actual ExprForm Access Expr (λ e. e.0) (λ e. e.0) (λ e. e.0) (λ e. e.0) y ≡ x → OfForm (roll-ExprForm x)
  by_form x y is = subst (λ z. OfForm (roll-ExprForm z)) is (of_form y)

  by_access : (x : Access-F Actual ExprForm Access Expr) (y : Access-F (With OfActual) (With OfForm) (With OfAccess) (With OfExpr)) → map-Access (With OfActual) (With OfForm) (With OfAccess) (With OfExpr) Actual ExprForm Access Expr (λ e. e.0) (λ e. e.0) (λ e. e.0) (λ e. e.0) y ≡ x → OfAccess (roll-Access x)
  by_access x y is = subst (λ z. OfAccess (roll-Access z)) is (of_access y)

  by_expr : (x : Expr-F Actual ExprForm Access Expr) (y : Expr-F (With OfActual) (With OfForm) (With OfAccess) (With OfExpr)) → map-Expr (With OfActual) (With OfForm) (With OfAccess) (With OfExpr) Actual ExprForm Access Expr (λ e. e.0) (λ e. e.0) (λ e. e.0) (λ e. e.0) y ≡ x → OfExpr (roll-Expr x)
  by_expr x y is = subst (λ z. OfExpr (roll-Expr z)) is (of_expr y)

  pub expr_weaker : (e : Expr) → each_expr q e ≡ true → each_expr u e ≡ true
  expr_weaker = ind-Expr OfActual OfForm OfAccess OfExpr by_actual by_form by_access by_expr

  pub access_weaker : (a : Access) → each_access q a ≡ true → each_access u a ≡ true
  access_weaker = ind-Access OfActual OfForm OfAccess OfExpr by_actual by_form by_access by_expr
