-- Types that fit by tables that know less fit by tables that know more, and come out the same.
use Rattle.std.proofs.Common.{◌≡◌, ℕ, ℤ, Bool, true, false, ◌&&◌, List, [], ◌∷◌, ◌++◌, map, refl, sym, ap, subst, ◌∙◌, Option, Some, None, nat_eq}
use Rattle.std.proofs.lemmas.Bool.{and_parts, and_from, true≢false}
use Rattle.std.proofs.lemmas.Option.{none-some}
use Rattle.std.specs.List.{list_all}
use Rattle.std.specs.Option.{option_map, option_and_then}
use Rattle.pas_program.specs.declared.expr.Access.{Access}
use Rattle.pas_program.specs.declared.expr.Actual.{Actual}
use Rattle.pas_program.specs.declared.expr.Actual.TheOpen.{Access-F, Actual-F, ExprForm-F, Expr-F}
use Rattle.pas_program.specs.declared.expr.Actual.TheFolds.{fold-roll-Access, fold-roll-Actual, fold-roll-Expr, fold-roll-ExprForm, ind-Access, ind-Actual, ind-Expr, map-Access, map-Actual, map-Expr, map-ExprForm}
use Rattle.pas_program.specs.declared.expr.Actual.TheViews.{roll-Access, roll-Actual, roll-Expr, roll-ExprForm}
use Rattle.pas_program.specs.declared.expr.Expr.{Expr}
use Rattle.pas_program.specs.declared.expr.ExprForm.{ExprForm}
use Rattle.pas_program.specs.declared.statement.Arm.{Arm}
use Rattle.pas_program.specs.declared.statement.Body.{Body}
use Rattle.pas_program.specs.declared.statement.Body.TheOpen.{Arm-F, Body-F, Statement-F}
use Rattle.pas_program.specs.declared.statement.Body.TheFolds.{fold-roll-Arm, fold-roll-Body, fold-roll-Statement, fold_out-Arm, ind-Statement, map-Arm, map-Body, map-Statement}
use Rattle.pas_program.specs.declared.statement.Body.TheViews.{roll-Arm, roll-Body, roll-Statement, out-Arm}
use Rattle.pas_program.specs.declared.statement.Statement.{Statement}
use Rattle.pas_program.specs.declared.statement.WriteItem.{WriteItem}
use Rattle.pas_program.specs.declared.statement.WriteValue.{WriteValue}
use Rattle.pas_program.specs.declared.statement.WriteValue.TheVariants as written
use Rattle.pas_program.specs.Each.{all_true, true_if_some, constants, arm_step}
use Rattle.pas_program.specs.declared.type_def.TypeDef.{TypeDef}
use Rattle.pas_program.specs.declared.type_def.TypeDef.TheVariants.{Scalar, Array}
use Rattle.pas_program.specs.declared.variable.VarDef.{VarDef}
use Rattle.pas_program.specs.declared.variable.VarKind.TheVariants as kind
use Rattle.pas_program.specs.Tables.{Tables, Head, Grows, holds_of, is_kind}
use Rattle.pas_program.specs.Typed.{is_of_host, is_target, procedure_fits, copy_fits, loop_fits, written_fits, item_fits, body_type_step, statement_type_step, body_types_fit, statement_types_fit, arm_types, arm_types_fit, Hosted, Reached, Passed, scalar, whole, by_var, hosted, hosted_form, reached, passed, hosted_by, hosted_if, element_of, subscripted, access_from, is_passed_to, are_passed_to, function_fits, type_of_var, unary_host, binary_host, actual_type_step, form_type_step, access_type_step, expr_type_step}
use Rattle.pas_program.specs.Types.{has_host, in_host, is_array}
use Rattle.pas_program.proofs.Weaker.{Along, With, all_along, list_all_weaker}

-- ---- what is found is found again

-- what a lookup knows, the other knows too
abbrev pub Kept : {A : Type 0} → Option A → Option A → Type 0
Kept {A} o p = (d : A) → o ≡ Some d → p ≡ Some d

pub same_by : {A : Type 0} (f : Option A → Bool) → f None ≡ false → (o p : Option A) → Kept o p → f o ≡ true → p ≡ o
same_by f n None p k h = absurd (true≢false (sym h ∙ n))
same_by f n (Some d) p k h = k d refl

pub holds_kept : {A : Type 0} (f g : A → Bool) → ((d : A) → f d ≡ true → g d ≡ true) → (o p : Option A) → Kept o p → holds_of f o ≡ true → holds_of g p ≡ true
holds_kept f g w None p k h = absurd (true≢false (sym h))
holds_kept f g w (Some d) p k h = subst (λ o. holds_of g o ≡ true) (sym (k d refl)) (w d h)

module _ (t u : Tables) (g : Grows t u) where
  var_type_kept : (v : ℕ) (o : Option VarDef) → t.var_at v ≡ o → Kept (option_and_then (λ (d : VarDef). t.type_at d.of_type) o) (type_of_var u v)
  var_type_kept v None e d h = absurd (none-some d h)
  var_type_kept v (Some x) e d h = ap (option_and_then (λ (y : VarDef). u.type_at y.of_type)) (g.vars v x e) ∙ g.types x.of_type d h

  pub type_of_var_kept : (v : ℕ) → Kept (type_of_var t v) (type_of_var u v)
  type_of_var_kept v = var_type_kept v (t.var_at v) refl

  -- ---- expressions

  abbrev passed_fits : Passed → Bool
  passed_fits (scalar value) = value.fits
  passed_fits (whole access) = access.fits
  passed_fits (by_var access) = access.fits

  abbrev OfActual : Actual → Type 0
  OfActual a = passed_fits (passed t a) ≡ true → passed u a ≡ passed t a

  abbrev OfForm : ExprForm → Type 0
  OfForm e = (hosted_form t e).fits ≡ true → hosted_form u e ≡ hosted_form t e

  abbrev OfAccess : Access → Type 0
  OfAccess a = (reached t a).fits ≡ true → reached u a ≡ reached t a

  abbrev OfExpr : Expr → Type 0
  OfExpr e = (hosted t e).fits ≡ true → hosted u e ≡ hosted t e

  same_host_at : (n : ℕ) → (hosted_by (t.type_at n)).fits ≡ true → hosted_by (u.type_at n) ≡ hosted_by (t.type_at n)
  same_host_at n h = ap hosted_by (same_by (λ o. (hosted_by o).fits) refl (t.type_at n) (u.type_at n) (g.types n) h)

  same_index : (b : Bool) (n : ℕ) → has_host b (t.type_at n) ≡ true → u.type_at n ≡ t.type_at n
  same_index b n h = same_by (has_host b) refl (t.type_at n) (u.type_at n) (g.types n) h

  -- the lists of values without what is known of them
  abbrev exprs : List (With OfExpr) → List Expr
  exprs ys = map (λ (y : With OfExpr). y.0) ys

  abbrev actuals_in : List (With OfActual) → List Actual
  actuals_in ys = map (λ (y : With OfActual). y.0) ys

  -- one subscript, by the answers for it, for the index type and for the rest
  abbrev subscript_step : Hosted → Option TypeDef → Reached → Reached
  subscript_step s index rest = record { fits = (s.fits && has_host s.boolean index) && rest.fits; of_type = rest.of_type }

  -- subscripts that lead somewhere lead there again
  element_again : (n : ℕ) (y : With OfExpr) (ys : List (With OfExpr)) (o : Option TypeDef) → t.type_at n ≡ o
      → ((m : ℕ) → (subscripted t m (map (hosted t) (exprs ys))).fits ≡ true → subscripted u m (map (hosted u) (exprs ys)) ≡ subscripted t m (map (hosted t) (exprs ys)))
      → (element_of t (hosted t y.0) (λ m. subscripted t m (map (hosted t) (exprs ys))) o).fits ≡ true
      → element_of u (hosted u y.0) (λ m. subscripted u m (map (hosted u) (exprs ys))) (u.type_at n) ≡ element_of t (hosted t y.0) (λ m. subscripted t m (map (hosted t) (exprs ys))) o
  element_again n y ys None e rest h = absurd (true≢false (sym h))
  element_again n y ys (Some (Scalar boolean lo hi)) e rest h = absurd (true≢false (sym h))
  element_again n y ys (Some (Array index element)) e rest h =
      let p = and_parts ((hosted t y.0).fits && has_host (hosted t y.0).boolean (t.type_at index)) _ h in
      let r = and_parts (hosted t y.0).fits _ p.0 in
      ap (element_of u (hosted u y.0) (λ m. subscripted u m (map (hosted u) (exprs ys)))) (g.types n _ e)
      ∙ ap (λ s. subscript_step s (u.type_at index) (subscripted u element (map (hosted u) (exprs ys)))) (y.1 r.0)
      ∙ ap (λ o. subscript_step (hosted t y.0) o (subscripted u element (map (hosted u) (exprs ys)))) (same_index (hosted t y.0).boolean index r.1)
      ∙ ap (subscript_step (hosted t y.0) (t.type_at index)) (rest element p.1)

  subscripted_again : (ys : List (With OfExpr)) (n : ℕ) → (subscripted t n (map (hosted t) (exprs ys))).fits ≡ true → subscripted u n (map (hosted u) (exprs ys)) ≡ subscripted t n (map (hosted t) (exprs ys))
  subscripted_again [] n h = refl
  subscripted_again (y ∷ ys) n h = element_again n y ys (t.type_at n) refl (subscripted_again ys) h

  access_again : (ys : List (With OfExpr)) (v : ℕ) (o : Option VarDef) → t.var_at v ≡ o → (access_from t (map (hosted t) (exprs ys)) o).fits ≡ true → access_from u (map (hosted u) (exprs ys)) (u.var_at v) ≡ access_from t (map (hosted t) (exprs ys)) o
  access_again ys v None e h = absurd (true≢false (sym h))
  access_again ys v (Some d) e h = ap (access_from u (map (hosted u) (exprs ys))) (g.vars v d e) ∙ subscripted_again ys d.of_type h

  -- actuals that fit their formals fit them again
  passed_again : (a : Passed) (d : VarDef) → is_passed_to t a d ≡ true → is_passed_to u a d ≡ true
  passed_again (scalar value) d h =
      let p = and_parts value.fits _ h in
      let r = and_parts (is_kind kind.Value d.kind) _ p.1 in
      and_from _ _ p.0 (and_from _ _ r.0 (ap (has_host value.boolean) (same_index value.boolean d.of_type r.1) ∙ r.1))
  passed_again (whole access) d h =
      let p = and_parts access.fits _ h in
      let r = and_parts (is_kind kind.Value d.kind) _ p.1 in
      let s = and_parts (nat_eq access.of_type d.of_type) _ r.1 in
      and_from _ _ p.0 (and_from _ _ r.0 (and_from _ _ s.0 (ap is_array (same_by is_array refl (t.type_at d.of_type) (u.type_at d.of_type) (g.types d.of_type) s.1) ∙ s.1)))
  passed_again (by_var access) d h = h

  fits_passed : (a : Passed) (d : VarDef) → is_passed_to t a d ≡ true → passed_fits a ≡ true
  fits_passed (scalar value) d h = (and_parts value.fits _ h).0
  fits_passed (whole access) d h = (and_parts access.fits _ h).0
  fits_passed (by_var access) d h = (and_parts access.fits _ h).0

  fits_formal : (a : Passed) (o : Option VarDef) → holds_of (is_passed_to t a) o ≡ true → passed_fits a ≡ true
  fits_formal a None h = absurd (true≢false (sym h))
  fits_formal a (Some d) h = fits_passed a d h

  actuals_again : (ys : List (With OfActual)) (formals : List ℕ) → are_passed_to t (map (passed t) (actuals_in ys)) formals ≡ true → are_passed_to u (map (passed u) (actuals_in ys)) formals ≡ true
  actuals_again [] [] h = refl
  actuals_again [] (f ∷ formals) h = absurd (true≢false (sym h))
  actuals_again (y ∷ ys) [] h = absurd (true≢false (sym h))
  actuals_again (y ∷ ys) (f ∷ formals) h =
      let p = and_parts (holds_of (is_passed_to t (passed t y.0)) (t.var_at f)) _ h in
      let same = y.1 (fits_formal (passed t y.0) (t.var_at f) p.0) in
      let here = holds_kept (is_passed_to t (passed t y.0)) (is_passed_to u (passed t y.0)) (passed_again (passed t y.0)) (t.var_at f) (u.var_at f) (g.vars f) p.0 in
      and_from _ _ (subst (λ a. holds_of (is_passed_to u a) (u.var_at f) ≡ true) (sym same) here) (actuals_again ys formals p.1)

  slot_again : (slot : ℕ) (v : ℕ) → holds_of (λ (d : VarDef). holds_of (λ (s : VarDef). nat_eq s.of_type d.of_type) (t.var_at slot)) (t.var_at v) ≡ true → holds_of (λ (d : VarDef). holds_of (λ (s : VarDef). nat_eq s.of_type d.of_type) (u.var_at slot)) (u.var_at v) ≡ true
  slot_again slot v =
      holds_kept (λ d. holds_of (λ s. nat_eq s.of_type d.of_type) (t.var_at slot)) (λ d. holds_of (λ s. nat_eq s.of_type d.of_type) (u.var_at slot))
      (λ d. holds_kept (λ s. nat_eq s.of_type d.of_type) (λ s. nat_eq s.of_type d.of_type) (λ s e. e) (t.var_at slot) (u.var_at slot) (g.vars slot))
      (t.var_at v) (u.var_at v) (g.vars v)

  function_again : (ys : List (With OfActual)) (slot : ℕ) (d : Head) → function_fits t (map (passed t) (actuals_in ys)) slot d ≡ true → function_fits u (map (passed u) (actuals_in ys)) slot d ≡ true
  function_again ys slot d h =
      let p = and_parts (are_passed_to t (map (passed t) (actuals_in ys)) d.formals) _ h in
      and_from _ _ (actuals_again ys d.formals p.0) (holds_kept _ _ (slot_again slot) d.result d.result (λ v e. e) p.1)

  -- one level, by the answers for its parts
  actual_is : (x : Tables) (d : Actual-F Actual ExprForm Access Expr) → passed x (roll-Actual d) ≡ actual_type_step (map-Actual Actual ExprForm Access Expr Passed Hosted Reached Hosted (passed x) (hosted_form x) (reached x) (hosted x) d)
  actual_is x = fold-roll-Actual Passed Hosted Reached Hosted actual_type_step (form_type_step x) (access_type_step x) expr_type_step

  form_is : (x : Tables) (d : ExprForm-F Actual ExprForm Access Expr) → hosted_form x (roll-ExprForm d) ≡ form_type_step x (map-ExprForm Actual ExprForm Access Expr Passed Hosted Reached Hosted (passed x) (hosted_form x) (reached x) (hosted x) d)
  form_is x = fold-roll-ExprForm Passed Hosted Reached Hosted actual_type_step (form_type_step x) (access_type_step x) expr_type_step

  access_is : (x : Tables) (d : Access-F Actual ExprForm Access Expr) → reached x (roll-Access d) ≡ access_from x (map (hosted x) d.subscripts) (x.var_at d.var)
  access_is x = fold-roll-Access Passed Hosted Reached Hosted actual_type_step (form_type_step x) (access_type_step x) expr_type_step

  expr_is : (x : Tables) (d : Expr-F Actual ExprForm Access Expr) → hosted x (roll-Expr d) ≡ hosted_form x d.form
  expr_is x = fold-roll-Expr Passed Hosted Reached Hosted actual_type_step (form_type_step x) (access_type_step x) expr_type_step

  of_actual : (y : Actual-F (With OfActual) (With OfForm) (With OfAccess) (With OfExpr)) → OfActual (roll-Actual (map-Actual (With OfActual) (With OfForm) (With OfAccess) (With OfExpr) Actual ExprForm Access Expr (λ e. e.0) (λ e. e.0) (λ e. e.0) (λ e. e.0) y))
  of_actual (Actual-F.«Actual::Value» e) h = let d = Actual-F.«Actual::Value» e.0 in actual_is u d ∙ ap scalar (e.1 (sym (ap passed_fits (actual_is t d)) ∙ h)) ∙ sym (actual_is t d)
  of_actual (Actual-F.Whole a) h = let d = Actual-F.Whole a.0 in actual_is u d ∙ ap whole (a.1 (sym (ap passed_fits (actual_is t d)) ∙ h)) ∙ sym (actual_is t d)
  of_actual (Actual-F.Var a) h = let d = Actual-F.Var a.0 in actual_is u d ∙ ap by_var (a.1 (sym (ap passed_fits (actual_is t d)) ∙ h)) ∙ sym (actual_is t d)

  -- what fits, fits on the level itself
  form_fits : (d : ExprForm-F Actual ExprForm Access Expr) → (hosted_form t (roll-ExprForm d)).fits ≡ true → (form_type_step t (map-ExprForm Actual ExprForm Access Expr Passed Hosted Reached Hosted (passed t) (hosted_form t) (reached t) (hosted t) d)).fits ≡ true
  form_fits d h = sym (ap (λ (s : Hosted). s.fits) (form_is t d)) ∙ h

  of_form : (y : ExprForm-F (With OfActual) (With OfForm) (With OfAccess) (With OfExpr)) → OfForm (roll-ExprForm (map-ExprForm (With OfActual) (With OfForm) (With OfAccess) (With OfExpr) Actual ExprForm Access Expr (λ e. e.0) (λ e. e.0) (λ e. e.0) (λ e. e.0) y))
  of_form (ExprForm-F.Const boolean value) h = form_is u (ExprForm-F.Const boolean value) ∙ sym (form_is t (ExprForm-F.Const boolean value))
  of_form (ExprForm-F.«ExprForm::Value» a) h =
      let d = ExprForm-F.«ExprForm::Value» a.0 in
      let p = and_parts (reached t a.0).fits _ (form_fits d h) in
      form_is u d
      ∙ ap (λ (r : Reached). hosted_if r.fits (hosted_by (u.type_at r.of_type))) (a.1 p.0)
      ∙ ap (hosted_if (reached t a.0).fits) (same_host_at (reached t a.0).of_type p.1)
      ∙ sym (form_is t d)
  of_form (ExprForm-F.Unary op e at) h =
      let d = ExprForm-F.Unary op e.0 at in
      let p = and_parts (hosted t e.0).fits _ (form_fits d h) in
      form_is u d ∙ ap (unary_host op) (e.1 p.0) ∙ sym (form_is t d)
  of_form (ExprForm-F.Binary op l r at) h =
      let d = ExprForm-F.Binary op l.0 r.0 at in
      let p = and_parts ((hosted t l.0).fits && (hosted t r.0).fits) _ (form_fits d h) in
      let s = and_parts (hosted t l.0).fits _ p.0 in
      form_is u d ∙ ap (λ x. binary_host op x (hosted u r.0)) (l.1 s.0) ∙ ap (binary_host op (hosted t l.0)) (r.1 s.1) ∙ sym (form_is t d)
  of_form (ExprForm-F.Call routine actuals slot at) h =
      let d = ExprForm-F.Call routine (actuals_in actuals) slot at in
      let p = and_parts (holds_of (function_fits t (map (passed t) (actuals_in actuals)) slot) (t.head_at routine)) _ (form_fits d h) in
      let q = holds_kept (function_fits t (map (passed t) (actuals_in actuals)) slot) (function_fits u (map (passed u) (actuals_in actuals)) slot) (function_again actuals slot) (t.head_at routine) (u.head_at routine) (g.heads routine) p.0 in
      form_is u d
      ∙ ap (λ b. hosted_if b (hosted_by (type_of_var u slot))) (q ∙ sym p.0)
      ∙ ap (λ o. hosted_if (holds_of (function_fits t (map (passed t) (actuals_in actuals)) slot) (t.head_at routine)) (hosted_by o)) (same_by (λ o. (hosted_by o).fits) refl (type_of_var t slot) (type_of_var u slot) (type_of_var_kept slot) p.1)
      ∙ sym (form_is t d)

  of_access : (y : Access-F (With OfActual) (With OfForm) (With OfAccess) (With OfExpr)) → OfAccess (roll-Access (map-Access (With OfActual) (With OfForm) (With OfAccess) (With OfExpr) Actual ExprForm Access Expr (λ e. e.0) (λ e. e.0) (λ e. e.0) (λ e. e.0) y))
  of_access y h =
      let d = map-Access (With OfActual) (With OfForm) (With OfAccess) (With OfExpr) Actual ExprForm Access Expr (λ e. e.0) (λ e. e.0) (λ e. e.0) (λ e. e.0) y in
      access_is u d ∙ access_again y.subscripts y.var (t.var_at y.var) refl (sym (ap (λ (r : Reached). r.fits) (access_is t d)) ∙ h) ∙ sym (access_is t d)

  of_expr : (y : Expr-F (With OfActual) (With OfForm) (With OfAccess) (With OfExpr)) → OfExpr (roll-Expr (map-Expr (With OfActual) (With OfForm) (With OfAccess) (With OfExpr) Actual ExprForm Access Expr (λ e. e.0) (λ e. e.0) (λ e. e.0) (λ e. e.0) y))
  of_expr y h =
      let d = map-Expr (With OfActual) (With OfForm) (With OfAccess) (With OfExpr) Actual ExprForm Access Expr (λ e. e.0) (λ e. e.0) (λ e. e.0) (λ e. e.0) y in
      expr_is u d ∙ y.form.1 (sym (ap (λ (s : Hosted). s.fits) (expr_is t d)) ∙ h) ∙ sym (expr_is t d)

  pub expr_again : (e : Expr) → (hosted t e).fits ≡ true → hosted u e ≡ hosted t e
  expr_again =
      ind-Expr OfActual OfForm OfAccess OfExpr
      (λ x y is. subst (λ z. OfActual (roll-Actual z)) is (of_actual y))
      (λ x y is. subst (λ z. OfForm (roll-ExprForm z)) is (of_form y))
      (λ x y is. subst (λ z. OfAccess (roll-Access z)) is (of_access y))
      (λ x y is. subst (λ z. OfExpr (roll-Expr z)) is (of_expr y))

  pub access_type_again : (a : Access) → (reached t a).fits ≡ true → reached u a ≡ reached t a
  access_type_again =
      ind-Access OfActual OfForm OfAccess OfExpr
      (λ x y is. subst (λ z. OfActual (roll-Actual z)) is (of_actual y))
      (λ x y is. subst (λ z. OfForm (roll-ExprForm z)) is (of_form y))
      (λ x y is. subst (λ z. OfAccess (roll-Access z)) is (of_access y))
      (λ x y is. subst (λ z. OfExpr (roll-Expr z)) is (of_expr y))

  pub actual_type_again : (a : Actual) → passed_fits (passed t a) ≡ true → passed u a ≡ passed t a
  actual_type_again =
      ind-Actual OfActual OfForm OfAccess OfExpr
      (λ x y is. subst (λ z. OfActual (roll-Actual z)) is (of_actual y))
      (λ x y is. subst (λ z. OfForm (roll-ExprForm z)) is (of_form y))
      (λ x y is. subst (λ z. OfAccess (roll-Access z)) is (of_access y))
      (λ x y is. subst (λ z. OfExpr (roll-Expr z)) is (of_expr y))

  -- ---- statements

  host_again : (b : Bool) (e : Expr) → is_of_host b (hosted t e) ≡ true → is_of_host b (hosted u e) ≡ true
  host_again b e h = ap (is_of_host b) (expr_again e (and_parts (hosted t e).fits _ h).0) ∙ h

  target_again : (b : Bool) (a : Access) → is_target t b (reached t a) ≡ true → is_target u b (reached u a) ≡ true
  target_again b a h =
      let p = and_parts (reached t a).fits _ h in
      ap (is_target u b) (access_type_again a p.0) ∙ ap (λ o. (reached t a).fits && has_host b o) (same_index b (reached t a).of_type p.1) ∙ h

  with_actuals : List Actual → List (With OfActual)
  with_actuals xs = map (λ a. (a, actual_type_again a)) xs

  all_actuals : (xs : List Actual) → actuals_in (with_actuals xs) ≡ xs
  unfolding with_actuals
  all_actuals [] = refl
  all_actuals (a ∷ xs) = ap (λ ys. a ∷ ys) (all_actuals xs)

  procedure_again : (xs : List Actual) (d : Head) → procedure_fits t (map (passed t) xs) d ≡ true → procedure_fits u (map (passed u) xs) d ≡ true
  procedure_again xs d h =
      let p = and_parts (are_passed_to t (map (passed t) xs) d.formals) _ h in
      let q = subst (λ ys. are_passed_to t (map (passed t) ys) d.formals ≡ true → are_passed_to u (map (passed u) ys) d.formals ≡ true) (all_actuals xs) (actuals_again (with_actuals xs) d.formals) in
      and_from _ _ (q p.0) p.1

  written_again : (value : WriteValue) → written_fits t value ≡ true → written_fits u value ≡ true
  written_again (written.Value e) h = ap (λ (s : Hosted). s.fits) (expr_again e h) ∙ h
  written_again (written.Text bytes at) h = refl

  width_again : (width : Option Expr) → true_if_some (option_map (λ e. is_of_host false (hosted t e)) width) ≡ true → true_if_some (option_map (λ e. is_of_host false (hosted u e)) width) ≡ true
  width_again None h = refl
  width_again (Some e) h = host_again false e h

  item_again : (item : WriteItem) → item_fits t item ≡ true → item_fits u item ≡ true
  item_again item h = let p = and_parts (written_fits t item.value) _ h in and_from _ _ (written_again item.value p.0) (width_again item.width p.1)

  copy_again : (target source : Access) → copy_fits t (reached t target) (reached t source) ≡ true → copy_fits u (reached u target) (reached u source) ≡ true
  copy_again target source h =
      let p = and_parts ((reached t target).fits && (reached t source).fits) _ h in
      let q = and_parts (reached t target).fits _ p.0 in
      let r = and_parts (nat_eq (reached t target).of_type (reached t source).of_type) _ p.1 in
      let n = (reached t target).of_type in
      ap (λ x. copy_fits u x (reached u source)) (access_type_again target q.0)
      ∙ ap (copy_fits u (reached t target)) (access_type_again source q.1)
      ∙ and_from _ _ p.0 (and_from _ _ r.0 (ap is_array (same_by is_array refl (t.type_at n) (u.type_at n) (g.types n) r.1) ∙ r.1))

  loop_again : (control bound : ℕ) (first last : Expr) → loop_fits t control bound (hosted t first) (hosted t last) ≡ true → loop_fits u control bound (hosted u first) (hosted u last) ≡ true
  loop_again control bound first last h =
      let p = and_parts ((hosted t first).fits && (hosted t last).fits) _ h in
      let q = and_parts (hosted t first).fits _ p.0 in
      let r = and_parts (has_host (hosted t first).boolean (type_of_var t control) && has_host (hosted t last).boolean (type_of_var t control)) _ p.1 in
      let s = and_parts (has_host (hosted t first).boolean (type_of_var t control)) _ r.0 in
      let same = same_by (has_host (hosted t first).boolean) refl (type_of_var t control) (type_of_var u control) (type_of_var_kept control) s.0 in
      ap (λ x. loop_fits u control bound x (hosted u last)) (expr_again first q.0)
      ∙ ap (loop_fits u control bound (hosted t first)) (expr_again last q.1)
      ∙ and_from _ _ p.0 (and_from _ _ (subst (λ o. (has_host (hosted t first).boolean o && has_host (hosted t last).boolean o) ≡ true) (sym same) r.0) (slot_again bound control r.1))

  abbrev OfBody : Body → Type 0
  OfBody = Along (body_types_fit t) (body_types_fit u)

  abbrev OfArm : Arm → Type 0
  OfArm = Along (arm_types_fit t) (arm_types_fit u)

  abbrev OfStatement : Statement → Type 0
  OfStatement = Along (statement_types_fit t) (statement_types_fit u)

  abbrev statements : List (With OfStatement) → List Statement
  statements ys = map (λ (y : With OfStatement). y.0) ys

  arm_constants : (x : Tables) (a : Arm) → (arm_types x a).1 ≡ (out-Arm a).consts
  arm_constants x a = ap (λ b. b.1) (fold_out-Arm Bool (Bool × List ℤ) Bool (body_type_step x) arm_step statement_type_step a)

  same_constants : (arms : List Arm) → constants (map (arm_types t) arms) ≡ constants (map (arm_types u) arms)
  same_constants [] = refl
  same_constants (a ∷ arms) = ap (λ zs. zs ++ constants (map (arm_types t) arms)) (arm_constants t a ∙ sym (arm_constants u a)) ∙ ap (λ zs. (arm_types u a).1 ++ zs) (same_constants arms)

  arms_again : (arms : List (With OfArm)) → all_true (map (λ (a : Bool × List ℤ). a.0) (map (arm_types t) (map (λ (y : With OfArm). y.0) arms))) ≡ true → all_true (map (λ (a : Bool × List ℤ). a.0) (map (arm_types u) (map (λ (y : With OfArm). y.0) arms))) ≡ true
  arms_again [] h = refl
  arms_again (y ∷ arms) h = let p = and_parts (arm_types_fit t y.0) _ h in and_from _ _ (y.1 p.0) (arms_again arms p.1)

  from_body : (d : Body-F Body Arm Statement) → body_type_step u (map-Body Body Arm Statement Bool (Bool × List ℤ) Bool (body_types_fit u) (arm_types u) (statement_types_fit u) d) ≡ true → body_types_fit u (roll-Body d) ≡ true
  from_body d h = fold-roll-Body Bool (Bool × List ℤ) Bool (body_type_step u) arm_step statement_type_step d ∙ h

  to_body : (d : Body-F Body Arm Statement) → body_types_fit t (roll-Body d) ≡ true → body_type_step t (map-Body Body Arm Statement Bool (Bool × List ℤ) Bool (body_types_fit t) (arm_types t) (statement_types_fit t) d) ≡ true
  to_body d h = sym (fold-roll-Body Bool (Bool × List ℤ) Bool (body_type_step t) arm_step statement_type_step d) ∙ h

  of_body : (y : Body-F (With OfBody) (With OfArm) (With OfStatement)) → OfBody (roll-Body (map-Body (With OfBody) (With OfArm) (With OfStatement) Body Arm Statement (λ e. e.0) (λ e. e.0) (λ e. e.0) y))
  of_body Body-F.Empty h = from_body Body-F.Empty refl
  of_body (Body-F.Assign target value) h =
      let p = and_parts (hosted t value).fits _ (to_body (Body-F.Assign target value) h) in
      let same = expr_again value p.0 in
      from_body (Body-F.Assign target value) (ap (λ (s : Hosted). s.fits && is_target u s.boolean (reached u target)) same ∙ and_from _ _ p.0 (target_again (hosted t value).boolean target p.1))
  of_body (Body-F.Copy target source) h = from_body (Body-F.Copy target source) (copy_again target source (to_body (Body-F.Copy target source) h))
  of_body (Body-F.Call routine actuals at) h =
      from_body (Body-F.Call routine actuals at)
      (holds_kept (procedure_fits t (map (passed t) actuals)) (procedure_fits u (map (passed u) actuals)) (procedure_again actuals) (t.head_at routine) (u.head_at routine) (g.heads routine) (to_body (Body-F.Call routine actuals at) h))
  of_body (Body-F.Read targets line) h = from_body (Body-F.Read targets line) (list_all_weaker _ _ (target_again false) targets (to_body (Body-F.Read targets line) h))
  of_body (Body-F.Write items line) h = from_body (Body-F.Write items line) (list_all_weaker (item_fits t) (item_fits u) item_again items (to_body (Body-F.Write items line) h))
  of_body (Body-F.Goto routine label) h = from_body (Body-F.Goto routine label) refl
  of_body (Body-F.Begin body end) h = from_body (Body-F.Begin (statements body) end) (all_along (statement_types_fit t) (statement_types_fit u) body (to_body (Body-F.Begin (statements body) end) h))
  of_body (Body-F.If test first None) h =
      let p = and_parts (is_of_host true (hosted t test)) _ (to_body (Body-F.If test first.0 None) h) in
      let r = and_parts (statement_types_fit t first.0) _ p.1 in
      from_body (Body-F.If test first.0 None) (and_from _ _ (host_again true test p.0) (and_from _ _ (first.1 r.0) refl))
  of_body (Body-F.If test first (Some second)) h =
      let p = and_parts (is_of_host true (hosted t test)) _ (to_body (Body-F.If test first.0 (Some second.0)) h) in
      let r = and_parts (statement_types_fit t first.0) _ p.1 in
      from_body (Body-F.If test first.0 (Some second.0)) (and_from _ _ (host_again true test p.0) (and_from _ _ (first.1 r.0) (second.1 r.1)))
  of_body (Body-F.Case selector arms) h =
      let old = map (λ (y : With OfArm). y.0) arms in
      let p = and_parts (hosted t selector).fits _ (to_body (Body-F.Case selector old) h) in
      let r = and_parts (list_all (in_host (hosted t selector).boolean) (constants (map (arm_types t) old))) _ p.1 in
      from_body (Body-F.Case selector old)
      (ap (λ (s : Hosted). s.fits && (list_all (in_host s.boolean) (constants (map (arm_types u) old)) && all_true (map (λ (a : Bool × List ℤ). a.0) (map (arm_types u) old)))) (expr_again selector p.0)
      ∙ and_from _ _ p.0 (and_from _ _ (subst (λ zs. list_all (in_host (hosted t selector).boolean) zs ≡ true) (same_constants old) r.0) (arms_again arms r.1)))
  of_body (Body-F.While test body) h =
      let p = and_parts (is_of_host true (hosted t test)) _ (to_body (Body-F.While test body.0) h) in
      from_body (Body-F.While test body.0) (and_from _ _ (host_again true test p.0) (body.1 p.1))
  of_body (Body-F.Repeat body at test) h =
      let p = and_parts (all_true (map (statement_types_fit t) (statements body))) _ (to_body (Body-F.Repeat (statements body) at test) h) in
      from_body (Body-F.Repeat (statements body) at test) (and_from _ _ (all_along (statement_types_fit t) (statement_types_fit u) body p.0) (host_again true test p.1))
  of_body (Body-F.For control bound first down last body) h =
      let p = and_parts (loop_fits t control bound (hosted t first) (hosted t last)) _ (to_body (Body-F.For control bound first down last body.0) h) in
      from_body (Body-F.For control bound first down last body.0) (and_from _ _ (loop_again control bound first last p.0) (body.1 p.1))

  of_arm : (y : Arm-F (With OfBody) (With OfArm) (With OfStatement)) → OfArm (roll-Arm (map-Arm (With OfBody) (With OfArm) (With OfStatement) Body Arm Statement (λ e. e.0) (λ e. e.0) (λ e. e.0) y))
  of_arm y h =
      let d = map-Arm (With OfBody) (With OfArm) (With OfStatement) Body Arm Statement (λ e. e.0) (λ e. e.0) (λ e. e.0) y in
      ap (λ a. a.0) (fold-roll-Arm Bool (Bool × List ℤ) Bool (body_type_step u) arm_step statement_type_step d)
      ∙ y.body.1 (sym (ap (λ a. a.0) (fold-roll-Arm Bool (Bool × List ℤ) Bool (body_type_step t) arm_step statement_type_step d)) ∙ h)

  of_statement : (y : Statement-F (With OfBody) (With OfArm) (With OfStatement)) → OfStatement (roll-Statement (map-Statement (With OfBody) (With OfArm) (With OfStatement) Body Arm Statement (λ e. e.0) (λ e. e.0) (λ e. e.0) y))
  of_statement y h =
      let d = map-Statement (With OfBody) (With OfArm) (With OfStatement) Body Arm Statement (λ e. e.0) (λ e. e.0) (λ e. e.0) y in
      fold-roll-Statement Bool (Bool × List ℤ) Bool (body_type_step u) arm_step statement_type_step d
      ∙ y.body.1 (sym (fold-roll-Statement Bool (Bool × List ℤ) Bool (body_type_step t) arm_step statement_type_step d) ∙ h)

  pub statement_again : (s : Statement) → statement_types_fit t s ≡ true → statement_types_fit u s ≡ true
  statement_again =
      ind-Statement OfBody OfArm OfStatement
      (λ x y is. subst (λ z. OfBody (roll-Body z)) is (of_body y))
      (λ x y is. subst (λ z. OfArm (roll-Arm z)) is (of_arm y))
      (λ x y is. subst (λ z. OfStatement (roll-Statement z)) is (of_statement y))
