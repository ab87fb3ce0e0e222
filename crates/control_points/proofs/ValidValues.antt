-- In a valid state the value of an expression whose scopes and types fit, where it is no error, is a number of the expression's host.
use Rattle.std.proofs.Common.{◌≡◌, ℕ, Bool, true, false, ◌&&◌, List, ℤ, pos, neg_ℤ, int_le, map, refl, sym, ap, subst, ◌∙◌, Result, Ok, Err, Option, Some, None, option_and_then, nat_eq, arith}
use Rattle.std.proofs.lemmas.Bool.{and_parts, and_from, true≢false}
use Rattle.std.proofs.lemmas.Int.{ints}
use Rattle.px_base.specs.declared.kind.Kind.{Kind}
use Rattle.pas_program.specs.declared.expr.Access.{Access}
use Rattle.pas_program.specs.declared.expr.Actual.{Actual}
use Rattle.pas_program.specs.declared.expr.Actual.TheFolds.{fold-roll-ExprForm, fold-roll-Expr, ind-Expr, map-Expr, map-ExprForm}
use Rattle.pas_program.specs.declared.expr.Actual.TheOpen.{ExprForm-F, Expr-F}
use Rattle.pas_program.specs.declared.expr.Actual.TheViews.{roll-Expr, roll-ExprForm}
use Rattle.pas_program.specs.declared.expr.Expr.{Expr}
use Rattle.pas_program.specs.declared.expr.ExprForm.{ExprForm}
use Rattle.pas_program.specs.declared.type_def.TypeDef.{TypeDef}
use Rattle.pas_program.specs.declared.type_def.TypeDef.TheVariants.{Scalar, Array}
use Rattle.pas_program.specs.declared.variable.VarDef.{VarDef}
use Rattle.pas_program.specs.declared.variable.VarKind.TheVariants as kind
use Rattle.pas_program.specs.Each.{each_expr, each_form}
use Rattle.pas_program.specs.Scopes.{scope_rule}
use Rattle.pas_program.specs.Tables.{Tables, Head, holds_of, is_around, is_callable, is_kind, is_own}
use Rattle.pas_program.specs.Typed.{Hosted, Reached, Passed, hosted, hosted_form, hosted_by, reached, passed, type_of_var, actual_type_step, form_type_step, access_type_step, expr_type_step}
use Rattle.pas_program.specs.Types.{in_host, maxint}
use Rattle.pas_program.proofs.Weaker.{With, to_expr, to_form}
use Rattle.control_points.specs.Actions.{top_depth, view}
use Rattle.control_points.specs.Chart.{Chart}
use Rattle.control_points.specs.Evaluation.{Answer, View, Spot, Valued, placed, used, is_value_of, value, spot, form_step, access_step, expr_step}
use Rattle.control_points.specs.States.{State}
use Rattle.control_points.specs.ValidStates.{Denotes, IsOf, IsValid, type_of_variable}
use Rattle.control_points.specs.WellFormed.{TablesFit}
use Rattle.control_points.proofs.ValidActions.{sees_own}
use Rattle.control_points.proofs.ValidBasics.{no_error, same_Ok, then_ok, defined_ok, holds_found}
use Rattle.control_points.proofs.ValidNumbers.{unary_in_host, binary_in_host}
use Rattle.control_points.proofs.ValidPlaces.{spot_denotes, variable_denotes, var_type_is}
use Rattle.control_points.proofs.Values.{form_value, valued-expr, form_value-Const, form_value-Value, form_value-Unary, form_value-Binary}

-- ---- hosts

-- z lies between two numbers of a host
integer_between : (a b lo hi z : ℤ) → (int_le a lo && int_le lo b) ≡ true → (int_le a hi && int_le hi b) ≡ true → (int_le lo z && int_le z hi) ≡ true → (int_le a z && int_le z b) ≡ true
integer_between a b lo hi z l h k =
    let x = and_parts (int_le a lo) _ l in
    let y = and_parts (int_le a hi) _ h in
    let w = and_parts (int_le lo z) _ k in
    and_from _ _ (later a lo z x.0 w.0) (later z hi b w.1 y.1)
  where
    later : (p q r : ℤ) → int_le p q ≡ true → int_le q r ≡ true → int_le p r ≡ true
    later p q r e f = grind (arith, ints)

host_between : (boolean : Bool) (lo hi z : ℤ) → in_host boolean lo ≡ true → in_host boolean hi ≡ true → (int_le lo z && int_le z hi) ≡ true → in_host boolean z ≡ true
host_between true lo hi z l h k = integer_between (pos 0) (pos 1) lo hi z l h k
host_between false lo hi z l h k = integer_between (neg_ℤ (pos maxint)) (pos maxint) lo hi z l h k

pub value_in_host : (t : Tables) (main : ℕ) → TablesFit t main → (n : ℕ) (o : Option TypeDef) → t.type_at n ≡ o → (z : ℤ) → is_value_of o z ≡ true → in_host (hosted_by o).boolean z ≡ true
value_in_host t main fits n (Some (Scalar boolean lo hi)) is z h = host_between boolean lo hi z (fits.low n boolean lo hi is) (fits.high n boolean lo hi is) h
value_in_host t main fits n (Some (Array index element)) is z h = absurd (true≢false (sym h))
value_in_host t main fits n None is z h = absurd (true≢false (sym h))

host_typed : (o : Option TypeDef) → (hosted_by o).fits ≡ true → (d : TypeDef) × (o ≡ Some d)
host_typed (Some d) h = (d, refl)
host_typed None h = absurd (true≢false (sym h))

placed_ok : (at : ℕ) (r : Result ℤ Kind) (z : ℤ) → placed at r ≡ Ok z → r ≡ Ok z
placed_ok at (Ok y) z h = ap (λ (w : ℤ). Ok w) (same_Ok y z h)
placed_ok at (Err k) z h = absurd (no_error _ z h)

-- ---- one level

pub hosted_form_is : (t : Tables) (d : ExprForm-F Actual ExprForm Access Expr) → hosted_form t (roll-ExprForm d) ≡ form_type_step t (map-ExprForm Actual ExprForm Access Expr Passed Hosted Reached Hosted (passed t) (hosted_form t) (reached t) (hosted t) d)
hosted_form_is t d = fold-roll-ExprForm Passed Hosted Reached Hosted actual_type_step (form_type_step t) (access_type_step t) expr_type_step d

pub hosted_is : (t : Tables) (d : Expr-F Actual ExprForm Access Expr) → hosted t (roll-Expr d) ≡ hosted_form t d.form
hosted_is t d = fold-roll-Expr Passed Hosted Reached Hosted actual_type_step (form_type_step t) (access_type_step t) expr_type_step d

pub form_value-Call : (v : View) (routine : ℕ) (actuals : List Actual) (slot at : ℕ) → form_value v (roll-ExprForm (ExprForm-F.Call routine actuals slot at)) ≡ used v (record { place = v.place slot; at = at })
form_value-Call v routine actuals slot at = fold-roll-ExprForm (Unit {0}) (Answer ℤ) (Answer Spot) Valued (λ a. tt) (form_step v) (access_step v) expr_step (ExprForm-F.Call routine actuals slot at)

pub variable_type : (t : Tables) (u : ℕ) (x : VarDef) → t.var_at u ≡ Some x → type_of_var t u ≡ type_of_variable t u
variable_type t u x h = ap (option_and_then (λ (d : VarDef). t.type_at d.of_type)) h ∙ ap t.type_at (sym (var_type_is t u x h))

module _ (c : Chart) (fits : TablesFit c.tables c.main) (s : State) (v : IsValid c s) (r : ℕ) (here : IsOf s.stack (top_depth s.stack) r) where
  abbrev OfExpr : Expr → Type 0
  OfExpr e = each_expr (scope_rule c.tables r) e ≡ true → (hosted c.tables e).fits ≡ true → (z : ℤ) → value (view c s) e ≡ Ok z → in_host (hosted c.tables e).boolean z ≡ true

  abbrev OfForm : ExprForm → Type 0
  OfForm e = each_form (scope_rule c.tables r) e ≡ true → (hosted_form c.tables e).fits ≡ true → (z : ℤ) → form_value (view c s) e ≡ Ok z → in_host (hosted_form c.tables e).boolean z ≡ true

  abbrev OfAccess : Access → Type 0
  OfAccess a = Unit {0}

  abbrev OfActual : Actual → Type 0
  OfActual a = Unit {0}

  -- what is stored at a place of a scalar type is a number of the type's host
  used_in_host : (p : Spot) (n : ℕ) (z : ℤ) → Denotes c s.stack p.place (c.tables.type_at n) → used (view c s) p ≡ Ok z → in_host (hosted_by (c.tables.type_at n)).boolean z ≡ true
  used_in_host p n z place h =
      let x = v.stored p.place z (defined_ok p.at (s.store p.place) z h) in
      value_in_host c.tables c.main fits n (c.tables.type_at n) refl z (ap (λ o. is_value_of o z) (sym place.typed) ∙ x.fits)

  -- of an expression with the type step d, whose types fit and whose value z is a number of the host that the step gives
  form_in_host : (d : ExprForm-F Actual ExprForm Access Expr) (z : ℤ)
      → in_host (form_type_step c.tables (map-ExprForm Actual ExprForm Access Expr Passed Hosted Reached Hosted (passed c.tables) (hosted_form c.tables) (reached c.tables) (hosted c.tables) d)).boolean z ≡ true
      → in_host (hosted_form c.tables (roll-ExprForm d)).boolean z ≡ true
  form_in_host d z h = ap (λ (k : Hosted). in_host k.boolean z) (hosted_form_is c.tables d) ∙ h

  form_fits : (d : ExprForm-F Actual ExprForm Access Expr) → (hosted_form c.tables (roll-ExprForm d)).fits ≡ true
      → (form_type_step c.tables (map-ExprForm Actual ExprForm Access Expr Passed Hosted Reached Hosted (passed c.tables) (hosted_form c.tables) (reached c.tables) (hosted c.tables) d)).fits ≡ true
  form_fits d h = ap (λ (k : Hosted). k.fits) (sym (hosted_form_is c.tables d)) ∙ h

  of_form : (y : ExprForm-F (With OfActual) (With OfForm) (With OfAccess) (With OfExpr)) → OfForm (roll-ExprForm (map-ExprForm (With OfActual) (With OfForm) (With OfAccess) (With OfExpr) Actual ExprForm Access Expr (λ e. e.0) (λ e. e.0) (λ e. e.0) (λ e. e.0) y))
  of_form (ExprForm-F.Const boolean n) scope types z h =
      form_in_host (ExprForm-F.Const boolean n) z
      (subst (λ w. in_host boolean w ≡ true) (same_Ok n z (sym (form_value-Const (view c s) boolean n) ∙ h)) (form_fits (ExprForm-F.Const boolean n) types))
  of_form (ExprForm-F.«ExprForm::Value» a) scope types z h =
      let x = then_ok (spot (view c s) (a.0)) (used (view c s)) z (sym (form_value-Value (view c s) (a.0)) ∙ h) in
      let fit = and_parts (reached c.tables (a.0)).fits _ (form_fits (ExprForm-F.«ExprForm::Value» (a.0)) types) in
      let n = (reached c.tables (a.0)).of_type in
      let d = host_typed (c.tables.type_at n) fit.1 in
      form_in_host (ExprForm-F.«ExprForm::Value» (a.0)) z
      (used_in_host x.0 n z (spot_denotes c fits s v.stack r here a.0 x.0 d.0 (to_form (scope_rule c.tables r) (ExprForm-F.«ExprForm::Value» (a.0)) scope) fit.0 d.1 x.1) x.2)
  of_form (ExprForm-F.Unary op e at) scope types z h =
      let x = then_ok (value (view c s) (e.0)) _ z (sym (form_value-Unary (view c s) op (e.0) at) ∙ h) in
      let fit = and_parts (hosted c.tables (e.0)).fits _ (form_fits (ExprForm-F.Unary op (e.0) at) types) in
      form_in_host (ExprForm-F.Unary op (e.0) at) z
      (unary_in_host op (hosted c.tables (e.0)).boolean x.0 z fit.1 (e.1 (to_form (scope_rule c.tables r) (ExprForm-F.Unary op (e.0) at) scope) fit.0 x.0 x.1) (placed_ok at _ z x.2))
  of_form (ExprForm-F.Binary op left right at) scope types z h =
      let x = then_ok (value (view c s) (left.0)) _ z (sym (form_value-Binary (view c s) op (left.0) (right.0) at) ∙ h) in
      let y = then_ok (value (view c s) (right.0)) _ z x.2 in
      let fit = and_parts ((hosted c.tables (left.0)).fits && (hosted c.tables (right.0)).fits) _ (form_fits (ExprForm-F.Binary op (left.0) (right.0) at) types) in
      let both = and_parts (hosted c.tables (left.0)).fits _ fit.0 in
      let seen = and_parts (each_expr (scope_rule c.tables r) (left.0)) _ (to_form (scope_rule c.tables r) (ExprForm-F.Binary op (left.0) (right.0) at) scope) in
      form_in_host (ExprForm-F.Binary op (left.0) (right.0) at) z
      (binary_in_host op (hosted c.tables (left.0)).boolean (hosted c.tables (right.0)).boolean x.0 y.0 z fit.1 (left.1 seen.0 both.0 x.0 x.1) (right.1 seen.1 both.1 y.0 y.1) (placed_ok at _ z y.2))
  of_form (ExprForm-F.Call routine actuals slot at) scope types z h =
      let xs = map (λ (e : With OfActual). e.0) actuals in
      let m = and_parts (is_callable c.tables r routine && is_own c.tables r kind.Slot slot) _ (to_form (scope_rule c.tables r) (ExprForm-F.Call routine xs slot at) scope) in
      let n = and_parts (is_callable c.tables r routine) _ m.0 in
      let g = holds_found (λ (h : Head). holds_of (λ p. is_around c.tables r p) h.parent) (c.tables.head_at routine) n.0 in
      let o = holds_found (λ p. is_around c.tables r p) (g.0).parent g.2 in
      let x = holds_found (λ (d : VarDef). nat_eq d.routine r && is_kind kind.Slot d.kind) (c.tables.var_at slot) n.1 in
      let place = variable_denotes c fits s v.stack r here slot (sees_own c.tables r o.0 slot kind.Slot o.2 n.1) in
      let used_is = sym (form_value-Call (view c s) routine xs slot at) ∙ h in
      let typed = variable_type c.tables slot x.0 x.1 in
      form_in_host (ExprForm-F.Call routine xs slot at) z
      (ap (λ t. in_host (hosted_by t).boolean z) typed
      ∙ used_in_host (record { place = (view c s).place slot; at = at }) _ z place used_is)

  of_expr : (y : Expr-F (With OfActual) (With OfForm) (With OfAccess) (With OfExpr)) → OfExpr (roll-Expr (map-Expr (With OfActual) (With OfForm) (With OfAccess) (With OfExpr) Actual ExprForm Access Expr (λ e. e.0) (λ e. e.0) (λ e. e.0) (λ e. e.0) y))
  of_expr y scope types z h =
      let d = map-Expr (With OfActual) (With OfForm) (With OfAccess) (With OfExpr) Actual ExprForm Access Expr (λ e. e.0) (λ e. e.0) (λ e. e.0) (λ e. e.0) y in
      let is = hosted_is c.tables d in
      ap (λ (k : Hosted). in_host k.boolean z) is
      ∙ y.form.1 (to_expr (scope_rule c.tables r) d scope) (ap (λ (k : Hosted). k.fits) (sym is) ∙ types) z (sym (ap (λ (w : Valued). w.value) (valued-expr (view c s) y.first ((y.form).0))) ∙ h)

  pub expr_in_host : (e : Expr) → each_expr (scope_rule c.tables r) e ≡ true → (hosted c.tables e).fits ≡ true → (z : ℤ) → value (view c s) e ≡ Ok z → in_host (hosted c.tables e).boolean z ≡ true
  expr_in_host =
      ind-Expr OfActual OfForm OfAccess OfExpr
      (λ x y is. tt)
      (λ x y is. subst (λ z. OfForm (roll-ExprForm z)) is (of_form y))
      (λ x y is. tt)
      (λ x y is. subst (λ z. OfExpr (roll-Expr z)) is (of_expr y))
