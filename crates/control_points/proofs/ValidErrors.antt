-- In a valid state an error of an expression is one of those that the expression may be, or it is that a slot is undefined.
use Rattle.std.proofs.Common.{◌≡◌, ℕ, ◌⊎◌, Bool, true, false, not, ◌&&◌, List, [], ◌∷◌, ◌++◌, ℤ, pos, neg_ℤ, ◌+ℤ◌, ◌-ℤ◌, ◌*ℤ◌, int_le, int_lt, int_eq, map, Contains, refl, sym, ap, subst, ◌∙◌, inl, inr, Result, Ok, Err, Option, Some, None, arith}
use Rattle.std.proofs.lemmas.Bool.{and_parts, cases_Bool, cond-true, cond-false, true≢false}
use Rattle.std.proofs.lemmas.Bool.Decides.{Decides-int_eq}
use Rattle.std.proofs.lemmas.List.Elements.{Contains-append_left, Contains-append_right}
use Rattle.std.specs.Bool.{beq}
use Rattle.arithmetic.specs.Numbers.{is_number, is_boolean}
use Rattle.arithmetic.specs.Operators as Operators
use Rattle.arithmetic.specs.Operators.{quotient, modulus, negation, binary_result, unary_result}
use Rattle.px_base.specs.declared.kind.Kind.{Kind}
use Rattle.px_base.specs.declared.kind.Kind.TheVariants as kinds
use Rattle.px_base.specs.declared.operator.BinOp.{BinOp}
use Rattle.px_base.specs.declared.operator.BinOp.TheVariants as binary
use Rattle.px_base.specs.declared.operator.UnOp.{UnOp}
use Rattle.px_base.specs.declared.operator.UnOp.TheVariants as unary
use Rattle.pas_program.specs.declared.expr.Access.{Access}
use Rattle.pas_program.specs.declared.expr.Actual.{Actual}
use Rattle.pas_program.specs.declared.expr.Actual.TheFolds.{fold-roll-Access, fold-roll-Expr, fold-roll-ExprForm, fold_out-Access, fold_out-Expr, ind-Access, ind-Expr, map-Access, map-Expr, map-ExprForm}
use Rattle.pas_program.specs.declared.expr.Actual.TheOpen.{Access-F, ExprForm-F, Expr-F}
use Rattle.pas_program.specs.declared.expr.Actual.TheViews.{roll-Access, roll-Expr, roll-ExprForm, out-Access, out-Expr}
use Rattle.pas_program.specs.declared.expr.Expr.{Expr}
use Rattle.pas_program.specs.declared.expr.ExprForm.{ExprForm}
use Rattle.pas_program.specs.declared.type_def.TypeDef.{TypeDef}
use Rattle.pas_program.specs.declared.type_def.TypeDef.TheVariants.{Scalar, Array}
use Rattle.pas_program.specs.Each.{all_true, each_access, each_expr, each_form}
use Rattle.pas_program.specs.Scopes.{scope_rule}
use Rattle.pas_program.specs.Tables.{Tables, is_visible}
use Rattle.pas_program.specs.Typed.{Hosted, Reached, Passed, hosted, hosted_form, reached, passed, access_from, subscripted, element_of, unary_takes, actual_type_step, form_type_step, access_type_step, expr_type_step}
use Rattle.pas_program.specs.Types.{in_host, has_host, maxint}
use Rattle.pas_program.proofs.Weaker.{With, to_access, to_expr, to_form}
use Rattle.control_points.specs.declared.fault.Fault.{Fault}
use Rattle.control_points.specs.Actions.{top_depth, view}
use Rattle.control_points.specs.Chart.{Chart}
use Rattle.control_points.specs.Checking as Checking
use Rattle.control_points.specs.Checking.{Faults, Checked, one, one_if, is_narrow, unary_checks, binary_checks, subscripts_checks, checked_expr, form_checks, checked_access, expr_checks, access_checks}
use Rattle.control_points.specs.Evaluation as Evaluation
use Rattle.control_points.specs.Evaluation.{Answer, View, Spot, Valued, then_with, checked, placed, defined, used, is_value_of, index_type, element_type, subscript_values, var_type, value, spot}
use Rattle.control_points.specs.Foreseen.{joined, slot_access_step, slot_form_step, slot_expr_step, expr_slots, form_slots, access_slots}
use Rattle.control_points.specs.States.{State}
use Rattle.control_points.specs.ValidStates.{IsOf, IsValid}
use Rattle.control_points.specs.WellFormed.{TablesFit}
use Rattle.control_points.proofs.ValidBasics.{same_Ok, then_ok}
use Rattle.control_points.proofs.ValidPlaces.{from_variable, spot_is, var_type_is}
use Rattle.control_points.proofs.ValidValues.{expr_in_host, form_value-Call, hosted_form_is, hosted_is}
use Rattle.control_points.proofs.Values.{valued, form_value, valued-expr, form_value-Const, form_value-Value, form_value-Unary, form_value-Binary, spot-access}

-- ---- errors of two steps

pub same_Err : {A : Type 0} (d e : Fault) → ◌≡◌ {A = Answer A} (Err d) (Err e) → d ≡ e
same_Err d e h = cc

pub no_value : {A : Type 0} (x : A) (e : Fault) → ◌≡◌ {A = Answer A} (Ok x) (Err e) → ⊥
no_value x e h = cc

pub then_error : {A B : Type 0} (x : Answer A) (f : A → Answer B) (e : Fault) → then_with x f ≡ Err e → (x ≡ Err e) ⊎ ((v : A) × (x ≡ Ok v) × (f v ≡ Err e))
then_error {B} (Ok v) f e h = inr (v, refl, h)
then_error {B} (Err d) f e h = inl (ap Err (same_Err {A = B} d e h))

pub checked_error : (b : Bool) (kind : Kind) (at : ℕ) (z : ℤ) (e : Fault) → checked b kind at z ≡ Err e → (b ≡ false) × (◌≡◌ {A = Fault} (record { kind = kind; at = at }) e)
checked_error true kind at z e h = absurd (no_value z e h)
checked_error false kind at z e h = (refl, same_Err {A = ℤ} _ e h)

pub defined_error : (at : ℕ) (o : Option ℤ) (e : Fault) → defined at o ≡ Err e → ◌≡◌ {A = Fault} (record { kind = kinds.UndefinedValue; at = at }) e
defined_error at (Some z) e h = absurd (no_value z e h)
defined_error at None e h = same_Err {A = ℤ} _ e h

placed_error : (at : ℕ) (r : Result ℤ Kind) (e : Fault) → placed at r ≡ Err e → (k : Kind) × (r ≡ Err k) × (◌≡◌ {A = Fault} (record { kind = k; at = at }) e)
placed_error at (Ok z) e h = absurd (no_value z e h)
placed_error at (Err k) e h = (k, refl, same_Err {A = ℤ} _ e h)

-- ---- lists of errors

pub listed_one : (k : Kind) (at : ℕ) (f : Fault) → ◌≡◌ {A = Fault} (record { kind = k; at = at }) f → Contains (one k at) f
listed_one k at f h = (0, omega arith, h)

pub listed_if : (b : Bool) (k : Kind) (at : ℕ) (f : Fault) → b ≡ true → ◌≡◌ {A = Fault} (record { kind = k; at = at }) f → Contains (one_if b k at) f
listed_if b k at f e h = subst (λ (l : Faults). Contains l f) (sym (cond-true b (one k at) [] e)) (listed_one k at f h)

-- one of the errors with a check, or of those without
abbrev pub Seen : Faults → Faults → Fault → Type 0
Seen xs ys f = Contains xs f ⊎ Contains ys f

pub seen_left : (xs ys us vs : Faults) (f : Fault) → Seen xs us f → Seen (xs ++ ys) (us ++ vs) f
seen_left xs ys us vs f (inl h) = inl (Contains-append_left xs ys f h)
seen_left xs ys us vs f (inr h) = inr (Contains-append_left us vs f h)

pub seen_right : (xs ys us vs : Faults) (f : Fault) → Seen ys vs f → Seen (xs ++ ys) (us ++ vs) f
seen_right xs ys us vs f (inl h) = inl (Contains-append_right xs ys f h)
seen_right xs ys us vs f (inr h) = inr (Contains-append_right us vs f h)

-- with more checks after them, or before them
pub seen_first : (xs ys us : Faults) (f : Fault) → Seen xs us f → Seen (xs ++ ys) us f
seen_first xs ys us f (inl h) = inl (Contains-append_left xs ys f h)
seen_first xs ys us f (inr h) = inr h

pub seen_last : (xs ys us : Faults) (f : Fault) → Seen ys us f → Seen (xs ++ ys) us f
seen_last xs ys us f (inl h) = inl (Contains-append_right xs ys f h)
seen_last xs ys us f (inr h) = inr h

pub seen_at : (xs ys us vs : Faults) (f : Fault) → xs ≡ ys → us ≡ vs → Seen ys vs f → Seen xs us f
seen_at xs ys us vs f e g (inl h) = inl (subst (λ (l : Faults). Contains l f) (sym e) h)
seen_at xs ys us vs f e g (inr h) = inr (subst (λ (l : Faults). Contains l f) (sym g) h)

-- ---- a number of the host that is no value of a type

whole_range : (a b lo hi z : ℤ) → (int_eq lo a && int_eq hi b) ≡ true → (int_le a z && int_le z b) ≡ true → (int_le lo z && int_le z hi) ≡ true
whole_range a b lo hi z h k =
    let x = and_parts (int_eq lo a) _ h in
    ap (λ p. int_le p z && int_le z hi) ((Decides-int_eq lo a).0 x.0) ∙ ap (λ p. int_le a z && int_le z p) ((Decides-int_eq hi b).0 x.1) ∙ k

narrow_by : (b : Bool) → (b ≡ true → ⊥) → not b ≡ true
narrow_by true h = absurd (h refl)
narrow_by false h = refl

host_same : (a b : Bool) → beq a b ≡ true → a ≡ b
host_same true true h = refl
host_same false false h = refl
host_same true false h = absurd (true≢false (sym h))
host_same false true h = absurd (true≢false (sym h))

pub narrow_from : (o : Option TypeDef) (host : Bool) (z : ℤ) → has_host host o ≡ true → in_host host z ≡ true → is_value_of o z ≡ false → is_narrow o ≡ true
narrow_from None host z h k no_value = absurd (true≢false (sym h))
narrow_from (Some (Array index element)) host z h k no_value = absurd (true≢false (sym h))
narrow_from (Some (Scalar true lo hi)) host z h k no_value =
    narrow_by (int_eq lo (pos 0) && int_eq hi (pos 1))
    (λ e. true≢false (sym (whole_range (pos 0) (pos 1) lo hi z e (subst (λ b. in_host b z ≡ true) (host_same host true h) k)) ∙ no_value))
narrow_from (Some (Scalar false lo hi)) host z h k no_value =
    narrow_by (int_eq lo (neg_ℤ (pos maxint)) && int_eq hi (pos maxint))
    (λ e. true≢false (sym (whole_range (neg_ℤ (pos maxint)) (pos maxint) lo hi z e (subst (λ b. in_host b z ≡ true) (host_same host false h) k)) ∙ no_value))

-- ---- operators

same_kind_of : (j k : Kind) → ◌≡◌ {A = Result ℤ Kind} (Err j) (Err k) → j ≡ k
same_kind_of j k h = cc

no_error_of : (x : ℤ) (k : Kind) → ◌≡◌ {A = Result ℤ Kind} (Ok x) (Err k) → ⊥
no_error_of x k h = cc

checked_kind : (fits : ℤ → Bool) (j k : Kind) (x : ℤ) → Operators.checked fits j x ≡ Err k → j ≡ k
checked_kind fits j k x h =
    elim (cases_Bool (fits x)) [
      | inl e ↦ absurd (no_error_of x k (sym (cond-true (fits x) (Ok x) (Err j) e) ∙ h))
      | inr e ↦ same_kind_of j k (sym (cond-false (fits x) (Ok x) (Err j) e) ∙ h)
    ]

-- the only error that an operator may be, at its place
only : (j k : Kind) (at : ℕ) → j ≡ k → Contains (one j at) (record { kind = k; at = at })
only j k at h = listed_one j at (record { kind = k; at = at }) (ap (λ x. record { kind = x; at = at }) h)

unary_error : (op : UnOp) (b : Bool) (x : ℤ) (k : Kind) (at : ℕ) → unary_takes op b ≡ true → in_host b x ≡ true → unary_result op x ≡ Err k → Contains (unary_checks op at) (record { kind = k; at = at })
unary_error unary.Neg b x k at takes fits h = absurd (no_error_of _ k h)
unary_error unary.Not b x k at takes fits h = absurd (no_error_of _ k (sym (cond-true (is_boolean x) _ (Err kinds.NoResult) (subst (λ c. in_host c x ≡ true) takes fits)) ∙ h))
unary_error unary.Abs b x k at takes fits h = absurd (no_error_of _ k h)
unary_error unary.Sqr b x k at takes fits h = only kinds.Overflow k at (checked_kind is_number kinds.Overflow k (x *ℤ x) h)
unary_error unary.Odd b x k at takes fits h = absurd (no_error_of _ k h)
unary_error unary.SuccInt b x k at takes fits h = only kinds.NoNeighbour k at (checked_kind is_number kinds.NoNeighbour k (x +ℤ pos 1) h)
unary_error unary.PredInt b x k at takes fits h = only kinds.NoNeighbour k at (checked_kind is_number kinds.NoNeighbour k (x -ℤ pos 1) h)
unary_error unary.SuccBool b x k at takes fits h = only kinds.NoNeighbour k at (checked_kind is_boolean kinds.NoNeighbour k (x +ℤ pos 1) h)
unary_error unary.PredBool b x k at takes fits h = only kinds.NoNeighbour k at (checked_kind is_boolean kinds.NoNeighbour k (x -ℤ pos 1) h)
unary_error unary.OrdOf b x k at takes fits h = absurd (no_error_of _ k h)

quotient_kind : (x y : ℤ) (k : Kind) → quotient x y ≡ Err k → kinds.DivisionByZero ≡ k
quotient_kind x y k h =
    elim (cases_Bool (int_eq y (pos 0))) [
      | inl e ↦ same_kind_of kinds.DivisionByZero k (sym (cond-true (int_eq y (pos 0)) (Err kinds.DivisionByZero) _ e) ∙ h)
      | inr e ↦ absurd (no_error_of _ k (sym (cond-false (int_eq y (pos 0)) (Err kinds.DivisionByZero) _ e) ∙ h))
    ]

modulus_kind : (x y : ℤ) (k : Kind) → modulus x y ≡ Err k → kinds.ModulusNotPositive ≡ k
modulus_kind x y k h =
    elim (cases_Bool (int_lt (pos 0) y)) [
      | inl e ↦ absurd (no_error_of _ k (sym (cond-true (int_lt (pos 0) y) _ (Err kinds.ModulusNotPositive) e) ∙ h))
      | inr e ↦ same_kind_of kinds.ModulusNotPositive k (sym (cond-false (int_lt (pos 0) y) _ (Err kinds.ModulusNotPositive) e) ∙ h)
    ]

binary_error : (op : BinOp) (x y : ℤ) (k : Kind) (at : ℕ) → binary_result op x y ≡ Err k → Contains (binary_checks op at) (record { kind = k; at = at })
binary_error binary.Add x y k at h = only kinds.Overflow k at (checked_kind is_number kinds.Overflow k (x +ℤ y) h)
binary_error binary.Sub x y k at h = only kinds.Overflow k at (checked_kind is_number kinds.Overflow k (x -ℤ y) h)
binary_error binary.Mul x y k at h = only kinds.Overflow k at (checked_kind is_number kinds.Overflow k (x *ℤ y) h)
binary_error binary.Div x y k at h = only kinds.DivisionByZero k at (quotient_kind x y k h)
binary_error binary.Mod x y k at h = only kinds.ModulusNotPositive k at (modulus_kind x y k h)
binary_error binary.And x y k at h = absurd (no_error_of _ k h)
binary_error binary.Or x y k at h = absurd (no_error_of _ k h)
binary_error binary.Eq x y k at h = absurd (no_error_of _ k h)
binary_error binary.Ne x y k at h = absurd (no_error_of _ k h)
binary_error binary.Lt x y k at h = absurd (no_error_of _ k h)
binary_error binary.Le x y k at h = absurd (no_error_of _ k h)
binary_error binary.Gt x y k at h = absurd (no_error_of _ k h)
binary_error binary.Ge x y k at h = absurd (no_error_of _ k h)

-- ---- one level of an expression: its checks and its slots

checks_of_form : (t : Tables) (d : ExprForm-F Actual ExprForm Access Expr) → form_checks t (roll-ExprForm d) ≡ Checking.form_step t (map-ExprForm Actual ExprForm Access Expr (Unit {0}) Faults Checked Checked (λ a. tt) (form_checks t) (checked_access t) (checked_expr t) d)
checks_of_form t d = fold-roll-ExprForm (Unit {0}) Faults Checked Checked (λ a. tt) (Checking.form_step t) (Checking.access_step t) Checking.expr_step d

slots_of_form : (d : ExprForm-F Actual ExprForm Access Expr) → form_slots (roll-ExprForm d) ≡ slot_form_step (map-ExprForm Actual ExprForm Access Expr (Unit {0}) Faults Faults Faults (λ a. tt) form_slots access_slots expr_slots d)
slots_of_form d = fold-roll-ExprForm (Unit {0}) Faults Faults Faults (λ a. tt) slot_form_step slot_access_step slot_expr_step d

checks_of_expr : (t : Tables) (d : Expr-F Actual ExprForm Access Expr) → checked_expr t (roll-Expr d) ≡ record { first = d.first; faults = form_checks t d.form }
checks_of_expr t d = fold-roll-Expr (Unit {0}) Faults Checked Checked (λ a. tt) (Checking.form_step t) (Checking.access_step t) Checking.expr_step d

slots_of_expr : (d : Expr-F Actual ExprForm Access Expr) → expr_slots (roll-Expr d) ≡ form_slots d.form
slots_of_expr d = fold-roll-Expr (Unit {0}) Faults Faults Faults (λ a. tt) slot_form_step slot_access_step slot_expr_step d

checks_of_access : (t : Tables) (d : Access-F Actual ExprForm Access Expr) → checked_access t (roll-Access d) ≡ record { first = d.at; faults = subscripts_checks t (var_type t d.var) (map (checked_expr t) d.subscripts) }
checks_of_access t d = fold-roll-Access (Unit {0}) Faults Checked Checked (λ a. tt) (Checking.form_step t) (Checking.access_step t) Checking.expr_step d

slots_of_access : (d : Access-F Actual ExprForm Access Expr) → access_slots (roll-Access d) ≡ joined (map expr_slots d.subscripts)
slots_of_access d = fold-roll-Access (Unit {0}) Faults Faults Faults (λ a. tt) slot_form_step slot_access_step slot_expr_step d

-- the first place of an expression is one thing to both
first_valued : (v : View) (e : Expr) → (valued v e).first ≡ (out-Expr e).first
first_valued v e = ap (λ (w : Valued). w.first) (fold_out-Expr (Unit {0}) (Answer ℤ) (Answer Spot) Valued (λ a. tt) (Evaluation.form_step v) (Evaluation.access_step v) Evaluation.expr_step e)

first_checked : (t : Tables) (e : Expr) → (checked_expr t e).first ≡ (out-Expr e).first
first_checked t e = ap (λ (w : Checked). w.first) (fold_out-Expr (Unit {0}) Faults Checked Checked (λ a. tt) (Checking.form_step t) (Checking.access_step t) Checking.expr_step e)

-- the place of an access is that of its variable's name
place_same_as : (t : Tables) (v : View) (a : Access) (p : Spot) → spot v a ≡ Ok p → (checked_access t a).first ≡ p.at
place_same_as t v a p h =
    let x = then_ok (subscript_values v.tables (var_type v.tables (out-Access a).var) (map (valued v) (out-Access a).subscripts)) _ p (sym (spot_is v a) ∙ h) in
    ap (λ (w : Checked). w.first) (fold_out-Access (Unit {0}) Faults Checked Checked (λ a. tt) (Checking.form_step t) (Checking.access_step t) Checking.expr_step a)
    ∙ ap (λ (q : Spot). q.at) (same_Ok _ p x.2)

-- the types of a form and of an access, by what they are made of
form_fits_at : (t : Tables) (d : ExprForm-F Actual ExprForm Access Expr) → (hosted_form t (roll-ExprForm d)).fits ≡ true → (form_type_step t (map-ExprForm Actual ExprForm Access Expr Passed Hosted Reached Hosted (passed t) (hosted_form t) (reached t) (hosted t) d)).fits ≡ true
form_fits_at t d h = ap (λ (k : Hosted). k.fits) (sym (hosted_form_is t d)) ∙ h

reached_rolled : (t : Tables) (d : Access-F Actual ExprForm Access Expr) → reached t (roll-Access d) ≡ access_from t (map (hosted t) d.subscripts) (t.var_at d.var)
reached_rolled t d = fold-roll-Access Passed Hosted Reached Hosted actual_type_step (form_type_step t) (access_type_step t) expr_type_step d

-- ---- expressions and accesses

module _ (c : Chart) (fits : TablesFit c.tables c.main) (s : State) (v : IsValid c s) (r : ℕ) (here : IsOf s.stack (top_depth s.stack) r) where
  abbrev OfExpr : Expr → Type 0
  OfExpr e = each_expr (scope_rule c.tables r) e ≡ true → (hosted c.tables e).fits ≡ true → (f : Fault) → value (view c s) e ≡ Err f → Seen (expr_checks c.tables e) (expr_slots e) f

  abbrev OfForm : ExprForm → Type 0
  OfForm e = each_form (scope_rule c.tables r) e ≡ true → (hosted_form c.tables e).fits ≡ true → (f : Fault) → form_value (view c s) e ≡ Err f → Seen (form_checks c.tables e) (form_slots e) f

  abbrev OfAccess : Access → Type 0
  OfAccess a = each_access (scope_rule c.tables r) a ≡ true → (reached c.tables a).fits ≡ true → (f : Fault) → spot (view c s) a ≡ Err f → Seen (access_checks c.tables a) (access_slots a) f

  abbrev OfActual : Actual → Type 0
  OfActual a = Unit {0}

  abbrev exprs : List (With OfExpr) → List Expr
  exprs ys = map (λ (y : With OfExpr). y.0) ys

  -- the first subscript, of a variable of the type o
  subscript_error : (y : With OfExpr) (ys : List (With OfExpr)) (o : Option TypeDef)
      → all_true (map (each_expr (scope_rule c.tables r)) (exprs (y ∷ ys))) ≡ true
      → ((n : ℕ) → (subscripted c.tables n (map (hosted c.tables) (exprs ys))).fits ≡ true → (f : Fault) → subscript_values c.tables n (map (valued (view c s)) (exprs ys)) ≡ Err f → Seen (subscripts_checks c.tables n (map (checked_expr c.tables) (exprs ys))) (joined (map expr_slots (exprs ys))) f)
      → (element_of c.tables (hosted c.tables (y.0)) (λ n. subscripted c.tables n (map (hosted c.tables) (exprs ys))) o).fits ≡ true
      → (f : Fault)
      → then_with (value (view c s) (y.0)) (λ z.
      then_with (checked (is_value_of (c.tables.type_at (index_type o)) z) kinds.IndexOutOfRange (valued (view c s) (y.0)).first z) (λ z.
      then_with (subscript_values c.tables (element_type o) (map (valued (view c s)) (exprs ys))) (λ zs. Ok (z ∷ zs)))) ≡ Err f
      → Seen ((expr_checks c.tables (y.0) ++ one_if (is_narrow (c.tables.type_at (index_type o))) kinds.IndexOutOfRange (checked_expr c.tables (y.0)).first) ++ subscripts_checks c.tables (element_type o) (map (checked_expr c.tables) (exprs ys))) (expr_slots (y.0) ++ joined (map expr_slots (exprs ys))) f
  subscript_error y ys None scope rest types f h = absurd (true≢false (sym types))
  subscript_error y ys (Some (Scalar boolean lo hi)) scope rest types f h = absurd (true≢false (sym types))
  subscript_error y ys (Some (Array index element)) scope rest types f h =
      let q = scope_rule c.tables r in
      let seen = and_parts (each_expr q (y.0)) _ scope in
      let p = and_parts ((hosted c.tables (y.0)).fits && has_host (hosted c.tables (y.0)).boolean (c.tables.type_at index)) _ types in
      let u = and_parts (hosted c.tables (y.0)).fits _ p.0 in
      let narrow = is_narrow (c.tables.type_at index) in
      let place = (checked_expr c.tables (y.0)).first in
      let own = expr_checks c.tables (y.0) in
      let ranged = one_if narrow kinds.IndexOutOfRange place in
      let later = subscripts_checks c.tables element (map (checked_expr c.tables) (exprs ys)) in
      let more = joined (map expr_slots (exprs ys)) in
      elim (then_error (value (view c s) (y.0)) _ f h) [
        | inl e ↦ seen_left (own ++ ranged) later (expr_slots (y.0)) more f (seen_first own ranged (expr_slots (y.0)) f (y.1 seen.0 u.0 f e))
        | inr x ↦ elim (then_error (checked (is_value_of (c.tables.type_at index) (x.0)) kinds.IndexOutOfRange (valued (view c s) (y.0)).first (x.0)) _ f x.2) [
          | inl e ↦
              let out = checked_error (is_value_of (c.tables.type_at index) (x.0)) kinds.IndexOutOfRange (valued (view c s) (y.0)).first x.0 f e in
              let number = expr_in_host c fits s v r here y.0 seen.0 u.0 x.0 x.1 in
              let is = narrow_from (c.tables.type_at index) (hosted c.tables (y.0)).boolean x.0 u.1 number out.0 in
              let same = first_checked c.tables (y.0) ∙ sym (first_valued (view c s) (y.0)) in
              inl (Contains-append_left (own ++ ranged) later f (Contains-append_right own ranged f
              (listed_if narrow kinds.IndexOutOfRange place f is (ap (λ n. record { kind = kinds.IndexOutOfRange; at = n }) same ∙ out.1))))
          | inr w ↦ elim (then_error (subscript_values c.tables element (map (valued (view c s)) (exprs ys))) _ f w.2) [
            | inl e ↦ seen_right (own ++ ranged) later (expr_slots (y.0)) more f (rest element p.1 f e)
            | inr k ↦ absurd (no_value _ f k.2)
          ]
        ]
      ]

  subscripts_error : (ys : List (With OfExpr)) → all_true (map (each_expr (scope_rule c.tables r)) (exprs ys)) ≡ true → (n : ℕ) → (subscripted c.tables n (map (hosted c.tables) (exprs ys))).fits ≡ true
      → (f : Fault) → subscript_values c.tables n (map (valued (view c s)) (exprs ys)) ≡ Err f → Seen (subscripts_checks c.tables n (map (checked_expr c.tables) (exprs ys))) (joined (map expr_slots (exprs ys))) f
  subscripts_error [] scope n types f h = absurd (no_value [] f h)
  subscripts_error (y ∷ ys) scope n types f h =
      subscript_error y ys (c.tables.type_at n) scope (subscripts_error ys (and_parts (each_expr (scope_rule c.tables r) (y.0)) _ scope).1) types f h

  of_access : (y : Access-F (With OfActual) (With OfForm) (With OfAccess) (With OfExpr)) → OfAccess (roll-Access (map-Access (With OfActual) (With OfForm) (With OfAccess) (With OfExpr) Actual ExprForm Access Expr (λ e. e.0) (λ e. e.0) (λ e. e.0) (λ e. e.0) y))
  of_access y scope types f h =
      let d = map-Access (With OfActual) (With OfForm) (With OfAccess) (With OfExpr) Actual ExprForm Access Expr (λ e. e.0) (λ e. e.0) (λ e. e.0) (λ e. e.0) y in
      let t = c.tables in
      let seen = and_parts (is_visible t r y.var) _ (to_access (scope_rule t r) d scope) in
      let way = from_variable t (map (hosted t) (exprs y.subscripts)) (t.var_at y.var) (ap (λ (k : Reached). k.fits) (sym (reached_rolled t d)) ∙ types) in
      let own = var_type_is t y.var way.0 way.1 in
      seen_at (access_checks t (roll-Access d)) (subscripts_checks t (var_type t y.var) (map (checked_expr t) (exprs y.subscripts))) (access_slots (roll-Access d)) (joined (map expr_slots (exprs y.subscripts))) f
      (ap (λ (k : Checked). k.faults) (checks_of_access t d)) (slots_of_access d)
      (elim (then_error (subscript_values t (var_type t y.var) (map (valued (view c s)) (exprs y.subscripts))) _ f (sym (spot-access (view c s) y.var (exprs y.subscripts) y.at) ∙ h)) [
        | inl e ↦ subscripts_error y.subscripts seen.1 (var_type t y.var) (ap (λ n. (subscripted t n (map (hosted t) (exprs y.subscripts))).fits) own ∙ way.2) f e
        | inr k ↦ absurd (no_value _ f k.2)
      ])

  -- one level of a form, by its checks and its slots
  form_seen : (d : ExprForm-F Actual ExprForm Access Expr) (f : Fault)
      → Seen (Checking.form_step c.tables (map-ExprForm Actual ExprForm Access Expr (Unit {0}) Faults Checked Checked (λ a. tt) (form_checks c.tables) (checked_access c.tables) (checked_expr c.tables) d)) (slot_form_step (map-ExprForm Actual ExprForm Access Expr (Unit {0}) Faults Faults Faults (λ a. tt) form_slots access_slots expr_slots d)) f
      → Seen (form_checks c.tables (roll-ExprForm d)) (form_slots (roll-ExprForm d)) f
  form_seen d f x = seen_at _ _ _ _ f (checks_of_form c.tables d) (slots_of_form d) x

  of_form : (y : ExprForm-F (With OfActual) (With OfForm) (With OfAccess) (With OfExpr)) → OfForm (roll-ExprForm (map-ExprForm (With OfActual) (With OfForm) (With OfAccess) (With OfExpr) Actual ExprForm Access Expr (λ e. e.0) (λ e. e.0) (λ e. e.0) (λ e. e.0) y))
  of_form (ExprForm-F.Const boolean n) scope types f h = absurd (no_value n f (sym (form_value-Const (view c s) boolean n) ∙ h))
  of_form (ExprForm-F.«ExprForm::Value» a) scope types f h =
      let q = scope_rule c.tables r in
      let fit = and_parts (reached c.tables (a.0)).fits _ (form_fits_at c.tables (ExprForm-F.«ExprForm::Value» (a.0)) types) in
      let own = access_checks c.tables (a.0) in
      let undefined = one kinds.UndefinedValue (checked_access c.tables (a.0)).first in
      form_seen (ExprForm-F.«ExprForm::Value» (a.0)) f
      (elim (then_error (spot (view c s) (a.0)) (used (view c s)) f (sym (form_value-Value (view c s) (a.0)) ∙ h)) [
        | inl e ↦ seen_first own undefined (access_slots (a.0)) f (a.1 (to_form q (ExprForm-F.«ExprForm::Value» (a.0)) scope) fit.0 f e)
        | inr x ↦
            inl (Contains-append_right own undefined f
            (listed_one kinds.UndefinedValue (checked_access c.tables (a.0)).first f
            (ap (λ n. record { kind = kinds.UndefinedValue; at = n }) (place_same_as c.tables (view c s) a.0 x.0 x.1) ∙ defined_error (x.0).at (s.store (x.0).place) f x.2)))
      ])
  of_form (ExprForm-F.Unary op e at) scope types f h =
      let q = scope_rule c.tables r in
      let fit = and_parts (hosted c.tables (e.0)).fits _ (form_fits_at c.tables (ExprForm-F.Unary op (e.0) at) types) in
      let seen = to_form q (ExprForm-F.Unary op (e.0) at) scope in
      let own = expr_checks c.tables (e.0) in
      form_seen (ExprForm-F.Unary op (e.0) at) f
      (elim (then_error (value (view c s) (e.0)) _ f (sym (form_value-Unary (view c s) op (e.0) at) ∙ h)) [
        | inl g ↦ seen_first own (unary_checks op at) (expr_slots (e.0)) f (e.1 seen fit.0 f g)
        | inr x ↦
            let k = placed_error at (unary_result op (x.0)) f x.2 in
            inl (Contains-append_right own (unary_checks op at) f
            (subst (Contains (unary_checks op at)) k.2 (unary_error op (hosted c.tables (e.0)).boolean x.0 k.0 at fit.1 (expr_in_host c fits s v r here e.0 seen fit.0 x.0 x.1) k.1)))
      ])
  of_form (ExprForm-F.Binary op left right at) scope types f h =
      let q = scope_rule c.tables r in
      let fit = and_parts ((hosted c.tables (left.0)).fits && (hosted c.tables (right.0)).fits) _ (form_fits_at c.tables (ExprForm-F.Binary op (left.0) (right.0) at) types) in
      let both = and_parts (hosted c.tables (left.0)).fits _ fit.0 in
      let seen = and_parts (each_expr q (left.0)) _ (to_form q (ExprForm-F.Binary op (left.0) (right.0) at) scope) in
      let a = expr_checks c.tables (left.0) in
      let b = expr_checks c.tables (right.0) in
      let o = binary_checks op at in
      form_seen (ExprForm-F.Binary op (left.0) (right.0) at) f
      (elim (then_error (value (view c s) (left.0)) _ f (sym (form_value-Binary (view c s) op (left.0) (right.0) at) ∙ h)) [
        | inl g ↦ seen_left a (b ++ o) (expr_slots (left.0)) (expr_slots (right.0)) f (left.1 seen.0 both.0 f g)
        | inr x ↦ elim (then_error (value (view c s) (right.0)) _ f x.2) [
          | inl g ↦ seen_right a (b ++ o) (expr_slots (left.0)) (expr_slots (right.0)) f (seen_first b o (expr_slots (right.0)) f (right.1 seen.1 both.1 f g))
          | inr y ↦
              let k = placed_error at (binary_result op (x.0) (y.0)) f y.2 in
              inl (Contains-append_right a (b ++ o) f (Contains-append_right b o f (subst (Contains o) k.2 (binary_error op x.0 y.0 k.0 at k.1))))
        ]
      ])
  of_form (ExprForm-F.Call routine actuals slot at) scope types f h =
      let xs = map (λ (e : With OfActual). e.0) actuals in
      form_seen (ExprForm-F.Call routine xs slot at) f
      (inr (listed_one kinds.UndefinedValue at f (defined_error at (s.store ((view c s).place slot)) f (sym (form_value-Call (view c s) routine xs slot at) ∙ h))))

  of_expr : (y : Expr-F (With OfActual) (With OfForm) (With OfAccess) (With OfExpr)) → OfExpr (roll-Expr (map-Expr (With OfActual) (With OfForm) (With OfAccess) (With OfExpr) Actual ExprForm Access Expr (λ e. e.0) (λ e. e.0) (λ e. e.0) (λ e. e.0) y))
  of_expr y scope types f h =
      let d = map-Expr (With OfActual) (With OfForm) (With OfAccess) (With OfExpr) Actual ExprForm Access Expr (λ e. e.0) (λ e. e.0) (λ e. e.0) (λ e. e.0) y in
      seen_at (expr_checks c.tables (roll-Expr d)) (form_checks c.tables (y.form.0)) (expr_slots (roll-Expr d)) (form_slots (y.form.0)) f
      (ap (λ (k : Checked). k.faults) (checks_of_expr c.tables d)) (slots_of_expr d)
      (y.form.1 (to_expr (scope_rule c.tables r) d scope) (ap (λ (k : Hosted). k.fits) (sym (hosted_is c.tables d)) ∙ types) f (sym (ap (λ (w : Valued). w.value) (valued-expr (view c s) y.first ((y.form).0))) ∙ h))

  -- an error of an expression, and of what an access denotes
  pub expr_error : (e : Expr) → each_expr (scope_rule c.tables r) e ≡ true → (hosted c.tables e).fits ≡ true → (f : Fault) → value (view c s) e ≡ Err f → Seen (expr_checks c.tables e) (expr_slots e) f
  expr_error =
      ind-Expr OfActual OfForm OfAccess OfExpr
      (λ x y is. tt)
      (λ x y is. subst (λ z. OfForm (roll-ExprForm z)) is (of_form y))
      (λ x y is. subst (λ z. OfAccess (roll-Access z)) is (of_access y))
      (λ x y is. subst (λ z. OfExpr (roll-Expr z)) is (of_expr y))

  pub access_error : (a : Access) → each_access (scope_rule c.tables r) a ≡ true → (reached c.tables a).fits ≡ true → (f : Fault) → spot (view c s) a ≡ Err f → Seen (access_checks c.tables a) (access_slots a) f
  access_error =
      ind-Access OfActual OfForm OfAccess OfExpr
      (λ x y is. tt)
      (λ x y is. subst (λ z. OfForm (roll-ExprForm z)) is (of_form y))
      (λ x y is. subst (λ z. OfAccess (roll-Access z)) is (of_access y))
      (λ x y is. subst (λ z. OfExpr (roll-Expr z)) is (of_expr y))
