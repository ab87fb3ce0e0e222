-- The checks of an action are its judgements without what they judge.
use Rattle.std.proofs.Common.{◌≡◌, ℕ, Bool, true, false, cond, List, [], ◌∷◌, ◌++◌, map, refl, sym, ap, subst, ◌∙◌, Option, Some, None, slice_get}
use Rattle.std.proofs.lemmas.List.{map-append}
use Rattle.px_base.specs.declared.kind.Kind.{Kind}
use Rattle.px_base.specs.declared.kind.Kind.TheVariants.{IndexOutOfRange, ValueOutOfRange, UndefinedValue, NoNumber, WidthOutOfRange, NoCaseLabel, Assertion}
use Rattle.px_base.specs.declared.operator.BinOp.{BinOp}
use Rattle.px_base.specs.declared.operator.BinOp.TheVariants as binary
use Rattle.px_base.specs.declared.operator.UnOp.{UnOp}
use Rattle.px_base.specs.declared.operator.UnOp.TheVariants as unary
use Rattle.pas_program.proofs.Weaker.{With}
use Rattle.pas_program.specs.declared.expr.Access.{Access}
use Rattle.pas_program.specs.declared.expr.Actual.{Actual}
use Rattle.pas_program.specs.declared.expr.Actual.TheFolds.{fold-roll-Access, fold-roll-Expr, fold-roll-ExprForm, fold_out-Access, fold_out-Expr, ind-Access, ind-Expr, map-Access, map-Expr, map-ExprForm, para-roll-Access, para-roll-Expr, para-roll-ExprForm}
use Rattle.pas_program.specs.declared.expr.Actual.TheOpen.{Access-F, Actual-F, ExprForm-F, Expr-F}
use Rattle.pas_program.specs.declared.expr.Actual.TheViews.{out-Access, out-Actual, out-Expr, roll-Access, roll-Expr, roll-ExprForm}
use Rattle.pas_program.specs.declared.expr.Expr.{Expr}
use Rattle.pas_program.specs.declared.expr.ExprForm.{ExprForm}
use Rattle.pas_program.specs.declared.routine.Assert.{Assert}
use Rattle.pas_program.specs.declared.statement.WriteItem.{WriteItem}
use Rattle.pas_program.specs.declared.statement.WriteValue.{WriteValue}
use Rattle.pas_program.specs.declared.statement.WriteValue.TheVariants as written
use Rattle.pas_program.specs.Tables.{Tables}
use Rattle.control_points.specs.declared.edge.Act.{Act}
use Rattle.control_points.specs.declared.edge.Act.TheVariants as act
use Rattle.control_points.specs.Actions.{slot_at}
use Rattle.control_points.specs.Chart.{Chart}
use Rattle.control_points.specs.Checking as checking
use Rattle.control_points.specs.Checking.{Checked, Faults, access_checks, actual_checks, assert_check, assert_checks, assigned_checks, binary_checks, bounds_checks, checked_access, checked_expr, expr_checks, form_checks, formals_of, is_narrow, item_checks, passing_checks, read_checks, result_checks, selector_checks, subscripts_checks, unary_checks, width_checks, written_checks}
use Rattle.control_points.specs.Evaluation.{access_type, element_type, index_type, var_type}
use Rattle.control_points.specs.Foreseen.{act_checks, returned_checks}
use Rattle.control_points.specs.Judgements.{Judgements, Subject, access_judgements, access_step, act_judgements, actual_judgements, assert_judgement, assert_judgements, asserted_condition, assigned_judgements, binary_judgements, bounds_judgements, case_selector, expr_judgements, expr_step, fault_of, faults_of, first_bound, form_judgements, form_step, in_type, item_judgements, last_bound, one, one_if, passing_judgements, read_judgements, read_number, read_value, result_judgements, returned_judgements, selector_judgements, subscripts_judgements, typed_value, unary_judgements, used_variable, width_judgements, write_width, written_judgements}

pub faults_both : (fs gs : Faults) (xs ys : Judgements) → fs ≡ faults_of xs → gs ≡ faults_of ys → fs ++ gs ≡ faults_of (xs ++ ys)
faults_both fs gs xs ys p q = ap (λ l. l ++ gs) p ∙ ap (λ l. faults_of xs ++ l) q ∙ sym (map-append fault_of xs ys)

fault_if : (b : Bool) (k : Kind) (at : ℕ) (s : Subject) → checking.one_if b k at ≡ faults_of (one_if b k at s)
fault_if true k at s = refl
fault_if false k at s = refl

-- ---- operators

unary_faults : (op : UnOp) (e : Expr) (at : ℕ) → unary_checks op at ≡ faults_of (unary_judgements op e at)
unary_faults unary.Neg e at = refl
unary_faults unary.Not e at = refl
unary_faults unary.Abs e at = refl
unary_faults unary.Sqr e at = refl
unary_faults unary.Odd e at = refl
unary_faults unary.SuccInt e at = refl
unary_faults unary.PredInt e at = refl
unary_faults unary.SuccBool e at = refl
unary_faults unary.PredBool e at = refl
unary_faults unary.OrdOf e at = refl

binary_faults : (op : BinOp) (l r : Expr) (at : ℕ) → binary_checks op at ≡ faults_of (binary_judgements op l r at)
binary_faults binary.Add l r at = refl
binary_faults binary.Sub l r at = refl
binary_faults binary.Mul l r at = refl
binary_faults binary.Div l r at = refl
binary_faults binary.Mod l r at = refl
binary_faults binary.And l r at = refl
binary_faults binary.Or l r at = refl
binary_faults binary.Eq l r at = refl
binary_faults binary.Ne l r at = refl
binary_faults binary.Lt l r at = refl
binary_faults binary.Le l r at = refl
binary_faults binary.Gt l r at = refl
binary_faults binary.Ge l r at = refl

-- ---- expressions

module _ (t : Tables) where
  pub first_is : (e : Expr) → (checked_expr t e).first ≡ (out-Expr e).first
  first_is e = ap (λ (w : Checked). w.first) (fold_out-Expr (Unit {0}) Faults Checked Checked (λ a. tt) (checking.form_step t) (checking.access_step t) checking.expr_step e)

  pub name_is : (a : Access) → (checked_access t a).first ≡ (out-Access a).at
  name_is a = ap (λ (w : Checked). w.first) (fold_out-Access (Unit {0}) Faults Checked Checked (λ a. tt) (checking.form_step t) (checking.access_step t) checking.expr_step a)

  abbrev OfExpr : Expr → Type 0
  OfExpr e = expr_checks t e ≡ faults_of (expr_judgements t e)

  abbrev OfForm : ExprForm → Type 0
  OfForm e = form_checks t e ≡ faults_of (form_judgements t e)

  abbrev OfAccess : Access → Type 0
  OfAccess a = access_checks t a ≡ faults_of (access_judgements t a)

  abbrev OfActual : Actual → Type 0
  OfActual a = Unit {0}

  abbrev exprs : List (With OfExpr) → List Expr
  exprs ys = map (λ (y : With OfExpr). y.0) ys

  abbrev beside : Expr → Expr × Judgements
  beside e = (e, expr_judgements t e)

  subscripts_faults : (ys : List (With OfExpr)) (n : ℕ) → subscripts_checks t n (map (checked_expr t) (exprs ys)) ≡ faults_of (subscripts_judgements t n (map beside (exprs ys)))
  subscripts_faults [] n = refl
  subscripts_faults (y ∷ ys) n =
      let index = index_type (t.type_at n) in
      let narrow = is_narrow (t.type_at index) in
      let ranged = checking.one_if narrow IndexOutOfRange (checked_expr t (y.0)).first in
      let own = expr_checks t (y.0) in
      faults_both (own ++ ranged) _ (expr_judgements t (y.0) ++ in_type t index IndexOutOfRange (y.0)) _
      (faults_both own ranged (expr_judgements t (y.0)) (in_type t index IndexOutOfRange (y.0)) y.1
      (ap (checking.one_if narrow IndexOutOfRange) (first_is (y.0)) ∙ fault_if narrow IndexOutOfRange (out-Expr (y.0)).first (typed_value index (y.0))))
      (subscripts_faults ys (element_type (t.type_at n)))

  of_access : (y : Access-F (With OfActual) (With OfForm) (With OfAccess) (With OfExpr)) → OfAccess (roll-Access (map-Access (With OfActual) (With OfForm) (With OfAccess) (With OfExpr) Actual ExprForm Access Expr (λ e. e.0) (λ e. e.0) (λ e. e.0) (λ e. e.0) y))
  of_access y =
      let d = map-Access (With OfActual) (With OfForm) (With OfAccess) (With OfExpr) Actual ExprForm Access Expr (λ e. e.0) (λ e. e.0) (λ e. e.0) (λ e. e.0) y in
      ap (λ (w : Checked). w.faults) (fold-roll-Access (Unit {0}) Faults Checked Checked (λ a. tt) (checking.form_step t) (checking.access_step t) checking.expr_step d)
      ∙ subscripts_faults y.subscripts (var_type t y.var)
      ∙ sym (ap faults_of (para-roll-Access (Unit {0}) Judgements Judgements Judgements (λ a. tt) form_step (access_step t) expr_step d))

  -- one level of a form
  form_at : (d : ExprForm-F Actual ExprForm Access Expr)
      → checking.form_step t (map-ExprForm Actual ExprForm Access Expr (Unit {0}) Faults Checked Checked (λ a. tt) (form_checks t) (checked_access t) (checked_expr t) d)
      ≡ faults_of (form_step (map-ExprForm Actual ExprForm Access Expr (Actual × Unit {0}) (ExprForm × Judgements) (Access × Judgements) (Expr × Judgements) (λ a. (a, tt)) (λ f. (f, form_judgements t f)) (λ a. (a, access_judgements t a)) beside d))
      → form_checks t (roll-ExprForm d) ≡ faults_of (form_judgements t (roll-ExprForm d))
  form_at d h =
      fold-roll-ExprForm (Unit {0}) Faults Checked Checked (λ a. tt) (checking.form_step t) (checking.access_step t) checking.expr_step d
      ∙ h
      ∙ sym (ap faults_of (para-roll-ExprForm (Unit {0}) Judgements Judgements Judgements (λ a. tt) form_step (access_step t) expr_step d))

  of_form : (y : ExprForm-F (With OfActual) (With OfForm) (With OfAccess) (With OfExpr)) → OfForm (roll-ExprForm (map-ExprForm (With OfActual) (With OfForm) (With OfAccess) (With OfExpr) Actual ExprForm Access Expr (λ e. e.0) (λ e. e.0) (λ e. e.0) (λ e. e.0) y))
  of_form (ExprForm-F.Const boolean n) = form_at (ExprForm-F.Const boolean n) refl
  of_form (ExprForm-F.«ExprForm::Value» a) =
      form_at (ExprForm-F.«ExprForm::Value» (a.0))
      (faults_both (access_checks t (a.0)) _ (access_judgements t (a.0)) (one UndefinedValue (out-Access (a.0)).at (used_variable (a.0))) a.1 (ap (checking.one UndefinedValue) (name_is (a.0))))
  of_form (ExprForm-F.Unary op e at) =
      form_at (ExprForm-F.Unary op (e.0) at) (faults_both (expr_checks t (e.0)) _ (expr_judgements t (e.0)) (unary_judgements op (e.0) at) e.1 (unary_faults op (e.0) at))
  of_form (ExprForm-F.Binary op left right at) =
      form_at (ExprForm-F.Binary op (left.0) (right.0) at)
      (faults_both (expr_checks t (left.0)) _ (expr_judgements t (left.0)) _ left.1
      (faults_both (expr_checks t (right.0)) _ (expr_judgements t (right.0)) (binary_judgements op (left.0) (right.0) at) right.1 (binary_faults op (left.0) (right.0) at)))
  of_form (ExprForm-F.Call routine actuals slot at) = form_at (ExprForm-F.Call routine (map (λ (e : With OfActual). e.0) actuals) slot at) refl

  of_expr : (y : Expr-F (With OfActual) (With OfForm) (With OfAccess) (With OfExpr)) → OfExpr (roll-Expr (map-Expr (With OfActual) (With OfForm) (With OfAccess) (With OfExpr) Actual ExprForm Access Expr (λ e. e.0) (λ e. e.0) (λ e. e.0) (λ e. e.0) y))
  of_expr y =
      let d = map-Expr (With OfActual) (With OfForm) (With OfAccess) (With OfExpr) Actual ExprForm Access Expr (λ e. e.0) (λ e. e.0) (λ e. e.0) (λ e. e.0) y in
      ap (λ (w : Checked). w.faults) (fold-roll-Expr (Unit {0}) Faults Checked Checked (λ a. tt) (checking.form_step t) (checking.access_step t) checking.expr_step d)
      ∙ y.form.1
      ∙ sym (ap faults_of (para-roll-Expr (Unit {0}) Judgements Judgements Judgements (λ a. tt) form_step (access_step t) expr_step d))

  pub expr_faults : (e : Expr) → expr_checks t e ≡ faults_of (expr_judgements t e)
  expr_faults =
      ind-Expr OfActual OfForm OfAccess OfExpr
      (λ x y is. tt)
      (λ x y is. subst (λ z. OfForm (roll-ExprForm z)) is (of_form y))
      (λ x y is. subst (λ z. OfAccess (roll-Access z)) is (of_access y))
      (λ x y is. subst (λ z. OfExpr (roll-Expr z)) is (of_expr y))

  pub access_faults : (a : Access) → access_checks t a ≡ faults_of (access_judgements t a)
  access_faults =
      ind-Access OfActual OfForm OfAccess OfExpr
      (λ x y is. tt)
      (λ x y is. subst (λ z. OfForm (roll-ExprForm z)) is (of_form y))
      (λ x y is. subst (λ z. OfAccess (roll-Access z)) is (of_access y))
      (λ x y is. subst (λ z. OfExpr (roll-Expr z)) is (of_expr y))

  -- ---- actions

  assigned_faults : (n : ℕ) (e : Expr) → assigned_checks t n e ≡ faults_of (assigned_judgements t n e)
  assigned_faults n e = faults_both (expr_checks t e) _ (expr_judgements t e) (in_type t n ValueOutOfRange e) (expr_faults e) (fault_if (is_narrow (t.type_at n)) ValueOutOfRange (out-Expr e).first (typed_value n e))

  pub assignment_faults : (a : Access) (n : ℕ) (e : Expr) → access_checks t a ++ assigned_checks t n e ≡ faults_of (access_judgements t a ++ assigned_judgements t n e)
  assignment_faults a n e = faults_both (access_checks t a) (assigned_checks t n e) (access_judgements t a) (assigned_judgements t n e) (access_faults a) (assigned_faults n e)

  pub copy_faults : (a b : Access) → access_checks t a ++ access_checks t b ≡ faults_of (access_judgements t a ++ access_judgements t b)
  copy_faults a b = faults_both (access_checks t a) (access_checks t b) (access_judgements t a) (access_judgements t b) (access_faults a) (access_faults b)

  actual_faults : (v : ℕ) (d : Actual-F Actual ExprForm Access Expr) → actual_checks t v d ≡ faults_of (actual_judgements t v d)
  actual_faults v (Actual-F.«Actual::Value» e) = assigned_faults (var_type t v) e
  actual_faults v (Actual-F.Whole a) = access_faults a
  actual_faults v (Actual-F.Var a) = access_faults a

  pub passing_faults : (actuals : List Actual) (formals : List ℕ) → passing_checks t actuals formals ≡ faults_of (passing_judgements t actuals formals)
  passing_faults [] formals = refl
  passing_faults (a ∷ actuals) [] = refl
  passing_faults (a ∷ actuals) (v ∷ formals) =
      faults_both (actual_checks t v (out-Actual a)) (passing_checks t actuals formals) (actual_judgements t v (out-Actual a)) (passing_judgements t actuals formals) (actual_faults v (out-Actual a)) (passing_faults actuals formals)

  pub read_faults : (n : ℕ) (a : Access) → read_checks t n a ≡ faults_of (read_judgements t n a)
  read_faults n a =
      let at = (out-Access a).at in
      let narrow = is_narrow (t.type_at n) in
      faults_both (access_checks t a) _ (access_judgements t a) _ (access_faults a)
      (faults_both (checking.one NoNumber at) (checking.one_if narrow ValueOutOfRange at) (one NoNumber at (read_number a)) (one_if narrow ValueOutOfRange at (read_value n a)) refl (fault_if narrow ValueOutOfRange at (read_value n a)))

  written_faults : (w : WriteValue) → written_checks t w ≡ faults_of (written_judgements t w)
  written_faults (written.Value e) = expr_faults e
  written_faults (written.Text bytes at) = refl

  width_faults : (o : Option Expr) → width_checks t o ≡ faults_of (width_judgements t o)
  width_faults None = refl
  width_faults (Some e) = faults_both (expr_checks t e) (checking.one WidthOutOfRange (out-Expr e).first) (expr_judgements t e) (one WidthOutOfRange (out-Expr e).first (write_width e)) (expr_faults e) refl

  pub item_faults : (item : WriteItem) → item_checks t item ≡ faults_of (item_judgements t item)
  item_faults item = faults_both (written_checks t item.value) (width_checks t item.width) (written_judgements t item.value) (width_judgements t item.width) (written_faults item.value) (width_faults item.width)

  pub selector_faults : (e : Expr) → selector_checks t e ≡ faults_of (selector_judgements t e)
  selector_faults e = faults_both (expr_checks t e) (checking.one NoCaseLabel (out-Expr e).first) (expr_judgements t e) (one NoCaseLabel (out-Expr e).first (case_selector e)) (expr_faults e) refl

  pub bounds_faults : (n : ℕ) (first : Expr) (down : Bool) (last : Expr) → bounds_checks t n first last ≡ faults_of (bounds_judgements t n first down last)
  bounds_faults n first down last =
      let narrow = is_narrow (t.type_at n) in
      faults_both (expr_checks t first) _ (expr_judgements t first) _ (expr_faults first)
      (faults_both (expr_checks t last) _ (expr_judgements t last) _ (expr_faults last)
      (faults_both (checking.one_if narrow ValueOutOfRange (out-Expr first).first) (checking.one_if narrow ValueOutOfRange (out-Expr last).first)
      (one_if narrow ValueOutOfRange (out-Expr first).first (first_bound (record { of_type = n; first = first; down = down; last = last })))
      (one_if narrow ValueOutOfRange (out-Expr last).first (last_bound (record { of_type = n; first = first; down = down; last = last })))
      (fault_if narrow ValueOutOfRange (out-Expr first).first _) (fault_if narrow ValueOutOfRange (out-Expr last).first _)))

pub result_faults : (o : Option ℕ) (at : ℕ) → result_checks o at ≡ faults_of (result_judgements o at)
result_faults None at = refl
result_faults (Some v) at = refl

unless_faults : (b : Bool) (fs : Faults) (js : Judgements) → fs ≡ faults_of js → cond b [] fs ≡ faults_of (cond b [] js)
unless_faults true fs js h = refl
unless_faults false fs js h = h

assert_fault : (o : Option Assert) → assert_check o ≡ faults_of (assert_judgement o)
assert_fault None = refl
assert_fault (Some a) = unless_faults a.sometime (checking.one Assertion (out-Expr a.cond).first) (one Assertion (out-Expr a.cond).first (asserted_condition a.cond)) refl

pub asserts_faults : (asserts : List Assert) (listed : List ℕ) → assert_checks asserts listed ≡ faults_of (assert_judgements asserts listed)
asserts_faults asserts [] = refl
asserts_faults asserts (a ∷ listed) = faults_both (assert_check (slice_get asserts a)) (assert_checks asserts listed) (assert_judgement (slice_get asserts a)) (assert_judgements asserts listed) (assert_fault (slice_get asserts a)) (asserts_faults asserts listed)

-- ---- every action

returned_faults : (c : Chart) (at k : ℕ) (o : Option ℕ) → returned_checks at o ≡ faults_of (returned_judgements c at k o)
returned_faults c at k None = refl
returned_faults c at k (Some slot) = refl

pub act_faults : (c : Chart) (at : ℕ) (a : Act) → act_checks c at a ≡ faults_of (act_judgements c at a)
act_faults c at act.Skip = refl
act_faults c at (act.Assign target e) = assignment_faults c.tables target (access_type c.tables target) e
act_faults c at (act.Copy target source) = copy_faults c.tables target source
act_faults c at (act.Call routine actuals slot name) = passing_faults c.tables actuals (formals_of (c.tables.head_at routine))
act_faults c at (act.Return k) = returned_faults c at k (slot_at c.edges k)
act_faults c at (act.Goto routine) = refl
act_faults c at (act.Test e wanted) = expr_faults c.tables e
act_faults c at (act.Arm selector constants) = selector_faults c.tables selector
act_faults c at (act.Enter control bound first down last) = bounds_faults c.tables (var_type c.tables control) first down last
act_faults c at (act.Bypass control bound first down last) = bounds_faults c.tables (var_type c.tables control) first down last
act_faults c at (act.Next control bound down) = refl
act_faults c at (act.Finish control bound down) = refl
act_faults c at (act.Read target) = read_faults c.tables (access_type c.tables target) target
act_faults c at act.DropLine = refl
act_faults c at (act.Write item) = item_faults c.tables item
act_faults c at act.EndLine = refl
