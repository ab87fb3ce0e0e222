-- What refining leaves, one level of an expression at a time.
use Rattle.std.proofs.Common.{◌≡◌, ℕ, ◌+◌, ◌<◌, Bool, true, false, List, length, map, drop, get_or, refl, sym, ap, ◌∙◌, ℤ, Option, Some, None}
use Rattle.std.specs.Prelude.{if◌then◌else◌}
use Rattle.px_base.specs.declared.operator.BinOp.{BinOp}
use Rattle.px_base.specs.declared.operator.UnOp.{UnOp}
use Rattle.pas_program.specs.declared.expr.Access.{Access}
use Rattle.pas_program.specs.declared.expr.Actual.{Actual}
use Rattle.pas_program.specs.declared.expr.Actual.TheFolds.{fold_out-Expr, fold-roll-ExprForm, map-ExprForm, para-Actual, para-roll-Access, para-roll-Expr, para-roll-ExprForm}
use Rattle.pas_program.specs.declared.expr.Actual.TheOpen.{ExprForm-F}
use Rattle.pas_program.specs.declared.expr.Actual.TheViews.{out-Access, out-Expr, roll-ExprForm, roll-out-Access, roll-out-Expr}
use Rattle.pas_program.specs.declared.expr.Expr.{Expr}
use Rattle.pas_program.specs.declared.expr.ExprForm.{ExprForm}
use Rattle.pas_program.specs.declared.type_def.TypeDef.TheVariants.{Array}
use Rattle.control_points.specs.Evaluation.{element_type, index_type, var_type}
use Rattle.environment.specs.Environments.{Environment, cell_count, is_reachable}
use Rattle.environment.specs.Environments.Environment.{Unreachable}
use Rattle.interval.specs.declared.itv.Itv.{Itv}
use Rattle.interval.specs.Forward.{binary_answer}
use Rattle.interval.specs.Intervals.{is_empty, meet}
use Rattle.interval_back.specs.Backward.{operand_back}
use Rattle.abstract_expr.specs.Expressions.{Binds, Change, Refining, Scope, access_step, cell_step, defined_in, expr_step, form_step, indexed, of_form, operator_refined, range_of, reached_form, reached_value, refined, refined_form, subscripts_refined, value_step, variable_refined, wanted_of}
use Rattle.abstract_expr.proofs.Subscripts.{rest_at}

-- ---- what is wanted is met with a value

pub wanted_unreached : (x : Itv) (r : Refining) (w : Itv) (env : Environment) → is_reachable env ≡ false → env ≡ wanted_of x r w env
wanted_unreached x r w env h = rw h refl

some_by : (b : Bool) (m left : Itv) (r : Refining) (env after : Environment) → ◌≡◌ {A = Option Itv} (if b then None else Some m) (Some left) → after ≡ (if b then Unreachable (cell_count env) else env)
    → r left after ≡ (if b then Unreachable (cell_count env) else r m env)
some_by true m left r env after s e = absurd (cc)
some_by false m left r env after s e = let l : left ≡ m = cc in ap (λ v. r v after) l ∙ ap (r m) e

none_by : (b : Bool) (m : Itv) (r : Refining) (env after : Environment) → ◌≡◌ {A = Option Itv} (if b then None else Some m) None → after ≡ (if b then Unreachable (cell_count env) else env)
    → after ≡ (if b then Unreachable (cell_count env) else r m env)
none_by true m r env after s e = e
none_by false m r env after s e = absurd (cc)

kept_by : (b : Bool) (m left : Itv) (env after : Environment) → ◌≡◌ {A = Option Itv} (if b then None else Some m) (Some left) → after ≡ (if b then Unreachable (cell_count env) else env) → after ≡ env
kept_by true m left env after s e = absurd (cc)
kept_by false m left env after s e = e

-- where something is left, the environment is as before
pub wanted_kept : (x w left : Itv) (env after : Environment) → ◌≡◌ {A = Option Itv} (if is_empty (meet w x) then None else Some (meet w x)) (Some left) → after ≡ (if is_empty (meet w x) then Unreachable (cell_count env) else env) → after ≡ env
wanted_kept x w left env after s e = kept_by (is_empty (meet w x)) (meet w x) left env after s e

module _ (x : Itv) (r : Refining) (w : Itv) (env after : Environment) (h : is_reachable env ≡ true) (e : after ≡ (if is_empty (meet w x) then Unreachable (cell_count env) else env)) where
  pub wanted_some : (left : Itv) → ◌≡◌ {A = Option Itv} (if is_empty (meet w x) then None else Some (meet w x)) (Some left) → r left after ≡ wanted_of x r w env
  wanted_some left s = rw h (some_by (is_empty (meet w x)) (meet w x) left r env after s e)

  pub wanted_none : ◌≡◌ {A = Option Itv} (if is_empty (meet w x) then None else Some (meet w x)) None → after ≡ wanted_of x r w env
  wanted_none s = rw h (none_by (is_empty (meet w x)) (meet w x) r env after s e)

-- ---- expressions

module _ (bind : Binds) (env : Environment) where
  value_is : (e : Expr) → reached_value bind env e ≡ reached_form bind env (out-Expr e).form
  value_is e = fold_out-Expr (Unit {0}) Itv ℕ Itv (λ a. tt) (value_step bind env) (cell_step bind env) (of_form bind env) e

  binary_is : (e : Expr) (op : BinOp) (l r : Expr) (at : ℕ) → (out-Expr e).form ≡ roll-ExprForm (ExprForm-F.Binary op l r at) → reached_value bind env e ≡ (binary_answer op (reached_value bind env l) (reached_value bind env r)).value
  binary_is e op l r at is =
      value_is e ∙ ap (reached_form bind env) is ∙ fold-roll-ExprForm (Unit {0}) Itv ℕ Itv (λ a. tt) (value_step bind env) (cell_step bind env) (of_form bind env) (ExprForm-F.Binary op l r at)

  -- by what the code has of the operands
  pub value_of_operands : (e : Expr) (op : BinOp) (l r : Expr) (at : ℕ) (left right : Expr) (x y : Itv) → (out-Expr e).form ≡ roll-ExprForm (ExprForm-F.Binary op l r at) → left ≡ l → right ≡ r
      → x ≡ reached_value bind env left → y ≡ reached_value bind env right → (binary_answer op x y).value ≡ reached_value bind env e
  value_of_operands e op l r at left right x y is one two first second =
      ap (λ u. (binary_answer op u y).value) (first ∙ ap (reached_value bind env) one)
      ∙ ap (λ v. (binary_answer op (reached_value bind env l) v).value) (second ∙ ap (reached_value bind env) two)
      ∙ sym (binary_is e op l r at is)

module _ (scope : Scope) where
  expr_is : (e : Expr) → refined scope e ≡ (λ w env. wanted_of (reached_form scope.bind env (out-Expr e).form) (refined_form scope (out-Expr e).form) w env)
  expr_is e = ap (refined scope) (sym (roll-out-Expr e)) ∙ para-roll-Expr (Unit {0}) Refining Change Refining (λ a. tt) (form_step scope) (access_step scope) (expr_step scope) (out-Expr e)

  pub refined_is : (e : Expr) (w : Itv) (env : Environment) → refined scope e w env ≡ wanted_of (reached_value scope.bind env e) (refined_form scope (out-Expr e).form) w env
  refined_is e w env = ap (λ (r : Refining). r w env) (expr_is e) ∙ ap (λ x. wanted_of x (refined_form scope (out-Expr e).form) w env) (sym (value_is scope.bind env e))

  form_is : (f : ExprForm) (d : ExprForm-F Actual ExprForm Access Expr) → f ≡ roll-ExprForm d → refined_form scope f ≡ form_step scope (map-ExprForm Actual ExprForm Access Expr (Actual × Unit {0}) (ExprForm × Refining) (Access × Change) (Expr × Refining)
      (λ a. (a, para-Actual (Unit {0}) Refining Change Refining (λ a. tt) (form_step scope) (access_step scope) (expr_step scope) a)) (λ f. (f, refined_form scope f)) (λ a. (a, indexed scope a)) (λ e. (e, refined scope e)) d)
  form_is f d is = ap (refined_form scope) is ∙ para-roll-ExprForm (Unit {0}) Refining Change Refining (λ a. tt) (form_step scope) (access_step scope) (expr_step scope) d

  module _ (f : ExprForm) (w : Itv) (env : Environment) where
    pub of_constant : (boolean : Bool) (value : ℤ) → f ≡ roll-ExprForm (ExprForm-F.Const boolean value) → refined_form scope f w env ≡ env
    of_constant boolean value is = ap (λ (r : Refining). r w env) (form_is f (ExprForm-F.Const boolean value) is)

    pub of_access : (a : Access) → f ≡ roll-ExprForm (ExprForm-F.«ExprForm::Value» a) → refined_form scope f w env ≡ variable_refined scope a (indexed scope a) w env
    of_access a is = ap (λ (r : Refining). r w env) (form_is f (ExprForm-F.«ExprForm::Value» a) is)

    pub of_unary : (op : UnOp) (e : Expr) (at : ℕ) → f ≡ roll-ExprForm (ExprForm-F.Unary op e at) → refined_form scope f w env ≡ refined scope e (operand_back op w (reached_value scope.bind env e)) env
    of_unary op e at is = ap (λ (r : Refining). r w env) (form_is f (ExprForm-F.Unary op e at) is)

    -- by what the code has of the operand
    pub of_operand : (op : UnOp) (e : Expr) (at : ℕ) (first second : Expr) (x v : Itv) → f ≡ roll-ExprForm (ExprForm-F.Unary op e at) → first ≡ e → second ≡ e → x ≡ reached_value scope.bind env first → v ≡ operand_back op w x
        → refined scope second v env ≡ refined_form scope f w env
    of_operand op e at first second x v is one two value back =
        let wanted = back ∙ ap (operand_back op w) (value ∙ ap (reached_value scope.bind env) one) in
        ap (λ u. refined scope second u env) wanted ∙ ap (λ y. refined scope y (operand_back op w (reached_value scope.bind env e)) env) two ∙ sym (of_unary op e at is)

    pub of_binary : (op : BinOp) (l r : Expr) (at : ℕ) → f ≡ roll-ExprForm (ExprForm-F.Binary op l r at) → refined_form scope f w env ≡ operator_refined scope op l r w env
    of_binary op l r at is = ap (λ (r : Refining). r w env) (form_is f (ExprForm-F.Binary op l r at) is)

    pub of_operands : (op : BinOp) (l r : Expr) (at : ℕ) (left right : Expr) → f ≡ roll-ExprForm (ExprForm-F.Binary op l r at) → left ≡ l → right ≡ r → operator_refined scope op left right w env ≡ refined_form scope f w env
    of_operands op l r at left right is one two =
        ap (λ x. operator_refined scope op x right w env) one ∙ ap (λ x. operator_refined scope op l x w env) two ∙ sym (of_binary op l r at is)

    pub of_call : (routine : ℕ) (actuals : List Actual) (slot at : ℕ) → f ≡ roll-ExprForm (ExprForm-F.Call routine actuals slot at) → refined_form scope f w env ≡ defined_in (scope.bind slot).cell w env
    of_call routine actuals slot at is = ap (λ (r : Refining). r w env) (form_is f (ExprForm-F.Call routine actuals slot at) is)

  -- ---- subscripts

  abbrev pub beside : List Expr → List (Expr × Refining)
  beside = map (λ (e : Expr). (e, refined scope e))

  pub indexed_is : (a : Access) → indexed scope a ≡ subscripts_refined scope (var_type scope.tables (out-Access a).var) (beside (out-Access a).subscripts)
  indexed_is a = ap (indexed scope) (sym (roll-out-Access a)) ∙ para-roll-Access (Unit {0}) Refining Change Refining (λ a. tt) (form_step scope) (access_step scope) (expr_step scope) (out-Access a)

  -- the next one at an array
  pub next_subscript : (xs : List Expr) (i : ℕ) (e : Expr) (n index element : ℕ) (env : Environment) → i < length xs → e ≡ get_or xs i e → scope.tables.type_at n ≡ Some (Array index element)
      → subscripts_refined scope n (beside (drop i xs)) env ≡ subscripts_refined scope element (beside (drop (i + 1) xs)) (refined scope e (range_of (scope.tables.type_at index)) env)
  next_subscript xs i e n index element env h at array =
      ap (λ ys. subscripts_refined scope n (beside ys) env) (rest_at xs i e h at)
      ∙ ap (λ d. subscripts_refined scope (element_type d) (beside (drop (i + 1) xs)) (refined scope e (range_of (scope.tables.type_at (index_type d))) env)) array
