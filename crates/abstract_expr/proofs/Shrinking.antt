-- What refining leaves of an environment is below it.
use Rattle.std.proofs.Common.{◌≡◌, ℕ, zero, suc, Bool, true, false, not, ◌||◌, List, [], ◌∷◌, length, map, refl, sym, ap, ◌∙◌, subst, arith}
use Rattle.std.specs.Prelude.{IsTrue, if◌then◌else◌, slice_index_or, slice_set}
use Rattle.std.proofs.lemmas.Bool.{and_from, and_parts, false≢true}
use Rattle.std.proofs.lemmas.Int.{ints}
use Rattle.px_base.specs.declared.operator.BinOp.{BinOp}
use Rattle.pas_program.specs.declared.expr.Access.{Access}
use Rattle.pas_program.specs.declared.expr.Actual.{Actual}
use Rattle.pas_program.specs.declared.expr.Actual.TheFolds.{fold-Access, fold-Actual, fold_out-Access, fold-roll-ExprForm, ind-Access, ind-Expr, map-Access, map-Actual, map-Expr, map-ExprForm, para-roll-Expr}
use Rattle.pas_program.specs.declared.expr.Actual.TheOpen.{Access-F, Actual-F, ExprForm-F, Expr-F}
use Rattle.pas_program.specs.declared.expr.Actual.TheViews.{out-roll-Access, roll-Access, roll-Actual, roll-Expr, roll-ExprForm}
use Rattle.pas_program.specs.declared.expr.Expr.{Expr}
use Rattle.pas_program.specs.declared.expr.ExprForm.{ExprForm}
use Rattle.control_points.specs.Evaluation.{element_type, index_type, var_type}
use Rattle.environment.specs.CellLaws.{below_itself, length_below}
use Rattle.environment.specs.Environments.{Environment, cell_count, env_below}
use Rattle.environment.specs.Environments.Environment.{Reachable, Unreachable}
use Rattle.environment.specs.Pointwise.{each_below}
use Rattle.interval.specs.declared.itv.Itv.{Itv}
use Rattle.interval.specs.declared.val.Val.{Val}
use Rattle.interval.specs.Forward.{binary_answer}
use Rattle.interval.specs.IntervalLaws.{meet_below_right}
use Rattle.interval.specs.Intervals.{is_empty, is_within, meet}
use Rattle.interval.specs.Values.{allows_nothing, nothing, val_below}
use Rattle.interval_back.specs.Backward.{left_back, right_back, operand_back}
use Rattle.abstract_expr.specs.Expressions.{Change, Refining, Scope, access_step, cell_step, defined_in, expr_step, form_step, indexed, name_refined, names_related, numbers_in, of_form, operands_refined, range_of, reached_form, reached_value, refined, refined_form, related, subscripts_refined, target, value_step, wanted_of}
use Rattle.abstract_expr.proofs.Levels.{beside, indexed_is, of_access, of_binary, of_call, of_constant, of_unary}
use Rattle.abstract_expr.proofs.Weaker.{With}

-- ---- the order of environments goes on

within_on : (x y z : Itv) → IsTrue (is_within x y) → IsTrue (is_within y z) → IsTrue (is_within x z)
within_on x y z a b = grind (arith, ints)

undefined_on : (a b c : Bool) → (not a || b) ≡ true → (not b || c) ≡ true → (not a || c) ≡ true
undefined_on false b c g h = refl
undefined_on true true c g h = h
undefined_on true false c g h = absurd (false≢true g)

val_below_on : (u v w : Val) → IsTrue (val_below u v) → IsTrue (val_below v w) → IsTrue (val_below u w)
val_below_on u v w a b =
    let p = and_parts (not u.undef || v.undef) _ a in
    let q = and_parts (not v.undef || w.undef) _ b in
    and_from _ _ (undefined_on u.undef v.undef w.undef p.0 q.0) (within_on u.itv v.itv w.itv p.1 q.1)

each_below_on : (us vs ws : List Val) → IsTrue (each_below us vs) → IsTrue (each_below vs ws) → IsTrue (each_below us ws)
each_below_on [] [] ws a b = b
each_below_on [] (v ∷ vs) ws a b = absurd (false≢true a)
each_below_on (u ∷ us) [] ws a b = absurd (false≢true a)
each_below_on (u ∷ us) (v ∷ vs) [] a b = absurd (false≢true b)
each_below_on (u ∷ us) (v ∷ vs) (w ∷ ws) a b =
    let p = and_parts (val_below u v) _ a in
    let q = and_parts (val_below v w) _ b in
    and_from _ _ (val_below_on u v w p.0 q.0) (each_below_on us vs ws p.1 q.1)

-- an environment below another one, with as many cells
pub record IsLess (after before : Environment) : Type 0 where
  pub below : env_below after before ≡ true
  pub cells : cell_count after ≡ cell_count before

pub less_itself : (env : Environment) → IsLess env env
less_itself (Unreachable n) = record { below = refl; cells = refl }
less_itself (Reachable vs) = record { below = below_itself vs; cells = refl }

env_below_on : (x y z : Environment) → env_below x y ≡ true → env_below y z ≡ true → env_below x z ≡ true
env_below_on (Unreachable n) y z a b = refl
env_below_on (Reachable us) (Unreachable n) z a b = absurd (false≢true a)
env_below_on (Reachable us) (Reachable vs) (Unreachable n) a b = absurd (false≢true b)
env_below_on (Reachable us) (Reachable vs) (Reachable ws) a b = each_below_on us vs ws a b

less_on : (x y z : Environment) → IsLess x y → IsLess y z → IsLess x z
less_on x y z a b = record { below = env_below_on x y z a.below b.below; cells = a.cells ∙ b.cells }

-- ---- one cell

set_below : (vs : List Val) (cell : ℕ) (v d : Val) → IsTrue (val_below v (slice_index_or vs cell d)) → IsTrue (each_below (slice_set vs cell v) vs)
set_below [] cell v d h = refl
set_below (u ∷ vs) zero v d h = and_from _ _ h (below_itself vs)
set_below (u ∷ vs) (suc cell) v d h = and_from _ _ (and_parts _ _ (below_itself (u ∷ vs))).0 (set_below vs cell v d h)

settled_less : (b : Bool) (us vs : List Val) → IsTrue (each_below us vs) → IsLess (if b then Unreachable (length vs) else Reachable us) (Reachable vs)
settled_less true us vs h = record { below = refl; cells = refl }
settled_less false us vs h = record { below = h; cells = length_below us vs h }

abbrev defined : Itv → Val
defined w = record { undef = false; itv = w }

defined_less : (cell : ℕ) (w : Itv) (env : Environment) → IsTrue (is_within w (numbers_in env cell)) → IsLess (defined_in cell w env) env
defined_less cell w (Unreachable n) h = less_itself (Unreachable n)
defined_less cell w (Reachable vs) h = settled_less (allows_nothing (defined w)) (slice_set vs cell (defined w)) vs (set_below vs cell (defined w) nothing h)

met_less : (b : Bool) (env after : Environment) → IsLess after env → IsLess (if b then Unreachable (cell_count env) else after) env
met_less true env after h = record { below = refl; cells = refl }
met_less false env after h = h

wanted_less : (x : Itv) (r : Refining) (w : Itv) (env : Environment) → ((left : Itv) → IsTrue (is_within left x) → IsLess (r left env) env) → IsLess (wanted_of x r w env) env
wanted_less x r w (Unreachable n) f = less_itself (Unreachable n)
wanted_less x r w (Reachable vs) f = met_less (is_empty (meet w x)) (Reachable vs) (r (meet w x) (Reachable vs)) (f (meet w x) (meet_below_right w x))

abbrev Shrinks : Refining → Type 0
Shrinks r = (w : Itv) (env : Environment) → IsLess (r w env) env

operands_less : (op : BinOp) (x y : Itv) (left right : Refining) → Shrinks left → Shrinks right → Shrinks (operands_refined op x y left right)
operands_less op x y left right l r w env =
    let after = left (left_back op w x y) env in
    less_on (operands_refined op x y left right w env) after env (r (right_back op w x y) after) (l (left_back op w x y) env)

-- ---- expressions

module _ (s : Scope) where
  abbrev OfActual : Actual → Type 0
  OfActual a = Unit {0}

  abbrev OfForm : ExprForm → Type 0
  OfForm f = (w : Itv) (env : Environment) → IsTrue (is_within w (reached_form s.bind env f)) → IsLess (refined_form s f w env) env

  abbrev OfAccess : Access → Type 0
  OfAccess a = (env : Environment) → IsLess (indexed s a env) env

  abbrev OfExpr : Expr → Type 0
  OfExpr e = Shrinks (refined s e)

  -- ---- the value of a form

  reached_is : (env : Environment) (d : ExprForm-F Actual ExprForm Access Expr) → reached_form s.bind env (roll-ExprForm d) ≡ value_step s.bind env (map-ExprForm Actual ExprForm Access Expr (Unit {0}) Itv ℕ Itv
      (fold-Actual (Unit {0}) Itv ℕ Itv (λ a. tt) (value_step s.bind env) (cell_step s.bind env) (of_form s.bind env)) (reached_form s.bind env)
      (fold-Access (Unit {0}) Itv ℕ Itv (λ a. tt) (value_step s.bind env) (cell_step s.bind env) (of_form s.bind env)) (reached_value s.bind env) d)
  reached_is env d = fold-roll-ExprForm (Unit {0}) Itv ℕ Itv (λ a. tt) (value_step s.bind env) (cell_step s.bind env) (of_form s.bind env) d

  cell_is : (env : Environment) (a : Access) → fold-Access (Unit {0}) Itv ℕ Itv (λ a. tt) (value_step s.bind env) (cell_step s.bind env) (of_form s.bind env) a ≡ (target s.bind a).cell
  cell_is env a = fold_out-Access (Unit {0}) Itv ℕ Itv (λ a. tt) (value_step s.bind env) (cell_step s.bind env) (of_form s.bind env) a

  -- ---- one level

  variable_by : (b : Bool) (cell : ℕ) (indexed : Change) (w : Itv) (env : Environment) → IsTrue (is_within w (numbers_in env cell)) → IsLess (indexed env) env → IsLess (if b then defined_in cell w env else indexed env) env
  variable_by true cell indexed w env h i = defined_less cell w env h
  variable_by false cell indexed w env h i = i

  of_form_level : (y : ExprForm-F (With OfActual) (With OfForm) (With OfAccess) (With OfExpr)) → OfForm (roll-ExprForm (map-ExprForm (With OfActual) (With OfForm) (With OfAccess) (With OfExpr) Actual ExprForm Access Expr (λ e. e.0) (λ e. e.0) (λ e. e.0) (λ e. e.0) y))
  of_form_level (ExprForm-F.Const boolean value) w env h =
      subst (λ (after : Environment). IsLess after env) (sym (of_constant s _ w env boolean value refl)) (less_itself env)
  of_form_level (ExprForm-F.«ExprForm::Value» a) w env h =
      subst (λ (after : Environment). IsLess after env) (sym (of_access s _ w env a.0 refl))
      (variable_by (target s.bind a.0).whole (target s.bind a.0).cell (indexed s a.0) w env
      (subst (λ x. IsTrue (is_within w x)) (reached_is env (ExprForm-F.«ExprForm::Value» a.0) ∙ ap (numbers_in env) (cell_is env a.0)) h) (a.1 env))
  of_form_level (ExprForm-F.Unary op e at) w env h =
      subst (λ (after : Environment). IsLess after env) (sym (of_unary s _ w env op e.0 at refl)) (e.1 (operand_back op w (reached_value s.bind env e.0)) env)
  of_form_level (ExprForm-F.Binary op l r at) w env h =
      subst (λ (after : Environment). IsLess after env) (sym (of_binary s _ w env op l.0 r.0 at refl))
      (operands_less op (reached_value s.bind env l.0) (reached_value s.bind env r.0) (refined s l.0) (refined s r.0) l.1 r.1 w env)
  of_form_level (ExprForm-F.Call routine actuals slot at) w env h =
      subst (λ (after : Environment). IsLess after env) (sym (of_call s _ w env routine (map (λ e. e.0) actuals) slot at refl))
      (defined_less (s.bind slot).cell w env (subst (λ x. IsTrue (is_within w x)) (reached_is env (ExprForm-F.Call routine (map (λ e. e.0) actuals) slot at)) h))

  subscripts_less : (ys : List (With OfExpr)) (n : ℕ) (env : Environment) → IsLess (subscripts_refined s n (beside s (map (λ (y : With OfExpr). y.0) ys)) env) env
  subscripts_less [] n env = less_itself env
  subscripts_less (y ∷ ys) n env =
      let after = refined s y.0 (range_of (s.tables.type_at (index_type (s.tables.type_at n)))) env in
      less_on _ after env (subscripts_less ys (element_type (s.tables.type_at n)) after) (y.1 (range_of (s.tables.type_at (index_type (s.tables.type_at n)))) env)

  of_access_level : (y : Access-F (With OfActual) (With OfForm) (With OfAccess) (With OfExpr)) → OfAccess (roll-Access (map-Access (With OfActual) (With OfForm) (With OfAccess) (With OfExpr) Actual ExprForm Access Expr (λ e. e.0) (λ e. e.0) (λ e. e.0) (λ e. e.0) y))
  of_access_level y env =
      let d = map-Access (With OfActual) (With OfForm) (With OfAccess) (With OfExpr) Actual ExprForm Access Expr (λ e. e.0) (λ e. e.0) (λ e. e.0) (λ e. e.0) y in
      let is = indexed_is s (roll-Access d) ∙ ap (λ (a : Access-F Actual ExprForm Access Expr). subscripts_refined s (var_type s.tables a.var) (beside s a.subscripts)) (out-roll-Access d) in
      subst (λ (after : Environment). IsLess after env) (sym (ap (λ (c : Change). c env) is)) (subscripts_less y.subscripts (var_type s.tables y.var) env)

  of_expr_level : (y : Expr-F (With OfActual) (With OfForm) (With OfAccess) (With OfExpr)) → OfExpr (roll-Expr (map-Expr (With OfActual) (With OfForm) (With OfAccess) (With OfExpr) Actual ExprForm Access Expr (λ e. e.0) (λ e. e.0) (λ e. e.0) (λ e. e.0) y))
  of_expr_level y w env =
      let d = map-Expr (With OfActual) (With OfForm) (With OfAccess) (With OfExpr) Actual ExprForm Access Expr (λ e. e.0) (λ e. e.0) (λ e. e.0) (λ e. e.0) y in
      let is = para-roll-Expr (Unit {0}) Refining Change Refining (λ a. tt) (form_step s) (access_step s) (expr_step s) d in
      subst (λ (after : Environment). IsLess after env) (sym (ap (λ (r : Refining). r w env) is))
      (wanted_less (reached_form s.bind env y.form.0) (refined_form s y.form.0) w env (λ left. y.form.1 left env))

  by_actual : (x : Actual-F Actual ExprForm Access Expr) (y : Actual-F (With OfActual) (With OfForm) (With OfAccess) (With OfExpr)) → map-Actual (With OfActual) (With OfForm) (With OfAccess) (With OfExpr) Actual ExprForm Access Expr (λ e. e.0) (λ e. e.0) (λ e. e.0) (λ e. e.0) y ≡ x → OfActual (roll-Actual x)
  by_actual x y is = tt

  by_form : (x : ExprForm-F Actual ExprForm Access Expr) (y : ExprForm-F (With OfActual) (With OfForm) (With OfAccess) (With OfExpr)) → map-ExprForm (With OfActual) (With OfForm) (With OfAccess) (With OfExpr) Actual ExprForm Access Expr (λ e. e.0) (λ e. e.0) (λ e. e.0) (λ e. e.0) y ≡ x → OfForm (roll-ExprForm x)
  by_form x y is = subst (λ z. OfForm (roll-ExprForm z)) is (of_form_level y)

  by_access : (x : Access-F Actual ExprForm Access Expr) (y : Access-F (With OfActual) (With OfForm) (With OfAccess) (With OfExpr)) → map-Access (With OfActual) (With OfForm) (With OfAccess) (With OfExpr) Actual ExprForm Access Expr (λ e. e.0) (λ e. e.0) (λ e. e.0) (λ e. e.0) y ≡ x → OfAccess (roll-Access x)
  by_access x y is = subst (λ z. OfAccess (roll-Access z)) is (of_access_level y)

  by_expr : (x : Expr-F Actual ExprForm Access Expr) (y : Expr-F (With OfActual) (With OfForm) (With OfAccess) (With OfExpr)) → map-Expr (With OfActual) (With OfForm) (With OfAccess) (With OfExpr) Actual ExprForm Access Expr (λ e. e.0) (λ e. e.0) (λ e. e.0) (λ e. e.0) y ≡ x → OfExpr (roll-Expr x)
  by_expr x y is = subst (λ z. OfExpr (roll-Expr z)) is (of_expr_level y)

  -- ---- what is known of each

  pub refined_less : (e : Expr) → Shrinks (refined s e)
  refined_less = ind-Expr OfActual OfForm OfAccess OfExpr by_actual by_form by_access by_expr

  pub indexed_less : (a : Access) (env : Environment) → IsLess (indexed s a env) env
  indexed_less = ind-Access OfActual OfForm OfAccess OfExpr by_actual by_form by_access by_expr

  pub related_less : (op : BinOp) (left right : Expr) → Shrinks (related s op left right)
  related_less op left right w env =
      let x = reached_value s.bind env left in
      let y = reached_value s.bind env right in
      wanted_less (binary_answer op x y).value (operands_refined op x y (refined s left) (refined s right)) w env
      (λ v h. operands_less op x y (refined s left) (refined s right) (refined_less left) (refined_less right) v env)

  name_less : (v : ℕ) → Shrinks (name_refined s v)
  name_less v w env = wanted_less (numbers_in env (s.bind v).cell) (defined_in (s.bind v).cell) w env (λ left. defined_less (s.bind v).cell left env)

  pub names_less : (op : BinOp) (left right : ℕ) → Shrinks (names_related s op left right)
  names_less op left right w env =
      let x = numbers_in env (s.bind left).cell in
      let y = numbers_in env (s.bind right).cell in
      wanted_less (binary_answer op x y).value (operands_refined op x y (name_refined s left) (name_refined s right)) w env
      (λ v h. operands_less op x y (name_refined s left) (name_refined s right) (name_less left) (name_less right) v env)
