-- From an element that is not reached nothing comes along an arc.
use Rattle.std.proofs.Common.{◌≡◌, ℕ, Bool, true, false, List, [], ◌∷◌, Option, Some, None, refl, sym, ap, ◌∙◌}
use Rattle.std.specs.Prelude.{if◌then◌else◌}
use Rattle.std.proofs.lemmas.Bool.{false≢true}
use Rattle.interval.specs.declared.itv.Itv.{Itv}
use Rattle.interval.specs.declared.val.Val.{Val}
use Rattle.environment.specs.Environments.{Environment, after_set, cell_count, env_below, env_join, env_ops, is_reachable, undefined, value_at}
use Rattle.environment.specs.Environments.Environment.{Reachable, Unreachable}
use Rattle.alias_class.specs.declared.bind.Bind.{Bind}
use Rattle.abstract_expr.specs.Expressions.{Scope, indexed, names_related, range_of, refined, related, target, truth_of, widths}
use Rattle.activations.specs.declared.arc.Arc.{Arc}
use Rattle.activations.specs.Drawn.{Drawn}
use Rattle.activations.specs.Fitting.{exit_of}
use Rattle.control_points.specs.declared.edge.Act.{Act}
use Rattle.control_points.specs.declared.edge.Act.TheVariants as act
use Rattle.control_points.specs.declared.flow.Flow.{Flow}
use Rattle.control_points.specs.Evaluation.{access_type, var_type}
use Rattle.fixpoint.specs.System.{element}
use Rattle.pas_program.specs.declared.expr.Access.{Access}
use Rattle.pas_program.specs.declared.expr.Actual.{Actual}
use Rattle.pas_program.specs.declared.expr.Actual.TheOpen.{Actual-F}
use Rattle.pas_program.specs.declared.expr.Actual.TheViews.{out-Actual}
use Rattle.pas_program.specs.declared.expr.Expr.{Expr}
use Rattle.pas_program.specs.declared.expr.ExprForm.{ExprForm}
use Rattle.pas_program.specs.declared.statement.WriteValue.{WriteValue}
use Rattle.pas_program.specs.declared.statement.WriteValue.TheVariants as written
use Rattle.px_base.specs.declared.operator.BinOp.{BinOp}
use Rattle.px_base.specs.declared.operator.BinOp.TheVariants as binary
use Rattle.transfer_fwd.specs.Actions.{after, entered_if, host_of, hull_of, in_host, in_host_if_value, in_widths, number_in, stepped, stored, turned_if, value_for}
use Rattle.transfer_fwd.specs.Crossings.{actual_refined, actuals_refined, kept_cells, leaving}
use Rattle.transfer_fwd.specs.Forward.{Table, action_at, along, along_by, cells_at, crossing_by, scope_at}
use Rattle.transfer_fwd.proofs.Stored.{stored_unreached}

-- what the law of refining says of order
pub record LeavesLess : Type 0 where
  pub expr : (s : Scope) (e : Expr) (w : Itv) (env : Environment) → env_below (refined s e w env) env ≡ true
  pub access : (s : Scope) (a : Access) (env : Environment) → env_below (indexed s a env) env ≡ true
  pub relation : (s : Scope) (op : BinOp) (left right : Expr) (w : Itv) (env : Environment) → env_below (related s op left right w env) env ≡ true
  pub names : (s : Scope) (op : BinOp) (left right : ℕ) (w : Itv) (env : Environment) → env_below (names_related s op left right w env) env ≡ true

abbrev IsNowhere : Environment → Type 0
IsNowhere env = is_reachable env ≡ false

below_nowhere : (x y : Environment) → env_below x y ≡ true → IsNowhere y → IsNowhere x
below_nowhere (Unreachable n) y below nowhere = refl
below_nowhere (Reachable vs) (Unreachable n) below nowhere = absurd (false≢true below)
below_nowhere (Reachable vs) (Reachable ws) below nowhere = absurd (false≢true (sym nowhere))

set_nowhere : (env : Environment) (cell : ℕ) (v : Val) → IsNowhere env → IsNowhere (after_set env cell v)
set_nowhere (Unreachable n) cell v nowhere = refl
set_nowhere (Reachable vs) cell v nowhere = absurd (false≢true (sym nowhere))

stored_nowhere : (b : Bind) (v : Val) (env : Environment) → IsNowhere env → IsNowhere (stored b v env)
stored_nowhere b v env nowhere = ap is_reachable (sym (stored_unreached b v env nowhere)) ∙ nowhere

module _ (less : LeavesLess) (s : Scope) where
  expr : (e : Expr) (w : Itv) (env : Environment) → IsNowhere env → IsNowhere (refined s e w env)
  expr e w env = below_nowhere (refined s e w env) env (less.expr s e w env)

  access : (a : Access) (env : Environment) → IsNowhere env → IsNowhere (indexed s a env)
  access a env = below_nowhere (indexed s a env) env (less.access s a env)

  entered : (holds : Bool) (first : Expr) (down : Bool) (last : Expr) (env : Environment) → IsNowhere env → IsNowhere (entered_if s holds first down last env)
  entered holds first down last env nowhere =
      let op = if down then binary.Ge else binary.Le in
      let lies = in_host s last (in_host s first env) in
      below_nowhere (related s op first last (truth_of holds) lies) lies (less.relation s op first last (truth_of holds) lies) (expr last (host_of s last) (in_host s first env) (expr first (host_of s first) env nowhere))

  turned : (holds : Bool) (control bound : ℕ) (down : Bool) (env : Environment) → IsNowhere env → IsNowhere (turned_if s holds control bound down env)
  turned holds control bound down env =
      let op = if down then binary.Gt else binary.Lt in
      below_nowhere (names_related s op control bound (truth_of holds) env) env (less.names s op control bound (truth_of holds) env)

  value : (v : WriteValue) (env : Environment) → IsNowhere env → IsNowhere (in_host_if_value s v env)
  value (written.Value e) env nowhere = expr e (host_of s e) env nowhere
  value (written.Text bytes at) env nowhere = nowhere

  width : (o : Option Expr) (env : Environment) → IsNowhere env → IsNowhere (in_widths s o env)
  width None env nowhere = nowhere
  width (Some e) env nowhere = expr e widths env nowhere

  after_nowhere : (a : Act) (env : Environment) → IsNowhere env → IsNowhere (after s a env)
  after_nowhere (act.Assign a e) env nowhere =
      let n = access_type s.tables a in
      let w = range_of (s.tables.type_at n) in
      let left = refined s e w (indexed s a env) in
      stored_nowhere (target s.bind a) (value_for s n e left) left (expr e w (indexed s a env) (access a env nowhere))
  after_nowhere (act.Copy a source) env nowhere =
      let left = indexed s source (indexed s a env) in
      stored_nowhere (target s.bind a) (value_at left (target s.bind source).cell) left (access source (indexed s a env) (access a env nowhere))
  after_nowhere (act.Test e wanted) env nowhere = expr e (truth_of wanted) (in_host s e env) (expr e (host_of s e) env nowhere)
  after_nowhere (act.Arm e constants) env nowhere = expr e (hull_of constants) (in_host s e env) (expr e (host_of s e) env nowhere)
  after_nowhere (act.Enter control bound first down last) env nowhere =
      let n = var_type s.tables control in
      let w = range_of (s.tables.type_at n) in
      let there = entered_if s true first down last env in
      let left = refined s last w (refined s first w there) in
      let begun = stored (s.bind control) (value_for s n first left) left in
      stored_nowhere (s.bind bound) (value_for s n last left) begun
      (stored_nowhere (s.bind control) (value_for s n first left) left (expr last w (refined s first w there) (expr first w there (entered true first down last env nowhere))))
  after_nowhere (act.Bypass control bound first down last) env nowhere =
      set_nowhere (entered_if s false first down last env) (s.bind control).cell undefined (entered false first down last env nowhere)
  after_nowhere (act.Next control bound down) env nowhere =
      let left = turned_if s true control bound down env in
      stored_nowhere (s.bind control) (record { undef = false; itv = stepped down (value_at left (s.bind control).cell).itv }) left (turned true control bound down env nowhere)
  after_nowhere (act.Finish control bound down) env nowhere = set_nowhere (turned_if s false control bound down env) (s.bind control).cell undefined (turned false control bound down env nowhere)
  after_nowhere (act.Read a) env nowhere =
      let range = range_of (s.tables.type_at (access_type s.tables a)) in
      stored_nowhere (target s.bind a) (number_in range range) (indexed s a env) (access a env nowhere)
  after_nowhere (act.Write item) env nowhere = width item.width (in_host_if_value s item.value env) (value item.value env nowhere)
  after_nowhere a env nowhere = nowhere

  actual : (v : ℕ) (a : Actual-F Actual ExprForm Access Expr) (env : Environment) → IsNowhere env → IsNowhere (actual_refined s v a env)
  actual v (Actual-F.«Actual::Value» e) env nowhere = expr e (range_of (s.tables.type_at (var_type s.tables v))) env nowhere
  actual v (Actual-F.Whole a) env nowhere = access a env nowhere
  actual v (Actual-F.Var a) env nowhere = access a env nowhere

  all_actuals : (actuals : List Actual) (formals : List ℕ) (env : Environment) → IsNowhere env → IsNowhere (actuals_refined s actuals formals env)
  all_actuals [] formals env nowhere = nowhere
  all_actuals (a ∷ actuals) [] env nowhere = nowhere
  all_actuals (a ∷ actuals) (v ∷ formals) env nowhere = all_actuals actuals formals (actual_refined s v (out-Actual a) env) (actual v (out-Actual a) env nowhere)

-- the other of two environments
otherwise : (b : Bool) (x y : Environment) → b ≡ false → IsNowhere y → IsNowhere (if b then x else y)
otherwise true x y fails nowhere = absurd (false≢true (sym fails))
otherwise false x y fails nowhere = nowhere

kept_nowhere : (count : ℕ) (env : Environment) → IsNowhere env → IsNowhere (kept_cells count env)
kept_nowhere count (Unreachable n) nowhere = refl
kept_nowhere count (Reachable vs) nowhere = absurd (false≢true (sym nowhere))

module _ (less : LeavesLess) (f : Flow) (g : Drawn) (table : Table) (a : Arc) (nowhere : IsNowhere (element env_ops table a.from)) where
  along_nowhere_by : (action : Act) → IsNowhere (along_by f g table a action)
  along_nowhere_by (act.Call routine actuals slot at) =
      let x = crossing_by f g a.from a.to a.call (act.Call routine actuals slot at) in
      otherwise (is_reachable (leaving x (element env_ops table a.from))) _ (Unreachable x.cells) (all_actuals less x.outside x.actuals x.formals (element env_ops table a.from) nowhere) refl
  along_nowhere_by (act.Return site) =
      let x = crossing_by f g a.from (exit_of a) a.call (action_at f g site) in
      let left = all_actuals less x.outside x.actuals x.formals (element env_ops table a.from) nowhere in
      otherwise (is_reachable (leaving x (element env_ops table a.from))) _ (leaving x (element env_ops table a.from)) left left
  along_nowhere_by (act.Goto routine) = kept_nowhere (cells_at g a.to) (element env_ops table a.from) nowhere
  along_nowhere_by action = after_nowhere less (scope_at f g a.from) action (element env_ops table a.from) nowhere

-- to which joining it adds nothing
pub nothing_joined : (x y : Environment) → is_reachable y ≡ false → cell_count y ≡ cell_count x → env_join x y ≡ x
nothing_joined (Unreachable n) (Unreachable m) nowhere cells = ap Unreachable cells
nothing_joined (Reachable vs) (Unreachable m) nowhere cells = refl
nothing_joined (Unreachable n) (Reachable ws) nowhere cells = absurd (false≢true (sym nowhere))
nothing_joined (Reachable vs) (Reachable ws) nowhere cells = absurd (false≢true (sym nowhere))

pub along_nowhere : LeavesLess → (f : Flow) (g : Drawn) (table : Table) (a : Arc) → is_reachable (element env_ops table a.from) ≡ false → is_reachable (along f g table a) ≡ false
along_nowhere less f g table a nowhere = along_nowhere_by less f g table a nowhere (action_at f g a.edge)
