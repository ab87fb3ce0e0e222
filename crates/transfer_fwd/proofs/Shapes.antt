-- Each change of an environment leaves as many cells as it had.
use Rattle.std.proofs.Common.{◌≡◌, ℕ, ◌≤◌, Bool, true, false, List, [], ◌∷◌, length, Option, Some, None, refl, ◌∙◌}
use Rattle.std.specs.Prelude.{slice_index_or, slice_set, if◌then◌else◌}
use Rattle.std.proofs.lemmas.List.{length-replicate, length-set, length-take-le}
use Rattle.interval.specs.declared.itv.Itv.{Itv}
use Rattle.interval.specs.declared.val.Val.{Val}
use Rattle.interval.specs.Values.{allows_nothing, nothing, val_join}
use Rattle.environment.specs.Environments.{Environment, after_set, after_weak_set, cell_count, is_reachable, started, undefined, value_at}
use Rattle.environment.specs.Environments.Environment.{Reachable, Unreachable}
use Rattle.alias_class.specs.declared.bind.Bind.{Bind}
use Rattle.alias_class.specs.declared.bind.Link.{Link}
use Rattle.abstract_expr.specs.Expressions.{Scope, indexed, names_related, range_of, refined, related, target, truth_of, widths}
use Rattle.control_points.specs.declared.edge.Act.{Act}
use Rattle.control_points.specs.declared.edge.Act.TheVariants as act
use Rattle.control_points.specs.Evaluation.{access_type, var_type}
use Rattle.pas_program.specs.declared.expr.Access.{Access}
use Rattle.pas_program.specs.declared.expr.Actual.{Actual}
use Rattle.pas_program.specs.declared.expr.Actual.TheOpen.{Actual-F}
use Rattle.pas_program.specs.declared.expr.Actual.TheViews.{out-Actual}
use Rattle.pas_program.specs.declared.expr.Expr.{Expr}
use Rattle.pas_program.specs.declared.expr.ExprForm.{ExprForm}
use Rattle.pas_program.specs.declared.statement.WriteValue.{WriteValue}
use Rattle.pas_program.specs.declared.statement.WriteValue.TheVariants as written
use Rattle.px_base.specs.declared.operator.BinOp.{BinOp}
use Rattle.px_base.specs.declared.operator.BinOp.TheVariants as binary
use Rattle.transfer_fwd.specs.Actions.{after, entered_if, host_of, hull_of, in_host, in_host_if_value, in_widths, number_in, stepped, stored, turned_if, value_for}
use Rattle.transfer_fwd.specs.Crossings.{Crossing, ResultCells, actual_refined, actuals_refined, called, formal_given, formals_given, given, kept_cells, leaving, linked_back, linked_in, passed_value, result_set, returned}

-- ---- one cell

set_by : (vs : List Val) (cell : ℕ) (v : Val) (b : Bool) → cell_count (if b then Unreachable (length vs) else Reachable (slice_set vs cell v)) ≡ length vs
set_by vs cell v true = refl
set_by vs cell v false = length-set vs cell v

pub set_cells : (env : Environment) (cell : ℕ) (v : Val) → cell_count (after_set env cell v) ≡ cell_count env
set_cells (Unreachable n) cell v = refl
set_cells (Reachable vs) cell v = set_by vs cell v (allows_nothing v)

weak_cells : (env : Environment) (cell : ℕ) (v : Val) → cell_count (after_weak_set env cell v) ≡ cell_count env
weak_cells (Unreachable n) cell v = refl
weak_cells (Reachable vs) cell v = length-set vs cell (val_join (slice_index_or vs cell nothing) v)

stored_by : (b : Bool) (cell : ℕ) (v : Val) (env : Environment) → cell_count (if b then after_set env cell v else after_weak_set env cell v) ≡ cell_count env
stored_by true cell v env = set_cells env cell v
stored_by false cell v env = weak_cells env cell v

stored_cells : (b : Bind) (v : Val) (env : Environment) → cell_count (stored b v env) ≡ cell_count env
stored_cells b v env = stored_by b.whole b.cell v env

-- ---- refining

-- what the law of refining says of cells
pub record KeepsCells : Type 0 where
  pub expr : (s : Scope) (e : Expr) (w : Itv) (env : Environment) → cell_count (refined s e w env) ≡ cell_count env
  pub access : (s : Scope) (a : Access) (env : Environment) → cell_count (indexed s a env) ≡ cell_count env
  pub relation : (s : Scope) (op : BinOp) (left right : Expr) (w : Itv) (env : Environment) → cell_count (related s op left right w env) ≡ cell_count env
  pub names : (s : Scope) (op : BinOp) (left right : ℕ) (w : Itv) (env : Environment) → cell_count (names_related s op left right w env) ≡ cell_count env

module _ (keeps : KeepsCells) (s : Scope) where
  -- ---- actions that stay in their class

  entered_if_cells : (holds : Bool) (first : Expr) (down : Bool) (last : Expr) (env : Environment) → cell_count (entered_if s holds first down last env) ≡ cell_count env
  entered_if_cells holds first down last env =
      keeps.relation s (if down then binary.Ge else binary.Le) first last (truth_of holds) (in_host s last (in_host s first env)) ∙ keeps.expr s last (host_of s last) (in_host s first env) ∙ keeps.expr s first (host_of s first) env

  turned_cells : (holds : Bool) (control bound : ℕ) (down : Bool) (env : Environment) → cell_count (turned_if s holds control bound down env) ≡ cell_count env
  turned_cells holds control bound down env = keeps.names s (if down then binary.Gt else binary.Lt) control bound (truth_of holds) env

  value_cells : (v : WriteValue) (env : Environment) → cell_count (in_host_if_value s v env) ≡ cell_count env
  value_cells (written.Value e) env = keeps.expr s e (host_of s e) env
  value_cells (written.Text bytes at) env = refl

  width_cells : (o : Option Expr) (env : Environment) → cell_count (in_widths s o env) ≡ cell_count env
  width_cells None env = refl
  width_cells (Some e) env = keeps.expr s e widths env

  pub after_cells : (a : Act) (env : Environment) → cell_count (after s a env) ≡ cell_count env
  after_cells (act.Assign a e) env =
      let n = access_type s.tables a in
      let w = range_of (s.tables.type_at n) in
      let left = refined s e w (indexed s a env) in
      stored_cells (target s.bind a) (value_for s n e left) left ∙ keeps.expr s e w (indexed s a env) ∙ keeps.access s a env
  after_cells (act.Copy a source) env =
      let left = indexed s source (indexed s a env) in
      stored_cells (target s.bind a) (value_at left (target s.bind source).cell) left ∙ keeps.access s source (indexed s a env) ∙ keeps.access s a env
  after_cells (act.Test e wanted) env = keeps.expr s e (truth_of wanted) (in_host s e env) ∙ keeps.expr s e (host_of s e) env
  after_cells (act.Arm e constants) env = keeps.expr s e (hull_of constants) (in_host s e env) ∙ keeps.expr s e (host_of s e) env
  after_cells (act.Enter control bound first down last) env =
      let n = var_type s.tables control in
      let w = range_of (s.tables.type_at n) in
      let there = entered_if s true first down last env in
      let left = refined s last w (refined s first w there) in
      let begun = stored (s.bind control) (value_for s n first left) left in
      stored_cells (s.bind bound) (value_for s n last left) begun ∙ stored_cells (s.bind control) (value_for s n first left) left
      ∙ keeps.expr s last w (refined s first w there) ∙ keeps.expr s first w there ∙ entered_if_cells true first down last env
  after_cells (act.Bypass control bound first down last) env =
      set_cells (entered_if s false first down last env) (s.bind control).cell undefined ∙ entered_if_cells false first down last env
  after_cells (act.Next control bound down) env =
      let left = turned_if s true control bound down env in
      stored_cells (s.bind control) (record { undef = false; itv = stepped down (value_at left (s.bind control).cell).itv }) left ∙ turned_cells true control bound down env
  after_cells (act.Finish control bound down) env = set_cells (turned_if s false control bound down env) (s.bind control).cell undefined ∙ turned_cells false control bound down env
  after_cells (act.Read a) env =
      let range = range_of (s.tables.type_at (access_type s.tables a)) in
      stored_cells (target s.bind a) (number_in range range) (indexed s a env) ∙ keeps.access s a env
  after_cells (act.Write item) env = width_cells item.width (in_host_if_value s item.value env) ∙ value_cells item.value env
  after_cells a env = refl

  -- ---- calls

  actual_cells : (v : ℕ) (a : Actual-F Actual ExprForm Access Expr) (env : Environment) → cell_count (actual_refined s v a env) ≡ cell_count env
  actual_cells v (Actual-F.«Actual::Value» e) env = keeps.expr s e (range_of (s.tables.type_at (var_type s.tables v))) env
  actual_cells v (Actual-F.Whole a) env = keeps.access s a env
  actual_cells v (Actual-F.Var a) env = keeps.access s a env

  pub actuals_cells : (actuals : List Actual) (formals : List ℕ) (env : Environment) → cell_count (actuals_refined s actuals formals env) ≡ cell_count env
  actuals_cells [] formals env = refl
  actuals_cells (a ∷ actuals) [] env = refl
  actuals_cells (a ∷ actuals) (v ∷ formals) env = actuals_cells actuals formals (actual_refined s v (out-Actual a) env) ∙ actual_cells v (out-Actual a) env

given_cells : (first : Bool) (cell : ℕ) (v : Val) (env : Environment) → cell_count (given first cell v env) ≡ cell_count env
given_cells first cell v env = stored_cells (record { whole = first; cell = cell }) v env

linked_in_cells : (first : Bool) (left : Environment) (links : List Link) (env : Environment) → cell_count (linked_in first left links env) ≡ cell_count env
linked_in_cells first left [] env = refl
linked_in_cells first left (l ∷ links) env =
    linked_in_cells first left links (given first l.callee (value_at left l.caller) env) ∙ given_cells first l.callee (value_at left l.caller) env

linked_back_cells : (exit : Environment) (links : List Link) (env : Environment) → cell_count (linked_back exit links env) ≡ cell_count env
linked_back_cells exit [] env = refl
linked_back_cells exit (l ∷ links) env = linked_back_cells exit links (after_set env l.caller (value_at exit l.callee)) ∙ set_cells env l.caller (value_at exit l.callee)

result_cells : (r : Option ResultCells) (exit env : Environment) → cell_count (result_set r exit env) ≡ cell_count env
result_cells None exit env = refl
result_cells (Some cells) exit env = set_cells env cells.slot (record { undef = false; itv = (value_at exit cells.result).itv })

module _ (first : Bool) (outside inside : Scope) (left : Environment) where
  formal_cells : (v : ℕ) (o : Option Val) (env : Environment) → cell_count (formal_given first inside v o env) ≡ cell_count env
  formal_cells v None env = refl
  formal_cells v (Some value) env = given_cells first (inside.bind v).cell value env

  formals_cells : (actuals : List Actual) (formals : List ℕ) (env : Environment) → cell_count (formals_given first outside inside left actuals formals env) ≡ cell_count env
  formals_cells [] formals env = refl
  formals_cells (a ∷ actuals) [] env = refl
  formals_cells (a ∷ actuals) (v ∷ formals) env =
      formals_cells actuals formals (formal_given first inside v (passed_value outside left v (out-Actual a)) env)
      ∙ formal_cells v (passed_value outside left v (out-Actual a)) env

pub started_cells : (n : ℕ) → cell_count (started n) ≡ n
started_cells n = length-replicate n undefined

pub if_cells : (b : Bool) (x y : Environment) (n : ℕ) → cell_count x ≡ n → cell_count y ≡ n → cell_count (if b then x else y) ≡ n
if_cells true x y n first second = first
if_cells false x y n first second = second

-- a call gives an environment of the class that it enters
pub called_cells : (x : Crossing) (env : Environment) → cell_count (called x env) ≡ x.cells
called_cells x env =
    let left = leaving x env in
    let linked = linked_in true left x.links (started x.cells) in
    if_cells (is_reachable left) (formals_given true x.outside x.inside left x.actuals x.formals linked) (Unreachable x.cells) x.cells
    (formals_cells true x.outside x.inside left x.actuals x.formals linked ∙ linked_in_cells true left x.links (started x.cells) ∙ started_cells x.cells) refl

-- and a return one of the class that called
pub returned_cells : KeepsCells → (x : Crossing) (exit env : Environment) → cell_count (returned x exit env) ≡ cell_count env
returned_cells keeps x exit env =
    let left = leaving x env in
    let here : cell_count left ≡ cell_count env = actuals_cells keeps x.outside x.actuals x.formals env in
    if_cells (is_reachable left) (if is_reachable exit then result_set x.result exit (linked_back exit x.links left) else Unreachable (cell_count left)) left (cell_count env)
    (if_cells (is_reachable exit) (result_set x.result exit (linked_back exit x.links left)) (Unreachable (cell_count left)) (cell_count env)
    (result_cells x.result exit (linked_back exit x.links left) ∙ linked_back_cells exit x.links left ∙ here) here) here

-- a `goto` keeps so many
pub kept_count : (n : ℕ) (env : Environment) → n ≤ cell_count env → cell_count (kept_cells n env) ≡ n
kept_count n (Unreachable m) few = refl
kept_count n (Reachable vs) few = length-take-le n vs few
