-- The errors that an action may be, told of actions as `Checking` tells them of statements; and those for which no check stands.
use Rattle.std.specs.Prelude.{◌≡◌, ◌⊎◌, ℕ, List, [], ◌∷◌, ◌++◌, Contains, Option, Some, None, slice_get}
use Rattle.px_base.specs.declared.kind.Kind.TheVariants.{UndefinedValue, NoResult}
use Rattle.pas_program.specs.declared.expr.Access.{Access}
use Rattle.pas_program.specs.declared.expr.Actual.{Actual}
use Rattle.pas_program.specs.declared.expr.Actual.TheOpen.{Access-F, Actual-F, ExprForm-F, Expr-F}
use Rattle.pas_program.specs.declared.expr.Actual.TheFolds.{fold-Access, fold-Expr, fold-ExprForm}
use Rattle.pas_program.specs.declared.expr.Actual.TheViews.{out-Actual}
use Rattle.pas_program.specs.declared.expr.Expr.{Expr}
use Rattle.pas_program.specs.declared.expr.ExprForm.{ExprForm}
use Rattle.pas_program.specs.declared.statement.WriteValue.{WriteValue}
use Rattle.pas_program.specs.declared.statement.WriteValue.TheVariants as written
use Rattle.control_points.specs.declared.edge.Act.{Act}
use Rattle.control_points.specs.declared.edge.Act.TheVariants as act
use Rattle.control_points.specs.declared.edge.Edge.{Edge}
use Rattle.control_points.specs.declared.fault.Fault.{Fault}
use Rattle.control_points.specs.Actions.{slot_at}
use Rattle.control_points.specs.Chart.{Chart, place_of_point}
use Rattle.control_points.specs.Checking.{Faults, one, expr_checks, access_checks, assigned_checks, passing_checks, read_checks, item_checks, selector_checks, bounds_checks, formals_of}
use Rattle.control_points.specs.Evaluation.{access_type, var_type}
use Rattle.control_points.specs.Judgements.{Judgement, fault_of, point_judgements}
use Rattle.control_points.specs.States.{State}
use Rattle.control_points.specs.Steps.{point_of}

-- ---- slots: that the slot of a call is undefined is an error at the call's name, for which no check stands

abbrev pub joined : List Faults → Faults
joined [] = []
joined (xs ∷ rest) = xs ++ joined rest

abbrev pub slot_access_step : Access-F (Unit {0}) Faults Faults Faults → Faults
slot_access_step a = joined a.subscripts

abbrev pub slot_form_step : ExprForm-F (Unit {0}) Faults Faults Faults → Faults
slot_form_step (ExprForm-F.Const boolean value) = []
slot_form_step (ExprForm-F.«ExprForm::Value» access) = access
slot_form_step (ExprForm-F.Unary op operand at) = operand
slot_form_step (ExprForm-F.Binary op left right at) = left ++ right
slot_form_step (ExprForm-F.Call routine actuals slot at) = one UndefinedValue at

abbrev pub slot_expr_step : Expr-F (Unit {0}) Faults Faults Faults → Faults
slot_expr_step e = e.form

abbrev pub expr_slots : Expr → Faults
expr_slots = fold-Expr (Unit {0}) Faults Faults Faults (λ a. tt) slot_form_step slot_access_step slot_expr_step

abbrev pub form_slots : ExprForm → Faults
form_slots = fold-ExprForm (Unit {0}) Faults Faults Faults (λ a. tt) slot_form_step slot_access_step slot_expr_step

abbrev pub access_slots : Access → Faults
access_slots = fold-Access (Unit {0}) Faults Faults Faults (λ a. tt) slot_form_step slot_access_step slot_expr_step

abbrev pub actual_slots : Actual-F Actual ExprForm Access Expr → Faults
actual_slots (Actual-F.«Actual::Value» e) = expr_slots e
actual_slots (Actual-F.Whole a) = access_slots a
actual_slots (Actual-F.Var a) = access_slots a

abbrev pub actuals_slots : List Actual → Faults
actuals_slots [] = []
actuals_slots (a ∷ actuals) = actual_slots (out-Actual a) ++ actuals_slots actuals

abbrev pub written_slots : WriteValue → Faults
written_slots (written.Value e) = expr_slots e
written_slots (written.Text bytes at) = []

abbrev pub width_slots : Option Expr → Faults
width_slots None = []
width_slots (Some e) = expr_slots e

-- ---- actions; `at` is the place of the point that the action leaves

-- a function's result at its exit
abbrev pub returned_checks : ℕ → Option ℕ → Faults
returned_checks at None = []
returned_checks at (Some slot) = one NoResult at

module _ (c : Chart) (at : ℕ) where
  abbrev pub act_checks : Act → Faults
  act_checks (act.Assign target e) = access_checks c.tables target ++ assigned_checks c.tables (access_type c.tables target) e
  act_checks (act.Copy target source) = access_checks c.tables target ++ access_checks c.tables source
  act_checks (act.Call routine actuals slot name) = passing_checks c.tables actuals (formals_of (c.tables.head_at routine))
  act_checks (act.Return j) = returned_checks at (slot_at c.edges j)
  act_checks (act.Test e wanted) = expr_checks c.tables e
  act_checks (act.Arm selector constants) = selector_checks c.tables selector
  act_checks (act.Enter control bound first down last) = bounds_checks c.tables (var_type c.tables control) first last
  act_checks (act.Bypass control bound first down last) = bounds_checks c.tables (var_type c.tables control) first last
  act_checks (act.Read target) = read_checks c.tables (access_type c.tables target) target
  act_checks (act.Write item) = item_checks c.tables item
  act_checks _ = []

  -- the errors without a check: an undefined slot, and at the end of a turn of a `for` an undefined control variable or bound
  abbrev pub unchecked : Act → Faults
  unchecked (act.Assign target e) = access_slots target ++ expr_slots e
  unchecked (act.Copy target source) = access_slots target ++ access_slots source
  unchecked (act.Call routine actuals slot name) = actuals_slots actuals
  unchecked (act.Test e wanted) = expr_slots e
  unchecked (act.Arm selector constants) = expr_slots selector
  unchecked (act.Enter control bound first down last) = expr_slots first ++ expr_slots last
  unchecked (act.Bypass control bound first down last) = expr_slots first ++ expr_slots last
  unchecked (act.Next control bound down) = one UndefinedValue at
  unchecked (act.Finish control bound down) = one UndefinedValue at
  unchecked (act.Read target) = access_slots target
  unchecked (act.Write item) = written_slots item.value ++ width_slots item.width
  unchecked _ = []

-- the error is that of a judgement of the point of the state: of this number among them
pub record IsJudgedError (c : Chart) (s : State) (f : Fault) : Type 0 where
  pub number : ℕ
  pub judgement : Judgement
  pub known : slice_get (point_judgements c (point_of s.stack)) number ≡ Some judgement
  pub same : fault_of judgement ≡ f

-- the error is one without a check, of the action of an edge that leaves the point of the state
pub record IsUncheckedError (c : Chart) (s : State) (f : Fault) : Type 0 where
  pub number : ℕ
  pub edge : Edge
  pub known : slice_get c.edges number ≡ Some edge
  pub leaves : edge.from ≡ point_of s.stack
  pub listed : Contains (unchecked c (place_of_point c.points edge.from) edge.act) f

-- an error that a step from the state may be
abbrev pub IsForeseen : Chart → State → Fault → Type 0
IsForeseen c s f = IsJudgedError c s f ⊎ IsUncheckedError c s f
