-- The steps at which a widening stops: numbers next to the integer constants that stand first in the text of a program.
use Rattle.std.specs.Prelude.{ℕ, Bool, not, List, [], ◌∷◌, ◌++◌, map, fold, filter, flat_map, take, ℤ, pos, ◌+ℤ◌, ◌-ℤ◌, int_lt, Option, Some, None, slice_get, if◌then◌else◌}
use Rattle.std.specs.List.{list_any}
use Rattle.std.specs.Ordering.{int_eq}
use Rattle.arithmetic.specs.Numbers.{is_number}
use Rattle.pas_program.specs.declared.expr.Access.{Access}
use Rattle.pas_program.specs.declared.expr.Actual.{Actual}
use Rattle.pas_program.specs.declared.expr.Actual.TheOpen.{Access-F, Actual-F, ExprForm-F, Expr-F}
use Rattle.pas_program.specs.declared.expr.Actual.TheFolds.{fold-Access, fold-Actual, fold-Expr, fold-ExprForm}
use Rattle.pas_program.specs.declared.expr.Expr.{Expr}
use Rattle.pas_program.specs.declared.expr.ExprForm.{ExprForm}
use Rattle.pas_program.specs.declared.program.Program.{Program}
use Rattle.pas_program.specs.declared.routine.Assert.{Assert}
use Rattle.pas_program.specs.declared.routine.Routine.{Routine}
use Rattle.pas_program.specs.declared.statement.Arm.{Arm}
use Rattle.pas_program.specs.declared.statement.Body.{Body}
use Rattle.pas_program.specs.declared.statement.Body.TheOpen.{Arm-F, Body-F, Statement-F}
use Rattle.pas_program.specs.declared.statement.Body.TheFolds.{fold-Arm, fold-Body, fold-Statement}
use Rattle.pas_program.specs.declared.statement.Statement.{Statement}
use Rattle.pas_program.specs.declared.statement.WriteItem.{WriteItem}
use Rattle.pas_program.specs.declared.statement.WriteValue.{WriteValue}
use Rattle.pas_program.specs.declared.statement.WriteValue.TheVariants as written
use Rattle.pas_program.specs.Checked.{tables}
use Rattle.pas_program.specs.Tables.{Tables}
use Rattle.pas_program.specs.Typed.{hosted}
use Rattle.control_points.specs.Marks.{joined, second_or}

-- ---- the integer constants of an expression, in the order of the text. A sign before one is an operator of its own.

abbrev pub Constants : Type 0
Constants = List ℤ

abbrev pub actual_step : Actual-F Constants Constants Constants Constants → Constants
actual_step (Actual-F.«Actual::Value» e) = e
actual_step (Actual-F.Whole a) = a
actual_step (Actual-F.Var a) = a

abbrev pub form_step : ExprForm-F Constants Constants Constants Constants → Constants
form_step (ExprForm-F.Const boolean value) = if boolean then [] else value ∷ []
form_step (ExprForm-F.«ExprForm::Value» a) = a
form_step (ExprForm-F.Unary op operand at) = operand
form_step (ExprForm-F.Binary op left right at) = left ++ right
form_step (ExprForm-F.Call routine actuals slot at) = joined actuals

abbrev pub access_step : Access-F Constants Constants Constants Constants → Constants
access_step a = joined a.subscripts

abbrev pub expr_step : Expr-F Constants Constants Constants Constants → Constants
expr_step e = e.form

abbrev pub expr_constants : Expr → Constants
expr_constants = fold-Expr Constants Constants Constants Constants actual_step form_step access_step expr_step

abbrev pub form_constants : ExprForm → Constants
form_constants = fold-ExprForm Constants Constants Constants Constants actual_step form_step access_step expr_step

abbrev pub access_constants : Access → Constants
access_constants = fold-Access Constants Constants Constants Constants actual_step form_step access_step expr_step

abbrev pub actual_constants : Actual → Constants
actual_constants = fold-Actual Constants Constants Constants Constants actual_step form_step access_step expr_step

abbrev pub exprs_constants : List Expr → Constants
exprs_constants exprs = joined (map expr_constants exprs)

abbrev pub accesses_constants : List Access → Constants
accesses_constants accesses = joined (map access_constants accesses)

abbrev pub actuals_constants : List Actual → Constants
actuals_constants actuals = joined (map actual_constants actuals)

-- a parameter of `write`, its value before its width
abbrev pub written_constants : WriteValue → Constants
written_constants (written.Value e) = expr_constants e
written_constants (written.Text bytes at) = []

abbrev pub width_constants : Option Expr → Constants
width_constants None = []
width_constants (Some e) = expr_constants e

abbrev pub item_constants : WriteItem → Constants
item_constants item = written_constants item.value ++ width_constants item.width

abbrev pub items_constants : List WriteItem → Constants
items_constants items = joined (map item_constants items)

-- ---- those of statements, with their assertions before them

-- an arm of a `case`: its own constants, and those of its statement
pub record ArmConstants : Type 0 where
  pub own : Constants
  pub body : Constants

-- the constants of a Boolean selector are no integers
abbrev pub of_arm : Bool → ArmConstants → Constants
of_arm boolean a = (if boolean then [] else a.own) ++ a.body

abbrev pub condition_constants : Option Assert → Constants
condition_constants None = []
condition_constants (Some a) = expr_constants a.cond

module _ (t : Tables) (asserts : List Assert) where
  abbrev pub body_step : Body-F Constants ArmConstants Constants → Constants
  body_step Body-F.Empty = []
  body_step (Body-F.Assign target value) = access_constants target ++ expr_constants value
  body_step (Body-F.Copy target source) = access_constants target ++ access_constants source
  body_step (Body-F.Call routine actuals at) = actuals_constants actuals
  body_step (Body-F.Read targets line) = accesses_constants targets
  body_step (Body-F.Write items line) = items_constants items
  body_step (Body-F.Goto routine label) = []
  body_step (Body-F.Begin body end) = joined body
  body_step (Body-F.If cond first second) = expr_constants cond ++ (first ++ second_or [] second)
  body_step (Body-F.Case selector arms) = expr_constants selector ++ joined (map (of_arm (hosted t selector).boolean) arms)
  body_step (Body-F.While cond body) = expr_constants cond ++ body
  body_step (Body-F.Repeat body until cond) = joined body ++ expr_constants cond
  body_step (Body-F.For control bound first down last body) = expr_constants first ++ (expr_constants last ++ body)

  abbrev pub arm_step : Arm-F Constants ArmConstants Constants → ArmConstants
  arm_step a = record { own = a.consts; body = a.body }

  abbrev pub listed_constants : List ℕ → Constants
  listed_constants listed = joined (map (λ a. condition_constants (slice_get asserts a)) listed)

  abbrev pub statement_step : Statement-F Constants ArmConstants Constants → Constants
  statement_step s = listed_constants s.asserts ++ s.body

  abbrev pub statement_constants : Statement → Constants
  statement_constants = fold-Statement Constants ArmConstants Constants body_step arm_step statement_step

  abbrev pub body_constants : Body → Constants
  body_constants = fold-Body Constants ArmConstants Constants body_step arm_step statement_step

  abbrev pub arm_constants : Arm → ArmConstants
  arm_constants = fold-Arm Constants ArmConstants Constants body_step arm_step statement_step

  abbrev pub statements_constants : List Statement → Constants
  statements_constants body = joined (map statement_constants body)

  abbrev pub routine_constants : Routine → Constants
  routine_constants d = statement_constants d.body

abbrev pub program_constants : Program → Constants
program_constants p = joined (map (routine_constants (tables p) p.asserts) p.routines)

-- ---- the first of them that differ

abbrev pub among : ℤ → Constants → Bool
among z zs = list_any (λ y. int_eq y z) zs

-- each where it stands first
abbrev pub different : Constants → Constants
different [] = []
different (z ∷ zs) = z ∷ filter (λ y. not (int_eq z y)) (different zs)

abbrev pub most_constants : ℕ
most_constants = 20

abbrev pub first_different : Constants → Constants
first_different zs = take most_constants (different zs)

-- ---- the steps

-- a number and its neighbours, as far as they are integers of the language
abbrev pub near : ℤ → List ℤ
near z = filter is_number ((z -ℤ pos 1) ∷ z ∷ (z +ℤ pos 1) ∷ [])

-- a number in its place in a rising list, which has it once
abbrev pub put_in : List ℤ → ℤ → List ℤ
put_in [] z = z ∷ []
put_in (y ∷ ys) z = if int_lt y z then y ∷ put_in ys z else (if int_eq y z then y ∷ ys else z ∷ y ∷ ys)

abbrev pub rising : List ℤ → List ℤ
rising zs = fold put_in [] zs

-- the steps of a program: its first 20 different constants, and their neighbours
abbrev pub thresholds_of : Program → List ℤ
thresholds_of p = rising (flat_map near (first_different (program_constants p)))
