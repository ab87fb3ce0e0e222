-- The function calls in expressions, in the order in which they are made (ISO 7185, 6.7.3): from left to right, and those in
-- the actuals of a call before it.
use Rattle.std.specs.Prelude.{ℕ, List, [], ◌∷◌, ◌++◌, map, Option, Some, None}
use Rattle.pas_program.specs.declared.expr.Access.{Access}
use Rattle.pas_program.specs.declared.expr.Actual.{Actual}
use Rattle.pas_program.specs.declared.expr.Actual.TheOpen.{Access-F, Actual-F, ExprForm-F, Expr-F}
use Rattle.pas_program.specs.declared.expr.Actual.TheFolds.{para-Access, para-Actual, para-Expr, para-ExprForm}
use Rattle.pas_program.specs.declared.expr.Expr.{Expr}
use Rattle.pas_program.specs.declared.expr.ExprForm.{ExprForm}
use Rattle.pas_program.specs.declared.statement.WriteItem.{WriteItem}
use Rattle.pas_program.specs.declared.statement.WriteValue.{WriteValue}
use Rattle.pas_program.specs.declared.statement.WriteValue.TheVariants as written

-- A call: its routine, its actuals, the slot for a function's result, and the place of the name.
pub record CallSite : Type 0 where
  pub routine : ℕ
  pub actuals : List Actual
  pub slot : Option ℕ
  pub at : ℕ

abbrev pub Sites : Type 0
Sites = List CallSite

-- the calls of all parts, in order
abbrev pub joined : List Sites → Sites
joined [] = []
joined (xs ∷ rest) = xs ++ joined rest

-- of parts that stand beside what they are in the source
abbrev pub in_turn : {A : Type 0} → List (A × Sites) → Sites
in_turn [] = []
in_turn (x ∷ rest) = x.1 ++ in_turn rest

abbrev pub sources : {A : Type 0} → List (A × Sites) → List A
sources xs = map (λ x. x.0) xs

abbrev pub actual_step : Actual-F (Actual × Sites) (ExprForm × Sites) (Access × Sites) (Expr × Sites) → Sites
actual_step (Actual-F.«Actual::Value» e) = e.1
actual_step (Actual-F.Whole a) = a.1
actual_step (Actual-F.Var a) = a.1

abbrev pub form_step : ExprForm-F (Actual × Sites) (ExprForm × Sites) (Access × Sites) (Expr × Sites) → Sites
form_step (ExprForm-F.Const boolean value) = []
form_step (ExprForm-F.«ExprForm::Value» a) = a.1
form_step (ExprForm-F.Unary op operand at) = operand.1
form_step (ExprForm-F.Binary op left right at) = left.1 ++ right.1
form_step (ExprForm-F.Call routine actuals slot at) = in_turn actuals ++ record { routine = routine; actuals = sources actuals; slot = Some slot; at = at } ∷ []

abbrev pub access_step : Access-F (Actual × Sites) (ExprForm × Sites) (Access × Sites) (Expr × Sites) → Sites
access_step a = in_turn a.subscripts

abbrev pub expr_step : Expr-F (Actual × Sites) (ExprForm × Sites) (Access × Sites) (Expr × Sites) → Sites
expr_step e = e.form.1

abbrev pub expr_calls : Expr → Sites
expr_calls = para-Expr Sites Sites Sites Sites actual_step form_step access_step expr_step

abbrev pub form_calls : ExprForm → Sites
form_calls = para-ExprForm Sites Sites Sites Sites actual_step form_step access_step expr_step

abbrev pub access_calls : Access → Sites
access_calls = para-Access Sites Sites Sites Sites actual_step form_step access_step expr_step

abbrev pub actual_calls : Actual → Sites
actual_calls = para-Actual Sites Sites Sites Sites actual_step form_step access_step expr_step

abbrev pub actuals_calls : List Actual → Sites
actuals_calls actuals = joined (map actual_calls actuals)

abbrev pub exprs_calls : List Expr → Sites
exprs_calls exprs = joined (map expr_calls exprs)

-- those of a parameter of `write`, its value before its width
abbrev pub width_calls : Option Expr → Sites
width_calls None = []
width_calls (Some e) = expr_calls e

abbrev pub written_calls : WriteValue → Sites
written_calls (written.Value e) = expr_calls e
written_calls (written.Text bytes at) = []

abbrev pub item_calls : WriteItem → Sites
item_calls item = written_calls item.value ++ width_calls item.width
