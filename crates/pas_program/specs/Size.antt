-- How much a program has of what its rules count.
use Rattle.std.specs.Prelude.{ℕ, ◌+◌, List, map, Option, Some, None}
use Rattle.std.specs.Option.{option_map}
use Rattle.std.specs.List.{sum}
use Rattle.pas_program.specs.declared.expr.Access.{Access}
use Rattle.pas_program.specs.declared.expr.Actual.{Actual}
use Rattle.pas_program.specs.declared.expr.Actual.TheOpen.{Access-F, Actual-F, ExprForm-F, Expr-F}
use Rattle.pas_program.specs.declared.expr.Actual.TheFolds.{fold-Access, fold-Actual, fold-Expr}
use Rattle.pas_program.specs.declared.expr.Expr.{Expr}
use Rattle.pas_program.specs.declared.statement.Body.TheOpen.{Arm-F, Body-F, Statement-F}
use Rattle.pas_program.specs.declared.statement.Body.TheFolds.{fold-Statement}
use Rattle.pas_program.specs.declared.statement.Statement.{Statement}
use Rattle.pas_program.specs.declared.statement.WriteItem.{WriteItem}
use Rattle.pas_program.specs.declared.statement.WriteValue.{WriteValue}
use Rattle.pas_program.specs.declared.statement.WriteValue.TheVariants as written

abbrev pub or_none : Option ℕ → ℕ
or_none None = 0
or_none (Some n) = n

-- ---- the expressions and actuals in an expression, itself among them

abbrev pub actual_size_step : Actual-F ℕ ℕ ℕ ℕ → ℕ
actual_size_step (Actual-F.«Actual::Value» value) = 1 + value
actual_size_step (Actual-F.Whole access) = 1 + access
actual_size_step (Actual-F.Var access) = 1 + access

abbrev pub form_size_step : ExprForm-F ℕ ℕ ℕ ℕ → ℕ
form_size_step (ExprForm-F.Const boolean value) = 0
form_size_step (ExprForm-F.«ExprForm::Value» access) = access
form_size_step (ExprForm-F.Unary op part at) = part
form_size_step (ExprForm-F.Binary op left right at) = left + right
form_size_step (ExprForm-F.Call routine actuals slot at) = sum actuals

abbrev pub access_size_step : Access-F ℕ ℕ ℕ ℕ → ℕ
access_size_step a = sum a.subscripts

abbrev pub expr_size_step : Expr-F ℕ ℕ ℕ ℕ → ℕ
expr_size_step e = 1 + e.form

abbrev pub expr_size : Expr → ℕ
expr_size = fold-Expr ℕ ℕ ℕ ℕ actual_size_step form_size_step access_size_step expr_size_step

abbrev pub access_size : Access → ℕ
access_size = fold-Access ℕ ℕ ℕ ℕ actual_size_step form_size_step access_size_step expr_size_step

abbrev pub actual_size : Actual → ℕ
actual_size = fold-Actual ℕ ℕ ℕ ℕ actual_size_step form_size_step access_size_step expr_size_step

-- ---- a sum over a statement and all inner ones

-- The parts of a body that are no statements, and the sum over the inner statements.
pub record Inner : Type 0 where
  pub parts : ℕ
  pub total : ℕ

abbrev pub written_size : WriteValue → ℕ
written_size (written.Value value) = expr_size value
written_size (written.Text bytes at) = 0

-- a parameter of `write`, with its value and its width
abbrev pub item_size : WriteItem → ℕ
item_size item = 1 + (written_size item.value + or_none (option_map expr_size item.width))

abbrev pub body_sum_step : Body-F Inner ℕ ℕ → Inner
body_sum_step Body-F.Empty = record { parts = 0; total = 0 }
body_sum_step (Body-F.Assign target value) = record { parts = access_size target + expr_size value; total = 0 }
body_sum_step (Body-F.Copy target source) = record { parts = access_size target + access_size source; total = 0 }
body_sum_step (Body-F.Call routine actuals at) = record { parts = sum (map actual_size actuals); total = 0 }
body_sum_step (Body-F.Read targets line) = record { parts = sum (map (λ a. 1 + access_size a) targets); total = 0 }
body_sum_step (Body-F.Write items line) = record { parts = sum (map item_size items); total = 0 }
body_sum_step (Body-F.Goto routine label) = record { parts = 0; total = 0 }
body_sum_step (Body-F.Begin body end) = record { parts = 0; total = sum body }
body_sum_step (Body-F.If test first second) = record { parts = expr_size test; total = first + or_none second }
body_sum_step (Body-F.Case selector arms) = record { parts = expr_size selector; total = sum arms }
body_sum_step (Body-F.While test body) = record { parts = expr_size test; total = body }
body_sum_step (Body-F.Repeat body at test) = record { parts = expr_size test; total = sum body }
body_sum_step (Body-F.For control bound first down last body) = record { parts = expr_size first + expr_size last; total = body }

abbrev pub arm_sum_step : Arm-F Inner ℕ ℕ → ℕ
arm_sum_step a = a.body

-- what a statement counts for, by its label, its assertions and the parts of its body
abbrev pub Worth : Type 0
Worth = Option ℕ → List ℕ → ℕ → ℕ

abbrev pub statement_sum_step : Worth → Statement-F Inner ℕ ℕ → ℕ
statement_sum_step worth s = worth s.label s.asserts s.body.parts + s.body.total

abbrev pub sum_over : Worth → Statement → ℕ
sum_over worth = fold-Statement Inner ℕ ℕ body_sum_step arm_sum_step (statement_sum_step worth)

-- the statements, expressions, actuals and parameters of `read` and `write`
abbrev pub statement_size : Statement → ℕ
statement_size = sum_over (λ label asserts parts. 1 + parts)
