-- Where a program lies in its source: each place that it keeps is that of a byte of the text, and each span is a piece of the text.
use Rattle.std.specs.Prelude.{◌≡◌, ℕ, Bool, true, ◌&&◌, map, nat_lt, nat_le}
use Rattle.std.specs.List.{list_all}
use Rattle.std.specs.Option.{option_map}
use Rattle.px_base.specs.declared.place.Span.{Span}
use Rattle.pas_program.specs.declared.expr.Access.{Access}
use Rattle.pas_program.specs.declared.expr.Actual.{Actual}
use Rattle.pas_program.specs.declared.expr.Actual.TheOpen.{Access-F, ExprForm-F, Expr-F}
use Rattle.pas_program.specs.declared.expr.Actual.TheFolds.{fold-Access, fold-Actual, fold-Expr, fold-ExprForm}
use Rattle.pas_program.specs.declared.expr.Expr.{Expr}
use Rattle.pas_program.specs.declared.expr.ExprForm.{ExprForm}
use Rattle.pas_program.specs.declared.program.Program.{Program}
use Rattle.pas_program.specs.declared.routine.Assert.{Assert}
use Rattle.pas_program.specs.declared.routine.Routine.{Routine}
use Rattle.pas_program.specs.declared.statement.Arm.{Arm}
use Rattle.pas_program.specs.declared.statement.Body.{Body}
use Rattle.pas_program.specs.declared.statement.Body.TheOpen.{Arm-F, Body-F, Statement-F}
use Rattle.pas_program.specs.declared.statement.Body.TheFolds.{fold-Arm, fold-Body, fold-Statement}
use Rattle.pas_program.specs.declared.statement.Statement.{Statement}
use Rattle.pas_program.specs.declared.statement.WriteItem.{WriteItem}
use Rattle.pas_program.specs.declared.statement.WriteValue.{WriteValue}
use Rattle.pas_program.specs.declared.statement.WriteValue.TheVariants as written
use Rattle.pas_program.specs.declared.variable.VarDef.{VarDef}
use Rattle.pas_program.specs.Each.{actual_step, all_true, true_if_some}

-- the place of a byte in a text of so many
abbrev pub is_place : ℕ → ℕ → Bool
is_place len at = nat_lt at len

-- a piece of it that has a byte at least
abbrev pub is_piece : ℕ → Span → Bool
is_piece len span = nat_lt span.start span.«end» && nat_le span.«end» len

-- ---- expressions

abbrev pub form_step : ℕ → ExprForm-F Bool Bool Bool Bool → Bool
form_step len (ExprForm-F.Const boolean value) = true
form_step len (ExprForm-F.«ExprForm::Value» access) = access
form_step len (ExprForm-F.Unary op part at) = is_place len at && part
form_step len (ExprForm-F.Binary op left right at) = is_place len at && (left && right)
form_step len (ExprForm-F.Call routine actuals slot at) = is_place len at && all_true actuals

abbrev pub access_step : ℕ → Access-F Bool Bool Bool Bool → Bool
access_step len a = is_place len a.at && all_true a.subscripts

abbrev pub expr_step : ℕ → Expr-F Bool Bool Bool Bool → Bool
expr_step len e = is_place len e.first && e.form

abbrev pub expr_lies : ℕ → Expr → Bool
expr_lies len = fold-Expr Bool Bool Bool Bool actual_step (form_step len) (access_step len) (expr_step len)

abbrev pub form_lies : ℕ → ExprForm → Bool
form_lies len = fold-ExprForm Bool Bool Bool Bool actual_step (form_step len) (access_step len) (expr_step len)

abbrev pub access_lies : ℕ → Access → Bool
access_lies len = fold-Access Bool Bool Bool Bool actual_step (form_step len) (access_step len) (expr_step len)

abbrev pub actual_lies : ℕ → Actual → Bool
actual_lies len = fold-Actual Bool Bool Bool Bool actual_step (form_step len) (access_step len) (expr_step len)

-- ---- statements

abbrev pub written_lies : ℕ → WriteValue → Bool
written_lies len (written.Value value) = expr_lies len value
written_lies len (written.Text bytes at) = is_place len at

abbrev pub item_lies : ℕ → WriteItem → Bool
item_lies len item = written_lies len item.value && true_if_some (option_map (expr_lies len) item.width)

abbrev pub body_step : ℕ → Body-F Bool Bool Bool → Bool
body_step len Body-F.Empty = true
body_step len (Body-F.Assign target value) = access_lies len target && expr_lies len value
body_step len (Body-F.Copy target source) = access_lies len target && access_lies len source
body_step len (Body-F.Call routine actuals at) = is_place len at && all_true (map (actual_lies len) actuals)
body_step len (Body-F.Read targets line) = all_true (map (access_lies len) targets)
body_step len (Body-F.Write items line) = all_true (map (item_lies len) items)
body_step len (Body-F.Goto routine label) = true
body_step len (Body-F.Begin body last) = is_place len last && all_true body
body_step len (Body-F.If test first second) = expr_lies len test && (first && true_if_some second)
body_step len (Body-F.Case selector arms) = expr_lies len selector && all_true arms
body_step len (Body-F.While test body) = expr_lies len test && body
body_step len (Body-F.Repeat body at test) = all_true body && (is_place len at && expr_lies len test)
body_step len (Body-F.For control bound first down last body) = expr_lies len first && (expr_lies len last && body)

abbrev pub arm_step : Arm-F Bool Bool Bool → Bool
arm_step a = a.body

abbrev pub statement_step : ℕ → Statement-F Bool Bool Bool → Bool
statement_step len s = is_place len s.at && s.body

abbrev pub statement_lies : ℕ → Statement → Bool
statement_lies len = fold-Statement Bool Bool Bool (body_step len) arm_step (statement_step len)

abbrev pub body_lies : ℕ → Body → Bool
body_lies len = fold-Body Bool Bool Bool (body_step len) arm_step (statement_step len)

abbrev pub arm_lies : ℕ → Arm → Bool
arm_lies len = fold-Arm Bool Bool Bool (body_step len) arm_step (statement_step len)

-- ---- the whole

abbrev pub var_lies : ℕ → VarDef → Bool
var_lies len d = is_piece len d.name && is_place len d.place

abbrev pub routine_lies : ℕ → Routine → Bool
routine_lies len d = is_piece len d.name && (list_all (is_piece len) d.names && statement_lies len d.body)

abbrev pub assert_lies : ℕ → Assert → Bool
assert_lies len d = is_place len d.at && expr_lies len d.cond

-- the program lies in a text of so many bytes
pub record LiesIn (len : ℕ) (p : Program) : Type 0 where
  pub vars : list_all (var_lies len) p.vars ≡ true
  pub routines : list_all (routine_lies len) p.routines ≡ true
  pub asserts : list_all (assert_lies len) p.asserts ≡ true
