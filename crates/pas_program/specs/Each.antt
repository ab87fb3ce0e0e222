-- A rule for each part of an expression or a statement, however deep it lies. What a rule may ask is the part's own
-- numbers; what a program's validity asks is said by giving the rule.
use Rattle.std.specs.Prelude.{ℕ, ℤ, Bool, true, ◌&&◌, List, [], ◌∷◌, ◌++◌, map, length, Option, Some, None}
use Rattle.std.specs.Option.{option_map}
use Rattle.std.specs.List.{list_all}
use Rattle.pas_program.specs.declared.expr.Access.{Access}
use Rattle.pas_program.specs.declared.expr.Actual.{Actual}
use Rattle.pas_program.specs.declared.expr.Actual.TheOpen.{Access-F, Actual-F, ExprForm-F, Expr-F}
use Rattle.pas_program.specs.declared.expr.Actual.TheFolds.{fold-Access, fold-Actual, fold-Expr, fold-ExprForm}
use Rattle.pas_program.specs.declared.expr.Expr.{Expr}
use Rattle.pas_program.specs.declared.expr.ExprForm.{ExprForm}
use Rattle.pas_program.specs.declared.statement.Arm.{Arm}
use Rattle.pas_program.specs.declared.statement.Body.{Body}
use Rattle.pas_program.specs.declared.statement.Body.TheOpen.{Arm-F, Body-F, Statement-F}
use Rattle.pas_program.specs.declared.statement.Body.TheFolds.{fold-Arm, fold-Body, fold-Statement}
use Rattle.pas_program.specs.declared.statement.Statement.{Statement}
use Rattle.pas_program.specs.declared.statement.WriteItem.{WriteItem}
use Rattle.pas_program.specs.declared.statement.WriteValue.{WriteValue}
use Rattle.pas_program.specs.declared.statement.WriteValue.TheVariants as written

pub record Rule : Type 0 where
  -- a variable that is read, written or passed
  pub variable : ℕ → Bool
  -- a function and the slot for its result
  pub call : ℕ → ℕ → Bool
  -- a procedure
  pub invoke : ℕ → Bool
  -- the control variable of a `for` and its bound
  pub loop : ℕ → ℕ → Bool
  -- the routine and the label of a `goto`
  pub jump : ℕ → ℕ → Bool
  -- an assertion that stands at a statement
  pub assertion : ℕ → Bool
  -- how many statements a `begin` or a `repeat` has
  pub sequence : ℕ → Bool
  -- the constants of a `case`, arm by arm
  pub choice : List ℤ → Bool

-- whether all of them are true
abbrev pub all_true : List Bool → Bool
all_true [] = true
all_true (b ∷ bs) = b && all_true bs

-- whether it is true, where there is one
abbrev pub true_if_some : Option Bool → Bool
true_if_some None = true
true_if_some (Some b) = b

-- ---- expressions: one level, with the answers for its parts

abbrev pub actual_step : Actual-F Bool Bool Bool Bool → Bool
actual_step (Actual-F.«Actual::Value» value) = value
actual_step (Actual-F.Whole access) = access
actual_step (Actual-F.Var access) = access

abbrev pub form_step : Rule → ExprForm-F Bool Bool Bool Bool → Bool
form_step q (ExprForm-F.Const boolean value) = true
form_step q (ExprForm-F.«ExprForm::Value» access) = access
form_step q (ExprForm-F.Unary op part at) = part
form_step q (ExprForm-F.Binary op left right at) = left && right
form_step q (ExprForm-F.Call routine actuals slot at) = q.call routine slot && all_true actuals

abbrev pub access_step : Rule → Access-F Bool Bool Bool Bool → Bool
access_step q a = q.variable a.var && all_true a.subscripts

abbrev pub expr_step : Expr-F Bool Bool Bool Bool → Bool
expr_step e = e.form

abbrev pub each_expr : Rule → Expr → Bool
each_expr q = fold-Expr Bool Bool Bool Bool actual_step (form_step q) (access_step q) expr_step

abbrev pub each_form : Rule → ExprForm → Bool
each_form q = fold-ExprForm Bool Bool Bool Bool actual_step (form_step q) (access_step q) expr_step

abbrev pub each_access : Rule → Access → Bool
each_access q = fold-Access Bool Bool Bool Bool actual_step (form_step q) (access_step q) expr_step

abbrev pub each_actual : Rule → Actual → Bool
each_actual q = fold-Actual Bool Bool Bool Bool actual_step (form_step q) (access_step q) expr_step

-- ---- statements

abbrev pub each_written : Rule → WriteValue → Bool
each_written q (written.Value value) = each_expr q value
each_written q (written.Text bytes at) = true

abbrev pub each_item : Rule → WriteItem → Bool
each_item q item = each_written q item.value && true_if_some (option_map (each_expr q) item.width)

-- an arm with its constants
abbrev pub arm_step : Arm-F Bool (Bool × List ℤ) Bool → Bool × List ℤ
arm_step a = (a.body, a.consts)

abbrev pub constants : List (Bool × List ℤ) → List ℤ
constants [] = []
constants (a ∷ arms) = a.1 ++ constants arms

abbrev pub body_step : Rule → Body-F Bool (Bool × List ℤ) Bool → Bool
body_step q Body-F.Empty = true
body_step q (Body-F.Assign target value) = each_access q target && each_expr q value
body_step q (Body-F.Copy target source) = each_access q target && each_access q source
body_step q (Body-F.Call routine actuals at) = q.invoke routine && all_true (map (each_actual q) actuals)
body_step q (Body-F.Read targets line) = all_true (map (each_access q) targets)
body_step q (Body-F.Write items line) = all_true (map (each_item q) items)
body_step q (Body-F.Goto routine label) = q.jump routine label
body_step q (Body-F.Begin body end) = q.sequence (length body) && all_true body
body_step q (Body-F.If test first second) = each_expr q test && (first && true_if_some second)
body_step q (Body-F.Case selector arms) = each_expr q selector && (q.choice (constants arms) && all_true (map (λ a. a.0) arms))
body_step q (Body-F.While test body) = each_expr q test && body
body_step q (Body-F.Repeat body at test) = (q.sequence (length body) && all_true body) && each_expr q test
body_step q (Body-F.For control bound first down last body) = q.loop control bound && (each_expr q first && (each_expr q last && body))

abbrev pub statement_step : Rule → Statement-F Bool (Bool × List ℤ) Bool → Bool
statement_step q s = list_all q.assertion s.asserts && s.body

abbrev pub each_statement : Rule → Statement → Bool
each_statement q = fold-Statement Bool (Bool × List ℤ) Bool (body_step q) arm_step (statement_step q)

abbrev pub each_body : Rule → Body → Bool
each_body q = fold-Body Bool (Bool × List ℤ) Bool (body_step q) arm_step (statement_step q)

-- of an arm, with its constants
abbrev pub arm_of : Rule → Arm → Bool × List ℤ
arm_of q = fold-Arm Bool (Bool × List ℤ) Bool (body_step q) arm_step (statement_step q)

abbrev pub each_arm : Rule → Arm → Bool
each_arm q a = (arm_of q a).0
