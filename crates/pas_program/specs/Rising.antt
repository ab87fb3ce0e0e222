-- The places of the parts of an expression rise in the order of the text: the name of a variable stands before its subscripts, that of a
-- routine before its actuals, and an operator between its operands or before its only one. So what stands at different parts of an
-- action, and may be an error there, has different places. So have the assertions before one statement.
use Rattle.std.specs.Prelude.{◌≡◌, ℕ, suc, Bool, true, ◌&&◌, nat_le, List, [], ◌∷◌, map, Option, Some, None, is_some, slice_get, if◌then◌else◌}
use Rattle.std.specs.Option.{option_and_then}
use Rattle.pas_program.specs.declared.expr.Access.{Access}
use Rattle.pas_program.specs.declared.expr.Actual.{Actual}
use Rattle.pas_program.specs.declared.expr.Actual.TheOpen.{Access-F, Actual-F, ExprForm-F, Expr-F}
use Rattle.pas_program.specs.declared.expr.Actual.TheFolds.{fold-Access, fold-Actual, fold-Expr, fold-ExprForm}
use Rattle.pas_program.specs.declared.expr.Actual.TheViews.{out-Expr}
use Rattle.pas_program.specs.declared.expr.Expr.{Expr}
use Rattle.pas_program.specs.declared.expr.ExprForm.{ExprForm}
use Rattle.pas_program.specs.declared.routine.Assert.{Assert}
use Rattle.pas_program.specs.declared.routine.Routine.{Routine}
use Rattle.pas_program.specs.declared.statement.Body.TheOpen.{Arm-F, Body-F, Statement-F}
use Rattle.pas_program.specs.declared.statement.Body.TheFolds.{fold-Statement}
use Rattle.pas_program.specs.declared.statement.Statement.{Statement}
use Rattle.pas_program.specs.declared.statement.WriteItem.{WriteItem}
use Rattle.pas_program.specs.declared.statement.WriteValue.{WriteValue}
use Rattle.pas_program.specs.declared.statement.WriteValue.TheVariants as written
use Rattle.pas_program.specs.Each.{all_true, true_if_some}

-- A part of a text: from the least place at which it may begin, the least place behind it; none where its places do not rise.
abbrev pub Part : Type 0
Part = ℕ → Option ℕ

-- a token at a place
abbrev pub token : ℕ → Part
token at least = if nat_le least at then Some (suc at) else None

-- one part behind another
abbrev pub before : Part → Part → Part
before first second least = option_and_then second (first least)

abbrev pub in_turn : List Part → Part
in_turn [] least = Some least
in_turn (part ∷ parts) least = option_and_then (in_turn parts) (part least)

-- ---- expressions: one level, with its parts

abbrev pub actual_step : Actual-F Part Part Part Part → Part
actual_step (Actual-F.«Actual::Value» value) = value
actual_step (Actual-F.Whole access) = access
actual_step (Actual-F.Var access) = access

-- a constant is one token, which has no place of its own
abbrev pub form_step : ExprForm-F Part Part Part Part → Part
form_step (ExprForm-F.Const boolean value) least = Some (suc least)
form_step (ExprForm-F.«ExprForm::Value» access) least = access least
form_step (ExprForm-F.Unary op operand at) least = before (token at) operand least
form_step (ExprForm-F.Binary op left right at) least = before left (before (token at) right) least
form_step (ExprForm-F.Call routine actuals slot at) least = before (token at) (in_turn actuals) least

abbrev pub access_step : Access-F Part Part Part Part → Part
access_step a = before (token a.at) (in_turn a.subscripts)

-- no token of an expression stands before its first one
abbrev pub expr_step : Expr-F Part Part Part Part → Part
expr_step e least = if nat_le least e.first then e.form e.first else None

abbrev pub expr_part : Expr → Part
expr_part = fold-Expr Part Part Part Part actual_step form_step access_step expr_step

abbrev pub form_part : ExprForm → Part
form_part = fold-ExprForm Part Part Part Part actual_step form_step access_step expr_step

abbrev pub access_part : Access → Part
access_part = fold-Access Part Part Part Part actual_step form_step access_step expr_step

abbrev pub actual_part : Actual → Part
actual_part = fold-Actual Part Part Part Part actual_step form_step access_step expr_step

-- ---- statements: the expressions of each action

abbrev pub rises : Part → Bool
rises part = is_some (part 0)

abbrev pub written_part : WriteValue → Part
written_part (written.Value value) = expr_part value
written_part (written.Text bytes at) = λ least. Some least

abbrev pub width_part : Option Expr → Part
width_part None = λ least. Some least
width_part (Some width) = expr_part width

abbrev pub item_part : WriteItem → Part
item_part item = before (written_part item.value) (width_part item.width)

abbrev pub body_step : Body-F Bool Bool Bool → Bool
body_step Body-F.Empty = true
body_step (Body-F.Assign target value) = rises (before (access_part target) (expr_part value))
body_step (Body-F.Copy target source) = rises (before (access_part target) (access_part source))
body_step (Body-F.Call routine actuals at) = rises (in_turn (map actual_part actuals))
body_step (Body-F.Read targets line) = all_true (map (λ a. rises (access_part a)) targets)
body_step (Body-F.Write items line) = all_true (map (λ item. rises (item_part item)) items)
body_step (Body-F.Goto routine label) = true
body_step (Body-F.Begin body end) = all_true body
body_step (Body-F.If test first second) = rises (expr_part test) && (first && true_if_some second)
body_step (Body-F.Case selector arms) = rises (expr_part selector) && all_true arms
body_step (Body-F.While test body) = rises (expr_part test) && body
body_step (Body-F.Repeat body at test) = all_true body && rises (expr_part test)
body_step (Body-F.For control bound first down last body) = rises (before (expr_part first) (expr_part last)) && body

-- the conditions of assertions, one behind another
abbrev pub condition_part : Option Assert → Part
condition_part None = λ least. Some least
condition_part (Some a) = token (out-Expr a.cond).first

abbrev pub conditions_part : List Assert → List ℕ → Part
conditions_part asserts listed = in_turn (map (λ a. condition_part (slice_get asserts a)) listed)

abbrev pub arm_step : Arm-F Bool Bool Bool → Bool
arm_step a = a.body

abbrev pub statement_step : List Assert → Statement-F Bool Bool Bool → Bool
statement_step asserts s = rises (conditions_part asserts s.asserts) && s.body

abbrev pub statement_rises : List Assert → Statement → Bool
statement_rises asserts = fold-Statement Bool Bool Bool body_step arm_step (statement_step asserts)

-- in the bodies of all routines
pub record PlacesRise (routines : List Routine) (asserts : List Assert) : Type 0 where
  pub body : (r : ℕ) (d : Routine) → slice_get routines r ≡ Some d → statement_rises asserts d.body ≡ true
