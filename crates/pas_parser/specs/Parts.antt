-- How many parts a tree has: its statements, also empty ones, its expressions and its actuals.
use Rattle.std.specs.Prelude.{ℕ, ◌+◌, map, Option, Some, None}
use Rattle.std.specs.List.{sum}
use Rattle.pas_tree.specs.declared.block.Block.{Block}
use Rattle.pas_tree.specs.declared.block.Routine.{Routine}
use Rattle.pas_tree.specs.declared.block.RoutineBody.{RoutineBody}
use Rattle.pas_tree.specs.declared.block.RoutineBody.TheOpen.{Block-F, Routine-F, RoutineBody-F}
use Rattle.pas_tree.specs.declared.block.RoutineBody.TheFolds.{fold-Block, fold-Routine, fold-RoutineBody}
use Rattle.pas_tree.specs.declared.block.Tree.{Tree}
use Rattle.pas_tree.specs.declared.expr.Access.{Access}
use Rattle.pas_tree.specs.declared.expr.Actual.{Actual}
use Rattle.pas_tree.specs.declared.expr.ActualValue.{ActualValue}
use Rattle.pas_tree.specs.declared.expr.ActualValue.TheOpen.{ActualValue-F, Expr-F, Access-F, Actual-F}
use Rattle.pas_tree.specs.declared.expr.ActualValue.TheFolds.{fold-ActualValue, fold-Expr, fold-Access, fold-Actual}
use Rattle.pas_tree.specs.declared.expr.Expr.{Expr}
use Rattle.pas_tree.specs.declared.statement.Assertion.{Assertion}
use Rattle.pas_tree.specs.declared.statement.Body.{Body}
use Rattle.pas_tree.specs.declared.statement.Body.TheOpen.{Body-F, Element-F, Statement-F}
use Rattle.pas_tree.specs.declared.statement.Body.TheFolds.{fold-Body, fold-Element, fold-Statement}
use Rattle.pas_tree.specs.declared.statement.Element.{Element}
use Rattle.pas_tree.specs.declared.statement.Statement.{Statement}

abbrev pub or_none : Option ℕ → ℕ
or_none None = 0
or_none (Some n) = n

-- ---- expressions: one level, with the numbers of its parts

abbrev pub value_step : ActualValue-F ℕ ℕ ℕ ℕ → ℕ
value_step (ActualValue-F.Value value) = value
value_step (ActualValue-F.«Text» place) = 0

abbrev pub expr_step : Expr-F ℕ ℕ ℕ ℕ → ℕ
expr_step (Expr-F.Number value span) = 1
expr_step (Expr-F.Name name actuals span) = 1 + sum actuals
expr_step (Expr-F.Indexed access span) = 1 + access
expr_step (Expr-F.Paren inner span) = 1 + inner
expr_step (Expr-F.Not inner span) = 1 + inner
expr_step (Expr-F.Signed sign inner span) = 1 + inner
expr_step (Expr-F.Binary op left right at span) = 1 + left + right

abbrev pub access_step : Access-F ℕ ℕ ℕ ℕ → ℕ
access_step a = sum a.subscripts

abbrev pub actual_step : Actual-F ℕ ℕ ℕ ℕ → ℕ
actual_step a = 1 + a.value + or_none a.width

abbrev pub value_parts : ActualValue → ℕ
value_parts = fold-ActualValue ℕ ℕ ℕ ℕ value_step expr_step access_step actual_step

abbrev pub expr_parts : Expr → ℕ
expr_parts = fold-Expr ℕ ℕ ℕ ℕ value_step expr_step access_step actual_step

abbrev pub access_parts : Access → ℕ
access_parts = fold-Access ℕ ℕ ℕ ℕ value_step expr_step access_step actual_step

abbrev pub actual_parts : Actual → ℕ
actual_parts = fold-Actual ℕ ℕ ℕ ℕ value_step expr_step access_step actual_step

-- ---- statements

abbrev pub assertion_parts : Assertion → ℕ
assertion_parts a = expr_parts a.cond

abbrev pub body_step : Body-F ℕ ℕ ℕ → ℕ
body_step Body-F.Empty = 0
body_step (Body-F.Call name actuals) = sum (map actual_parts actuals)
body_step (Body-F.Assign target value) = access_parts target + expr_parts value
body_step (Body-F.Goto label) = 0
body_step (Body-F.Begin body) = sum body
body_step (Body-F.If cond chosen other) = expr_parts cond + chosen + or_none other
body_step (Body-F.Case of arms) = expr_parts of + sum arms
body_step (Body-F.While cond body) = expr_parts cond + body
body_step (Body-F.Repeat body until cond) = sum body + expr_parts cond
body_step (Body-F.For control first down last body) = expr_parts first + expr_parts last + body

abbrev pub element_step : Element-F ℕ ℕ ℕ → ℕ
element_step e = e.body

abbrev pub statement_step : Statement-F ℕ ℕ ℕ → ℕ
statement_step s = 1 + sum (map assertion_parts s.asserts) + s.body

abbrev pub statement_parts : Statement → ℕ
statement_parts = fold-Statement ℕ ℕ ℕ body_step element_step statement_step

abbrev pub body_parts : Body → ℕ
body_parts = fold-Body ℕ ℕ ℕ body_step element_step statement_step

abbrev pub element_parts : Element → ℕ
element_parts = fold-Element ℕ ℕ ℕ body_step element_step statement_step

-- ---- blocks

abbrev pub routine_body_step : RoutineBody-F ℕ ℕ ℕ → ℕ
routine_body_step (RoutineBody-F.Block block) = block
routine_body_step (RoutineBody-F.Word word) = 0

abbrev pub block_step : Block-F ℕ ℕ ℕ → ℕ
block_step b = sum b.routines + sum (map statement_parts b.body)

abbrev pub routine_step : Routine-F ℕ ℕ ℕ → ℕ
routine_step r = r.body

abbrev pub block_parts : Block → ℕ
block_parts = fold-Block ℕ ℕ ℕ routine_body_step block_step routine_step

abbrev pub routine_parts : Routine → ℕ
routine_parts = fold-Routine ℕ ℕ ℕ routine_body_step block_step routine_step

abbrev pub routine_body_parts : RoutineBody → ℕ
routine_body_parts = fold-RoutineBody ℕ ℕ ℕ routine_body_step block_step routine_step

abbrev pub tree_parts : Tree → ℕ
tree_parts tree = block_parts tree.block
