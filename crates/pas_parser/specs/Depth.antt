-- How deep the measured constructs of a tree are nested: blocks, statements that have a token, expressions, the factor
-- after `not`, types, and each application of an adding or multiplying operator, which contains both operands.
use Rattle.std.specs.Prelude.{ℕ, suc, ◌+◌, max, List, [], ◌∷◌, map, Option, Some, None}
use Rattle.px_base.specs.declared.operator.BinOp.{BinOp}
use Rattle.px_base.specs.declared.operator.BinOp.TheVariants as op
use Rattle.pas_parser.specs.Parts.{or_none}
use Rattle.pas_tree.specs.declared.block.Block.{Block}
use Rattle.pas_tree.specs.declared.block.Label.{Label}
use Rattle.pas_tree.specs.declared.block.Routine.{Routine}
use Rattle.pas_tree.specs.declared.block.RoutineBody.{RoutineBody}
use Rattle.pas_tree.specs.declared.block.RoutineBody.TheOpen.{Block-F, Routine-F, RoutineBody-F}
use Rattle.pas_tree.specs.declared.block.RoutineBody.TheFolds.{fold-Block, fold-Routine, fold-RoutineBody}
use Rattle.pas_tree.specs.declared.block.Tree.{Tree}
use Rattle.pas_tree.specs.declared.block.TypeDecl.{TypeDecl}
use Rattle.pas_tree.specs.declared.block.VarDecl.{VarDecl}
use Rattle.pas_tree.specs.declared.expr.Access.{Access}
use Rattle.pas_tree.specs.declared.expr.Actual.{Actual}
use Rattle.pas_tree.specs.declared.expr.ActualValue.{ActualValue}
use Rattle.pas_tree.specs.declared.expr.ActualValue.TheOpen.{ActualValue-F, Expr-F, Access-F, Actual-F}
use Rattle.pas_tree.specs.declared.expr.ActualValue.TheFolds.{fold-ActualValue, fold-Expr, fold-Access, fold-Actual}
use Rattle.pas_tree.specs.declared.expr.Expr.{Expr}
use Rattle.pas_tree.specs.declared.statement.Assertion.{Assertion}
use Rattle.pas_tree.specs.declared.statement.Body.{Body}
use Rattle.pas_tree.specs.declared.statement.Body.TheOpen.{Body-F, Element-F, Statement-F}
use Rattle.pas_tree.specs.declared.statement.Body.TheFolds.{fold-Body, fold-Element, fold-Statement}
use Rattle.pas_tree.specs.declared.statement.Element.{Element}
use Rattle.pas_tree.specs.declared.statement.Statement.{Statement}
use Rattle.pas_tree.specs.declared.type_expr.TypeExpr.{TypeExpr}
use Rattle.pas_tree.specs.declared.type_expr.TypeExpr.TheOpen.{TypeExpr-F}
use Rattle.pas_tree.specs.declared.type_expr.TypeExpr.TheFolds.{fold-TypeExpr}

abbrev pub greatest : List ℕ → ℕ
greatest [] = 0
greatest (n ∷ ns) = max n (greatest ns)

-- ---- Expressions: the depth of what is nested in one. As an expression of its own it counts for one more.

-- one for an adding or multiplying operator
abbrev pub applied : BinOp → ℕ
applied op.Add = 1
applied op.Sub = 1
applied op.Or = 1
applied op.Mul = 1
applied op.Div = 1
applied op.Mod = 1
applied op.And = 1
applied _ = 0

abbrev pub value_step : ActualValue-F ℕ ℕ ℕ ℕ → ℕ
value_step (ActualValue-F.Value value) = suc value
value_step (ActualValue-F.«Text» place) = 0

abbrev pub expr_step : Expr-F ℕ ℕ ℕ ℕ → ℕ
expr_step (Expr-F.Number value span) = 0
expr_step (Expr-F.Name name actuals span) = greatest actuals
expr_step (Expr-F.Indexed access span) = access
expr_step (Expr-F.Paren inner span) = suc inner
expr_step (Expr-F.Not inner span) = suc inner
expr_step (Expr-F.Signed sign inner span) = inner
expr_step (Expr-F.Binary op left right at span) = max left right + applied op

abbrev pub access_step : Access-F ℕ ℕ ℕ ℕ → ℕ
access_step a = greatest (map (λ n. suc n) a.subscripts)

abbrev pub width_depth : Option ℕ → ℕ
width_depth None = 0
width_depth (Some width) = suc width

abbrev pub actual_step : Actual-F ℕ ℕ ℕ ℕ → ℕ
actual_step a = max a.value (width_depth a.width)

abbrev pub depth_in_value : ActualValue → ℕ
depth_in_value = fold-ActualValue ℕ ℕ ℕ ℕ value_step expr_step access_step actual_step

abbrev pub depth_in_expr : Expr → ℕ
depth_in_expr = fold-Expr ℕ ℕ ℕ ℕ value_step expr_step access_step actual_step

abbrev pub depth_in_access : Access → ℕ
depth_in_access = fold-Access ℕ ℕ ℕ ℕ value_step expr_step access_step actual_step

abbrev pub depth_in_actual : Actual → ℕ
depth_in_actual = fold-Actual ℕ ℕ ℕ ℕ value_step expr_step access_step actual_step

abbrev pub expr_depth : Expr → ℕ
expr_depth e = suc (depth_in_expr e)

-- ---- types: an index is none

abbrev pub type_step : TypeExpr-F ℕ → ℕ
type_step (TypeExpr-F.Name name) = 1
type_step (TypeExpr-F.Range lo hi span) = 1
type_step (TypeExpr-F.Array indexes element span) = suc element

abbrev pub type_depth : TypeExpr → ℕ
type_depth = fold-TypeExpr ℕ type_step

-- ---- statements

abbrev pub assertion_depth : Assertion → ℕ
assertion_depth a = expr_depth a.cond

-- nothing for the body that has no token
abbrev pub body_step : Body-F (Option ℕ) ℕ ℕ → Option ℕ
body_step Body-F.Empty = None
body_step (Body-F.Call name actuals) = Some (greatest (map depth_in_actual actuals))
body_step (Body-F.Assign target value) = Some (max (depth_in_access target) (expr_depth value))
body_step (Body-F.Goto label) = Some 0
body_step (Body-F.Begin body) = Some (greatest body)
body_step (Body-F.If cond chosen other) = Some (max (expr_depth cond) (max chosen (or_none other)))
body_step (Body-F.Case of arms) = Some (max (expr_depth of) (greatest arms))
body_step (Body-F.While cond body) = Some (max (expr_depth cond) body)
body_step (Body-F.Repeat body until cond) = Some (max (greatest body) (expr_depth cond))
body_step (Body-F.For control first down last body) = Some (max (expr_depth first) (max (expr_depth last) body))

abbrev pub element_step : Element-F (Option ℕ) ℕ ℕ → ℕ
element_step e = e.body

-- a statement without a token is none
abbrev pub statement_depth_by : Option Label → List Assertion → Option ℕ → ℕ
statement_depth_by None [] None = 0
statement_depth_by label asserts body = suc (max (greatest (map assertion_depth asserts)) (or_none body))

abbrev pub statement_step : Statement-F (Option ℕ) ℕ ℕ → ℕ
statement_step s = statement_depth_by s.label s.asserts s.body

abbrev pub statement_depth : Statement → ℕ
statement_depth = fold-Statement (Option ℕ) ℕ ℕ body_step element_step statement_step

abbrev pub depth_in_body : Body → Option ℕ
depth_in_body = fold-Body (Option ℕ) ℕ ℕ body_step element_step statement_step

abbrev pub element_depth : Element → ℕ
element_depth = fold-Element (Option ℕ) ℕ ℕ body_step element_step statement_step

-- ---- blocks

abbrev pub routine_body_step : RoutineBody-F ℕ ℕ ℕ → ℕ
routine_body_step (RoutineBody-F.Block block) = block
routine_body_step (RoutineBody-F.Word word) = 0

abbrev pub type_decl_depth : TypeDecl → ℕ
type_decl_depth d = type_depth d.of_type

abbrev pub var_decl_depth : VarDecl → ℕ
var_decl_depth d = type_depth d.of_type

abbrev pub block_step : Block-F ℕ ℕ ℕ → ℕ
block_step b = suc (max (max (greatest (map type_decl_depth b.types)) (greatest (map var_decl_depth b.vars))) (max (greatest b.routines) (greatest (map statement_depth b.body))))

abbrev pub routine_step : Routine-F ℕ ℕ ℕ → ℕ
routine_step r = r.body

abbrev pub block_depth : Block → ℕ
block_depth = fold-Block ℕ ℕ ℕ routine_body_step block_step routine_step

abbrev pub routine_depth : Routine → ℕ
routine_depth = fold-Routine ℕ ℕ ℕ routine_body_step block_step routine_step

abbrev pub routine_body_depth : RoutineBody → ℕ
routine_body_depth = fold-RoutineBody ℕ ℕ ℕ routine_body_step block_step routine_step

abbrev pub tree_depth : Tree → ℕ
tree_depth tree = block_depth tree.block
