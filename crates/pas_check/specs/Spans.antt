-- The spans of a tree, each of which is a piece of the text that was read.
use Rattle.std.specs.Prelude.{ℕ, Bool, true, ◌&&◌, map}
use Rattle.std.specs.List.{list_all}
use Rattle.std.specs.Option.{option_map}
use Rattle.pas_program.specs.Each.{all_true, true_if_some}
use Rattle.pas_program.specs.Places.{is_piece}
use Rattle.pas_tree.specs.declared.block.Block.{Block}
use Rattle.pas_tree.specs.declared.block.ConstDecl.{ConstDecl}
use Rattle.pas_tree.specs.declared.block.Label.{Label}
use Rattle.pas_tree.specs.declared.block.Routine.{Routine}
use Rattle.pas_tree.specs.declared.block.RoutineBody.{RoutineBody}
use Rattle.pas_tree.specs.declared.block.RoutineBody.TheOpen.{Block-F, Routine-F, RoutineBody-F}
use Rattle.pas_tree.specs.declared.block.RoutineBody.TheFolds.{fold-Block, fold-Routine, fold-RoutineBody}
use Rattle.pas_tree.specs.declared.block.Section.{Section}
use Rattle.pas_tree.specs.declared.block.Tree.{Tree}
use Rattle.pas_tree.specs.declared.block.TypeDecl.{TypeDecl}
use Rattle.pas_tree.specs.declared.block.VarDecl.{VarDecl}
use Rattle.pas_tree.specs.declared.constant.Constant.{Constant}
use Rattle.pas_tree.specs.declared.constant.ConstantValue.{ConstantValue}
use Rattle.pas_tree.specs.declared.constant.ConstantValue.TheVariants as value_of
use Rattle.pas_tree.specs.declared.expr.Access.{Access}
use Rattle.pas_tree.specs.declared.expr.Actual.{Actual}
use Rattle.pas_tree.specs.declared.expr.ActualValue.{ActualValue}
use Rattle.pas_tree.specs.declared.expr.ActualValue.TheOpen.{ActualValue-F, Expr-F, Access-F, Actual-F}
use Rattle.pas_tree.specs.declared.expr.ActualValue.TheFolds.{fold-ActualValue, fold-Expr, fold-Access, fold-Actual}
use Rattle.pas_tree.specs.declared.expr.Expr.{Expr}
use Rattle.pas_tree.specs.declared.statement.Assertion.{Assertion}
use Rattle.pas_tree.specs.declared.statement.Body.{Body}
use Rattle.pas_tree.specs.declared.statement.Body.TheOpen.{Body-F, Element-F, Statement-F}
use Rattle.pas_tree.specs.declared.statement.Body.TheFolds.{fold-Body, fold-Element, fold-Statement}
use Rattle.pas_tree.specs.declared.statement.Element.{Element}
use Rattle.pas_tree.specs.declared.statement.Statement.{Statement}
use Rattle.pas_tree.specs.declared.type_expr.TypeExpr.{TypeExpr}
use Rattle.pas_tree.specs.declared.type_expr.TypeExpr.TheOpen.{TypeExpr-F}
use Rattle.pas_tree.specs.declared.type_expr.TypeExpr.TheFolds.{fold-TypeExpr}

-- ---- expressions: one level, with the answers for its parts

abbrev pub value_step : ℕ → ActualValue-F Bool Bool Bool Bool → Bool
value_step len (ActualValue-F.Value value) = value
value_step len (ActualValue-F.«Text» place) = is_piece len place

abbrev pub expr_step : ℕ → Expr-F Bool Bool Bool Bool → Bool
expr_step len (Expr-F.Number value span) = is_piece len span
expr_step len (Expr-F.Name name actuals span) = is_piece len name && (all_true actuals && is_piece len span)
expr_step len (Expr-F.Indexed access span) = access && is_piece len span
expr_step len (Expr-F.Paren inner span) = inner && is_piece len span
expr_step len (Expr-F.Not inner span) = inner && is_piece len span
expr_step len (Expr-F.Signed sign inner span) = inner && is_piece len span
expr_step len (Expr-F.Binary op left right at span) = left && (is_piece len at && (right && is_piece len span))

abbrev pub access_step : ℕ → Access-F Bool Bool Bool Bool → Bool
access_step len a = is_piece len a.name && (all_true a.subscripts && is_piece len a.span)

abbrev pub actual_step : Actual-F Bool Bool Bool Bool → Bool
actual_step a = a.value && true_if_some a.width

abbrev pub value_within : ℕ → ActualValue → Bool
value_within len = fold-ActualValue Bool Bool Bool Bool (value_step len) (expr_step len) (access_step len) actual_step

abbrev pub expr_within : ℕ → Expr → Bool
expr_within len = fold-Expr Bool Bool Bool Bool (value_step len) (expr_step len) (access_step len) actual_step

abbrev pub access_within : ℕ → Access → Bool
access_within len = fold-Access Bool Bool Bool Bool (value_step len) (expr_step len) (access_step len) actual_step

abbrev pub actual_within : ℕ → Actual → Bool
actual_within len = fold-Actual Bool Bool Bool Bool (value_step len) (expr_step len) (access_step len) actual_step

-- ---- constants and types

abbrev pub label_within : ℕ → Label → Bool
label_within len label = is_piece len label.at

abbrev pub constant_value_within : ℕ → ConstantValue → Bool
constant_value_within len (value_of.Number value) = true
constant_value_within len (value_of.Name name) = is_piece len name

abbrev pub constant_within : ℕ → Constant → Bool
constant_within len c = constant_value_within len c.value && is_piece len c.span

abbrev pub type_step : ℕ → TypeExpr-F Bool → Bool
type_step len (TypeExpr-F.Name name) = is_piece len name
type_step len (TypeExpr-F.Range lo hi span) = constant_within len lo && (constant_within len hi && is_piece len span)
type_step len (TypeExpr-F.Array indexes element span) = all_true indexes && (element && is_piece len span)

abbrev pub type_within : ℕ → TypeExpr → Bool
type_within len = fold-TypeExpr Bool (type_step len)

-- ---- statements

abbrev pub assertion_within : ℕ → Assertion → Bool
assertion_within len a = expr_within len a.cond && is_piece len a.span

abbrev pub body_step : ℕ → Body-F Bool Bool Bool → Bool
body_step len Body-F.Empty = true
body_step len (Body-F.Call name actuals) = is_piece len name && all_true (map (actual_within len) actuals)
body_step len (Body-F.Assign target value) = access_within len target && expr_within len value
body_step len (Body-F.Goto label) = label_within len label
body_step len (Body-F.Begin body) = all_true body
body_step len (Body-F.If cond chosen other) = expr_within len cond && (chosen && true_if_some other)
body_step len (Body-F.Case of arms) = expr_within len of && all_true arms
body_step len (Body-F.While cond body) = expr_within len cond && body
body_step len (Body-F.Repeat body until cond) = all_true body && (is_piece len until && expr_within len cond)
body_step len (Body-F.For control first down last body) = is_piece len control && (expr_within len first && (expr_within len last && body))

abbrev pub element_step : ℕ → Element-F Bool Bool Bool → Bool
element_step len e = list_all (constant_within len) e.consts && e.body

abbrev pub statement_step : ℕ → Statement-F Bool Bool Bool → Bool
statement_step len s = true_if_some (option_map (label_within len) s.label) && (list_all (assertion_within len) s.asserts && (s.body && is_piece len s.at))

abbrev pub statement_within : ℕ → Statement → Bool
statement_within len = fold-Statement Bool Bool Bool (body_step len) (element_step len) (statement_step len)

abbrev pub body_within : ℕ → Body → Bool
body_within len = fold-Body Bool Bool Bool (body_step len) (element_step len) (statement_step len)

abbrev pub element_within : ℕ → Element → Bool
element_within len = fold-Element Bool Bool Bool (body_step len) (element_step len) (statement_step len)

-- ---- blocks

abbrev pub const_decl_within : ℕ → ConstDecl → Bool
const_decl_within len d = is_piece len d.name && constant_within len d.value

abbrev pub type_decl_within : ℕ → TypeDecl → Bool
type_decl_within len d = is_piece len d.name && type_within len d.of_type

abbrev pub var_decl_within : ℕ → VarDecl → Bool
var_decl_within len d = list_all (is_piece len) d.names && type_within len d.of_type

abbrev pub section_within : ℕ → Section → Bool
section_within len s = list_all (is_piece len) s.names && is_piece len s.of_type

abbrev pub routine_body_step : ℕ → RoutineBody-F Bool Bool Bool → Bool
routine_body_step len (RoutineBody-F.Block block) = block
routine_body_step len (RoutineBody-F.Word word) = is_piece len word

abbrev pub block_step : ℕ → Block-F Bool Bool Bool → Bool
block_step len b =
    list_all (label_within len) b.labels && (list_all (const_decl_within len) b.consts && (list_all (type_decl_within len) b.types && (list_all (var_decl_within len) b.vars
    && (all_true b.routines && (is_piece len b.«begin» && (list_all (statement_within len) b.body && is_piece len b.«end»))))))

abbrev pub routine_step : ℕ → Routine-F Bool Bool Bool → Bool
routine_step len r = is_piece len r.name && (list_all (section_within len) r.formals && (true_if_some (option_map (is_piece len) r.result) && r.body))

abbrev pub block_within : ℕ → Block → Bool
block_within len = fold-Block Bool Bool Bool (routine_body_step len) (block_step len) (routine_step len)

abbrev pub routine_within : ℕ → Routine → Bool
routine_within len = fold-Routine Bool Bool Bool (routine_body_step len) (block_step len) (routine_step len)

abbrev pub routine_body_within : ℕ → RoutineBody → Bool
routine_body_within len = fold-RoutineBody Bool Bool Bool (routine_body_step len) (block_step len) (routine_step len)

-- all spans of the tree are pieces of a text of so many bytes
abbrev pub tree_within : ℕ → Tree → Bool
tree_within len tree = is_piece len tree.name && block_within len tree.block
