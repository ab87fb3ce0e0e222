-- Where the constructs of a tree begin, in the order in which the grammar writes them. Constructs that begin with one
-- token stand in the list once.
use Rattle.std.specs.Prelude.{ℕ, ◌+◌, ◌≤◌, Bool, true, false, List, [], ◌∷◌, ◌++◌, map, Option, Some, None}
use Rattle.px_base.specs.declared.place.Span.{Span}
use Rattle.pas_tree.specs.declared.block.Block.{Block}
use Rattle.pas_tree.specs.declared.block.ConstDecl.{ConstDecl}
use Rattle.pas_tree.specs.declared.block.Label.{Label}
use Rattle.pas_tree.specs.declared.block.Routine.{Routine}
use Rattle.pas_tree.specs.declared.block.RoutineBody.{RoutineBody}
use Rattle.pas_tree.specs.declared.block.RoutineBody.TheOpen.{Block-F, Routine-F, RoutineBody-F}
use Rattle.pas_tree.specs.declared.block.RoutineBody.TheFolds.{fold-Block, fold-Routine, fold-RoutineBody}
use Rattle.pas_tree.specs.declared.block.Section.{Section}
use Rattle.pas_tree.specs.declared.block.Tree.{Tree}
use Rattle.pas_tree.specs.declared.block.TypeDecl.{TypeDecl}
use Rattle.pas_tree.specs.declared.block.VarDecl.{VarDecl}
use Rattle.pas_tree.specs.declared.constant.Constant.{Constant}
use Rattle.pas_tree.specs.declared.constant.ConstantValue.{ConstantValue}
use Rattle.pas_tree.specs.declared.constant.ConstantValue.TheVariants as value_of
use Rattle.pas_tree.specs.declared.constant.Sign.{Sign}
use Rattle.pas_tree.specs.declared.expr.Access.{Access}
use Rattle.pas_tree.specs.declared.expr.Actual.{Actual}
use Rattle.pas_tree.specs.declared.expr.ActualValue.{ActualValue}
use Rattle.pas_tree.specs.declared.expr.ActualValue.TheOpen.{ActualValue-F, Expr-F, Access-F, Actual-F}
use Rattle.pas_tree.specs.declared.expr.ActualValue.TheFolds.{fold-ActualValue, fold-Expr, fold-Access, fold-Actual}
use Rattle.pas_tree.specs.declared.expr.Expr.{Expr}
use Rattle.pas_tree.specs.declared.statement.Assertion.{Assertion}
use Rattle.pas_tree.specs.declared.statement.Body.{Body}
use Rattle.pas_tree.specs.declared.statement.Body.TheOpen.{Body-F, Element-F, Statement-F}
use Rattle.pas_tree.specs.declared.statement.Body.TheFolds.{fold-Body, fold-Element, fold-Statement}
use Rattle.pas_tree.specs.declared.statement.Element.{Element}
use Rattle.pas_tree.specs.declared.statement.Statement.{Statement}
use Rattle.pas_tree.specs.declared.type_expr.TypeExpr.{TypeExpr}
use Rattle.pas_tree.specs.declared.type_expr.TypeExpr.TheOpen.{TypeExpr-F}
use Rattle.pas_tree.specs.declared.type_expr.TypeExpr.TheFolds.{fold-TypeExpr}

abbrev pub Starts : Type 0
Starts = List ℕ

abbrev pub joined : List Starts → Starts
joined [] = []
joined (ns ∷ rest) = ns ++ joined rest

abbrev pub if_some : Option Starts → Starts
if_some None = []
if_some (Some ns) = ns

-- of some spans
abbrev pub span_starts : Span → Starts
span_starts span = span.start ∷ []

-- ---- expressions

abbrev pub value_step : ActualValue-F Starts Starts Starts Starts → Starts
value_step (ActualValue-F.Value value) = value
value_step (ActualValue-F.«Text» place) = place.start ∷ []

abbrev pub expr_step : Expr-F Starts Starts Starts Starts → Starts
expr_step (Expr-F.Number value span) = span.start ∷ []
expr_step (Expr-F.Name name actuals span) = name.start ∷ joined actuals
expr_step (Expr-F.Indexed access span) = access
expr_step (Expr-F.Paren inner span) = span.start ∷ inner
expr_step (Expr-F.Not inner span) = span.start ∷ inner
expr_step (Expr-F.Signed sign inner span) = span.start ∷ inner
expr_step (Expr-F.Binary op left right at span) = left ++ at.start ∷ right

abbrev pub access_step : Access-F Starts Starts Starts Starts → Starts
access_step a = a.name.start ∷ joined a.subscripts

abbrev pub actual_step : Actual-F Starts Starts Starts Starts → Starts
actual_step a = a.value ++ if_some a.width

abbrev pub value_starts : ActualValue → Starts
value_starts = fold-ActualValue Starts Starts Starts Starts value_step expr_step access_step actual_step

abbrev pub expr_starts : Expr → Starts
expr_starts = fold-Expr Starts Starts Starts Starts value_step expr_step access_step actual_step

abbrev pub access_starts : Access → Starts
access_starts = fold-Access Starts Starts Starts Starts value_step expr_step access_step actual_step

abbrev pub actual_starts : Actual → Starts
actual_starts = fold-Actual Starts Starts Starts Starts value_step expr_step access_step actual_step

-- ---- constants and types

abbrev pub label_starts : Label → Starts
label_starts label = label.at.start ∷ []

-- a name after a sign has a token of its own
abbrev pub constant_starts_by : Option Sign → ConstantValue → Span → Starts
constant_starts_by None value span = span.start ∷ []
constant_starts_by (Some sign) (value_of.Number value) span = span.start ∷ []
constant_starts_by (Some sign) (value_of.Name name) span = span.start ∷ (name.start ∷ [])

abbrev pub constant_starts : Constant → Starts
constant_starts c = constant_starts_by c.sign c.value c.span

abbrev pub type_step : TypeExpr-F Starts → Starts
type_step (TypeExpr-F.Name name) = name.start ∷ []
type_step (TypeExpr-F.Range lo hi span) = constant_starts lo ++ constant_starts hi
type_step (TypeExpr-F.Array indexes element span) = span.start ∷ (joined indexes ++ element)

abbrev pub type_starts : TypeExpr → Starts
type_starts = fold-TypeExpr Starts type_step

-- ---- statements

abbrev pub assertion_starts : Assertion → Starts
assertion_starts a = a.span.start ∷ expr_starts a.cond

-- The parts of a body, and whether a word stands before them.
abbrev pub Parts : Type 0
Parts = Bool × Starts

abbrev pub body_step : Body-F Parts Starts Starts → Parts
body_step Body-F.Empty = (false, [])
body_step (Body-F.Call name actuals) = (false, name.start ∷ joined (map actual_starts actuals))
body_step (Body-F.Assign target value) = (false, access_starts target ++ expr_starts value)
body_step (Body-F.Goto label) = (true, label_starts label)
body_step (Body-F.Begin body) = (true, joined body)
body_step (Body-F.If cond chosen other) = (true, expr_starts cond ++ (chosen ++ if_some other))
body_step (Body-F.Case of arms) = (true, expr_starts of ++ joined arms)
body_step (Body-F.While cond body) = (true, expr_starts cond ++ body)
body_step (Body-F.Repeat body until cond) = (true, joined body ++ until.start ∷ expr_starts cond)
body_step (Body-F.For control first down last body) = (true, control.start ∷ (expr_starts first ++ (expr_starts last ++ body)))

abbrev pub element_step : Element-F Parts Starts Starts → Starts
element_step e = joined (map constant_starts e.consts) ++ e.body

abbrev pub with_word : Span → Parts → Starts
with_word at (false, parts) = parts
with_word at (true, parts) = at.start ∷ parts

abbrev pub label_if_some : Option Label → Starts
label_if_some None = []
label_if_some (Some label) = label_starts label

abbrev pub statement_step : Statement-F Parts Starts Starts → Starts
statement_step s = label_if_some s.label ++ (joined (map assertion_starts s.asserts) ++ with_word s.at s.body)

abbrev pub statement_starts : Statement → Starts
statement_starts = fold-Statement Parts Starts Starts body_step element_step statement_step

abbrev pub body_starts : Body → Parts
body_starts = fold-Body Parts Starts Starts body_step element_step statement_step

abbrev pub element_starts : Element → Starts
element_starts = fold-Element Parts Starts Starts body_step element_step statement_step

-- ---- blocks

abbrev pub const_decl_starts : ConstDecl → Starts
const_decl_starts d = d.name.start ∷ constant_starts d.value

abbrev pub type_decl_starts : TypeDecl → Starts
type_decl_starts d = d.name.start ∷ type_starts d.of_type

abbrev pub var_decl_starts : VarDecl → Starts
var_decl_starts d = joined (map span_starts d.names) ++ type_starts d.of_type

abbrev pub section_starts : Section → Starts
section_starts s = joined (map span_starts s.names) ++ span_starts s.of_type

abbrev pub span_if_some : Option Span → Starts
span_if_some None = []
span_if_some (Some span) = span_starts span

abbrev pub routine_body_step : RoutineBody-F Starts Starts Starts → Starts
routine_body_step (RoutineBody-F.Block block) = block
routine_body_step (RoutineBody-F.Word word) = word.start ∷ []

abbrev pub block_step : Block-F Starts Starts Starts → Starts
block_step b =
    joined (map label_starts b.labels) ++ (joined (map const_decl_starts b.consts) ++ (joined (map type_decl_starts b.types) ++ (joined (map var_decl_starts b.vars)
    ++ (joined b.routines ++ b.«begin».start ∷ (joined (map statement_starts b.body) ++ span_starts b.«end»)))))

abbrev pub routine_step : Routine-F Starts Starts Starts → Starts
routine_step r = r.name.start ∷ (joined (map section_starts r.formals) ++ (span_if_some r.result ++ r.body))

abbrev pub block_starts : Block → Starts
block_starts = fold-Block Starts Starts Starts routine_body_step block_step routine_step

abbrev pub routine_starts : Routine → Starts
routine_starts = fold-Routine Starts Starts Starts routine_body_step block_step routine_step

abbrev pub routine_body_starts : RoutineBody → Starts
routine_body_starts = fold-RoutineBody Starts Starts Starts routine_body_step block_step routine_step

abbrev pub tree_starts : Tree → Starts
tree_starts tree = tree.name.start ∷ block_starts tree.block

-- none is below the least that is allowed, and each is below all later ones
abbrev pub IsRising : ℕ → Starts → Type 0
IsRising least [] = Unit {0}
IsRising least (n ∷ ns) = (least ≤ n) × IsRising (n + 1) ns
