-- A rule for each number and each span of a tree, however deep it lies. A recursive reader of the tree has it for each
-- child from having it for the whole.
use Rattle.std.specs.Prelude.{◌≡◌, ℕ, Bool, true, ◌&&◌, List, [], ◌∷◌, map, Option, Some, None, nat_lt, nat_le}
use Rattle.std.specs.List.{All, list_all}
use Rattle.std.specs.Option.{option_map}
use Rattle.px_base.specs.declared.place.Span.{Span}
use Rattle.pas_lexer.specs.declared.token.Token.{Token}
use Rattle.pas_lexer.specs.declared.token.TokenKind.{TokenKind}
use Rattle.pas_lexer.specs.declared.token.TokenKind.TheVariants as kind
use Rattle.pas_tree.specs.declared.block.Block.{Block}
use Rattle.pas_tree.specs.declared.block.ConstDecl.{ConstDecl}
use Rattle.pas_tree.specs.declared.block.Label.{Label}
use Rattle.pas_tree.specs.declared.block.Routine.{Routine}
use Rattle.pas_tree.specs.declared.block.RoutineBody.{RoutineBody}
use Rattle.pas_tree.specs.declared.block.RoutineBody.TheOpen.{Block-F, Routine-F, RoutineBody-F}
use Rattle.pas_tree.specs.declared.block.RoutineBody.TheFolds.{fold-Block, fold-Routine, fold-RoutineBody}
use Rattle.pas_tree.specs.declared.block.Section.{Section}
use Rattle.pas_tree.specs.declared.block.Tree.{Tree}
use Rattle.pas_tree.specs.declared.block.TypeDecl.{TypeDecl}
use Rattle.pas_tree.specs.declared.block.VarDecl.{VarDecl}
use Rattle.pas_tree.specs.declared.constant.Constant.{Constant}
use Rattle.pas_tree.specs.declared.constant.ConstantValue.{ConstantValue}
use Rattle.pas_tree.specs.declared.constant.ConstantValue.TheVariants as value_of
use Rattle.pas_tree.specs.declared.expr.Access.{Access}
use Rattle.pas_tree.specs.declared.expr.Actual.{Actual}
use Rattle.pas_tree.specs.declared.expr.ActualValue.{ActualValue}
use Rattle.pas_tree.specs.declared.expr.ActualValue.TheOpen.{ActualValue-F, Expr-F, Access-F, Actual-F}
use Rattle.pas_tree.specs.declared.expr.ActualValue.TheFolds.{fold-ActualValue, fold-Expr, fold-Access, fold-Actual}
use Rattle.pas_tree.specs.declared.expr.Expr.{Expr}
use Rattle.pas_tree.specs.declared.statement.Assertion.{Assertion}
use Rattle.pas_tree.specs.declared.statement.Body.{Body}
use Rattle.pas_tree.specs.declared.statement.Body.TheOpen.{Body-F, Element-F, Statement-F}
use Rattle.pas_tree.specs.declared.statement.Body.TheFolds.{fold-Body, fold-Element, fold-Statement}
use Rattle.pas_tree.specs.declared.statement.Element.{Element}
use Rattle.pas_tree.specs.declared.statement.Statement.{Statement}
use Rattle.pas_tree.specs.declared.type_expr.TypeExpr.{TypeExpr}
use Rattle.pas_tree.specs.declared.type_expr.TypeExpr.TheOpen.{TypeExpr-F}
use Rattle.pas_tree.specs.declared.type_expr.TypeExpr.TheFolds.{fold-TypeExpr}

pub record Rule : Type 0 where
  pub number : ℕ → Bool
  pub span : Span → Bool

-- whether all of them are true
abbrev pub all_true : List Bool → Bool
all_true [] = true
all_true (b ∷ bs) = b && all_true bs

-- whether it is true, where there is one
abbrev pub true_if_some : Option Bool → Bool
true_if_some None = true
true_if_some (Some b) = b

-- ---- expressions: one level, with the answers for its parts

abbrev pub value_step : Rule → ActualValue-F Bool Bool Bool Bool → Bool
value_step q (ActualValue-F.Value value) = value
value_step q (ActualValue-F.«Text» place) = q.span place

abbrev pub expr_step : Rule → Expr-F Bool Bool Bool Bool → Bool
expr_step q (Expr-F.Number value span) = q.number value && q.span span
expr_step q (Expr-F.Name name actuals span) = q.span name && (all_true actuals && q.span span)
expr_step q (Expr-F.Indexed access span) = access && q.span span
expr_step q (Expr-F.Paren inner span) = inner && q.span span
expr_step q (Expr-F.Not inner span) = inner && q.span span
expr_step q (Expr-F.Signed sign inner span) = inner && q.span span
expr_step q (Expr-F.Binary op left right at span) = left && (q.span at && (right && q.span span))

abbrev pub access_step : Rule → Access-F Bool Bool Bool Bool → Bool
access_step q a = q.span a.name && (all_true a.subscripts && q.span a.span)

abbrev pub actual_step : Actual-F Bool Bool Bool Bool → Bool
actual_step a = a.value && true_if_some a.width

abbrev pub each_value : Rule → ActualValue → Bool
each_value q = fold-ActualValue Bool Bool Bool Bool (value_step q) (expr_step q) (access_step q) actual_step

abbrev pub each_expr : Rule → Expr → Bool
each_expr q = fold-Expr Bool Bool Bool Bool (value_step q) (expr_step q) (access_step q) actual_step

abbrev pub each_access : Rule → Access → Bool
each_access q = fold-Access Bool Bool Bool Bool (value_step q) (expr_step q) (access_step q) actual_step

abbrev pub each_actual : Rule → Actual → Bool
each_actual q = fold-Actual Bool Bool Bool Bool (value_step q) (expr_step q) (access_step q) actual_step

-- ---- constants and types

abbrev pub each_label : Rule → Label → Bool
each_label q label = q.number label.value && q.span label.at

abbrev pub each_constant_value : Rule → ConstantValue → Bool
each_constant_value q (value_of.Number value) = q.number value
each_constant_value q (value_of.Name name) = q.span name

abbrev pub each_constant : Rule → Constant → Bool
each_constant q c = each_constant_value q c.value && q.span c.span

abbrev pub type_step : Rule → TypeExpr-F Bool → Bool
type_step q (TypeExpr-F.Name name) = q.span name
type_step q (TypeExpr-F.Range lo hi span) = each_constant q lo && (each_constant q hi && q.span span)
type_step q (TypeExpr-F.Array indexes element span) = all_true indexes && (element && q.span span)

abbrev pub each_type : Rule → TypeExpr → Bool
each_type q = fold-TypeExpr Bool (type_step q)

-- ---- statements

abbrev pub each_assertion : Rule → Assertion → Bool
each_assertion q a = each_expr q a.cond && q.span a.span

abbrev pub body_step : Rule → Body-F Bool Bool Bool → Bool
body_step q Body-F.Empty = true
body_step q (Body-F.Call name actuals) = q.span name && all_true (map (each_actual q) actuals)
body_step q (Body-F.Assign target value) = each_access q target && each_expr q value
body_step q (Body-F.Goto label) = each_label q label
body_step q (Body-F.Begin body) = all_true body
body_step q (Body-F.If cond chosen other) = each_expr q cond && (chosen && true_if_some other)
body_step q (Body-F.Case of arms) = each_expr q of && all_true arms
body_step q (Body-F.While cond body) = each_expr q cond && body
body_step q (Body-F.Repeat body until cond) = all_true body && (q.span until && each_expr q cond)
body_step q (Body-F.For control first down last body) = q.span control && (each_expr q first && (each_expr q last && body))

abbrev pub element_step : Rule → Element-F Bool Bool Bool → Bool
element_step q e = list_all (each_constant q) e.consts && e.body

abbrev pub statement_step : Rule → Statement-F Bool Bool Bool → Bool
statement_step q s = true_if_some (option_map (each_label q) s.label) && (list_all (each_assertion q) s.asserts && (s.body && q.span s.at))

abbrev pub each_statement : Rule → Statement → Bool
each_statement q = fold-Statement Bool Bool Bool (body_step q) (element_step q) (statement_step q)

abbrev pub each_body : Rule → Body → Bool
each_body q = fold-Body Bool Bool Bool (body_step q) (element_step q) (statement_step q)

abbrev pub each_element : Rule → Element → Bool
each_element q = fold-Element Bool Bool Bool (body_step q) (element_step q) (statement_step q)

-- ---- blocks

abbrev pub each_const_decl : Rule → ConstDecl → Bool
each_const_decl q d = q.span d.name && each_constant q d.value

abbrev pub each_type_decl : Rule → TypeDecl → Bool
each_type_decl q d = q.span d.name && each_type q d.of_type

abbrev pub each_var_decl : Rule → VarDecl → Bool
each_var_decl q d = list_all q.span d.names && each_type q d.of_type

abbrev pub each_section : Rule → Section → Bool
each_section q s = list_all q.span s.names && q.span s.of_type

abbrev pub routine_body_step : Rule → RoutineBody-F Bool Bool Bool → Bool
routine_body_step q (RoutineBody-F.Block block) = block
routine_body_step q (RoutineBody-F.Word word) = q.span word

abbrev pub block_step : Rule → Block-F Bool Bool Bool → Bool
block_step q b =
    list_all (each_label q) b.labels && (list_all (each_const_decl q) b.consts && (list_all (each_type_decl q) b.types && (list_all (each_var_decl q) b.vars
    && (all_true b.routines && (q.span b.«begin» && (list_all (each_statement q) b.body && q.span b.«end»))))))

abbrev pub routine_step : Rule → Routine-F Bool Bool Bool → Bool
routine_step q r = q.span r.name && (list_all (each_section q) r.formals && (true_if_some (option_map q.span r.result) && r.body))

abbrev pub each_block : Rule → Block → Bool
each_block q = fold-Block Bool Bool Bool (routine_body_step q) (block_step q) (routine_step q)

abbrev pub each_routine : Rule → Routine → Bool
each_routine q = fold-Routine Bool Bool Bool (routine_body_step q) (block_step q) (routine_step q)

abbrev pub each_routine_body : Rule → RoutineBody → Bool
each_routine_body q = fold-RoutineBody Bool Bool Bool (routine_body_step q) (block_step q) (routine_step q)

abbrev pub each_tree : Rule → Tree → Bool
each_tree q tree = q.span tree.name && each_block q tree.block

-- ---- the rules of a tree that was read

-- a span with a byte at least, within a text of so many bytes
abbrev pub is_within : ℕ → Span → Bool
is_within len span = nat_lt span.start span.«end» && nat_le span.«end» len

-- spans within the text, and any numbers
abbrev pub within : ℕ → Rule
within len = record { number = λ n. true; span = is_within len }

-- numbers with a property, and any spans
abbrev pub numbered : (ℕ → Bool) → Rule
numbered passes = record { number = passes; span = λ span. true }

-- spans within the text, and numbers that are not too large
abbrev pub fits : ℕ → Rule
fits len = record { number = λ n. nat_le n 2147483647; span = is_within len }

-- a number token with a property
abbrev pub NumberPasses : (ℕ → Bool) → TokenKind → Type 0
NumberPasses passes (kind.Number value) = passes value ≡ true
NumberPasses passes _ = Unit {0}

abbrev pub NumbersPass : (ℕ → Bool) → List Token → Type 0
NumbersPass passes = All (λ token. NumberPasses passes token.kind)
