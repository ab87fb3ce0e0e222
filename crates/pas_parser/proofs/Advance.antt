-- A construct of the grammar ends no earlier than it begins.
use Rattle.std.proofs.Common.{ℕ, ◌<◌, ◌≤◌, Bool, List, Option, arith}
use Rattle.px_base.specs.declared.place.Span.{Span}
use Rattle.pas_lexer.specs.declared.token.Token.{Token}
use Rattle.pas_lexer.specs.declared.token.TokenKind.{TokenKind}
use Rattle.pas_lexer.specs.declared.word.Word.{Word}
use Rattle.pas_tree.specs.declared.block.Block.{Block}
use Rattle.pas_tree.specs.declared.block.ConstDecl.{ConstDecl}
use Rattle.pas_tree.specs.declared.block.Label.{Label}
use Rattle.pas_tree.specs.declared.block.Routine.{Routine}
use Rattle.pas_tree.specs.declared.block.RoutineBody.{RoutineBody}
use Rattle.pas_tree.specs.declared.block.Section.{Section}
use Rattle.pas_tree.specs.declared.block.Tree.{Tree}
use Rattle.pas_tree.specs.declared.block.TypeDecl.{TypeDecl}
use Rattle.pas_tree.specs.declared.block.VarDecl.{VarDecl}
use Rattle.pas_tree.specs.declared.constant.Constant.{Constant}
use Rattle.pas_tree.specs.declared.constant.ConstantValue.{ConstantValue}
use Rattle.pas_tree.specs.declared.expr.Access.{Access}
use Rattle.pas_tree.specs.declared.expr.Actual.{Actual}
use Rattle.pas_tree.specs.declared.expr.ActualValue.{ActualValue}
use Rattle.pas_tree.specs.declared.expr.Expr.{Expr}
use Rattle.pas_tree.specs.declared.statement.Assertion.{Assertion}
use Rattle.pas_tree.specs.declared.statement.Body.{Body}
use Rattle.pas_tree.specs.declared.statement.Element.{Element}
use Rattle.pas_tree.specs.declared.statement.Statement.{Statement}
use Rattle.pas_tree.specs.declared.type_expr.TypeExpr.{TypeExpr}
use Rattle.pas_parser.specs.Grammar.Word.{IsToken, IsName, Many, no_more, one_more, OneOrMore, only, and_then, Separated, last_one, and_more}
use Rattle.pas_parser.specs.Grammar.Block as block
use Rattle.pas_parser.specs.Grammar.Constant as constant
use Rattle.pas_parser.specs.Grammar.Expr as expr
use Rattle.pas_parser.specs.Grammar.Program as program
use Rattle.pas_parser.specs.Grammar.Statement as statement
use Rattle.pas_parser.specs.Grammar.TypeExpr as type_of

-- ---- lists

module _ {T : Type 0} {Item : T → ℕ → ℕ → Type 0} (item : (x : T) (i j : ℕ) → Item x i j → i < j) where
  pub many : {xs : List T} {i j : ℕ} → Many Item xs i j → i ≤ j
  many no_more = omega arith
  many (one_more {x = x} {i = i} {j = j} h rest) = omega (arith, item x i j h, many rest)

  pub one_or_more : {xs : List T} {i j : ℕ} → OneOrMore Item xs i j → i < j
  one_or_more (only {x = x} {i = i} {j = j} h) = item x i j h
  one_or_more (and_then {x = x} {i = i} {j = j} h rest) = omega (arith, item x i j h, one_or_more rest)

  pub separated : {Separator : ℕ → ℕ → Type 0} → ((i j : ℕ) → Separator i j → i < j) → {xs : List T} {i j : ℕ} → Separated Separator Item xs i j → i < j
  separated between (last_one {x = x} {i = i} {j = j} h) = item x i j h
  separated between (and_more {x = x} {i = i} {j = j} {k = k} h s rest) = omega (arith, item x i j h, between j k s, separated between rest)

module _ (tokens : List Token) where
  pub token : (kind : TokenKind) (i j : ℕ) → IsToken tokens kind i j → i < j
  token kind i j h = omega arith

  pub name : (x : Span) (i j : ℕ) → IsName tokens x i j → i < j
  name x i j h = omega (arith, h.token.next)

  pub label : (x : Label) (i j : ℕ) → constant.IsLabel tokens x i j → i < j
  label x i j (constant.label h) = omega (arith, h.next)

  pub constant_value : (x : ConstantValue) (i j : ℕ) → constant.IsConstantValue tokens x i j → i < j
  constant_value x i j (constant.number h) = omega (arith, h.next)
  constant_value x i j (constant.named h) = omega (arith, h.next)

  pub constant_of : (x : Constant) (i j : ℕ) → constant.IsConstant tokens x i j → i < j
  constant_of x i j (constant.plain {value = v} h) = constant_value v i j h
  constant_of x i j (constant.signed {j = k} {value = v} s h) = omega (arith, s.next, constant_value v k j h)

  pub names : {xs : List Span} {i j : ℕ} → constant.IsNames tokens xs i j → i < j
  names h = separated name (token _) h

  pub labels : {xs : List Label} {i j : ℕ} → constant.IsLabels tokens xs i j → i < j
  labels h = separated label (token _) h

  pub constants : {xs : List Constant} {i j : ℕ} → constant.IsConstants tokens xs i j → i < j
  constants h = separated constant_of (token _) h

  pub index : (x : TypeExpr) (i j : ℕ) → type_of.IsIndex tokens x i j → i < j
  index x i j (type_of.named h) = omega (arith, h.next)
  index x i j (type_of.range {j = k} {k = l} {lo = lo} {hi = hi} a h b) = omega (arith, constant_of lo i k a, h.next, constant_of hi l j b)

  pub type_expr : {x : TypeExpr} {i j : ℕ} → type_of.IsType tokens x i j → i < j
  type_expr (type_of.simple {i = i} {j = j} {of_type = x} h) = index x i j h
  type_expr (type_of.array a b c d e f) = omega (arith, a.next, b.next, separated index (token _) c, d.next, e.next, type_expr f)

  -- ---- expressions

  mutual
    pub of_expr : {x : Expr} {i j : ℕ} → expr.IsExpr tokens x i j → i < j
    of_expr (expr.uncompared h) = of_simple h
    of_expr (expr.compared a o b) = omega (arith, of_simple a, o.next, of_simple b)

    pub of_simple : {x : Expr} {i j : ℕ} → expr.IsSimple tokens x i j → i < j
    of_simple (expr.unsigned h) = of_term h
    of_simple (expr.signed s h) = omega (arith, s.next, of_term h)
    of_simple (expr.added a o b) = omega (arith, of_simple a, o.next, of_term b)

    pub of_term : {x : Expr} {i j : ℕ} → expr.IsTerm tokens x i j → i < j
    of_term (expr.alone h) = of_factor h
    of_term (expr.multiplied a o b) = omega (arith, of_term a, o.next, of_factor b)

    pub of_factor : {x : Expr} {i j : ℕ} → expr.IsFactor tokens x i j → i < j
    of_factor (expr.number h) = omega (arith, h.next)
    of_factor (expr.parenthesized o h c) = omega (arith, o.next, of_expr h, c.next)
    of_factor (expr.negated w h) = omega (arith, w.next, of_factor h)
    of_factor (expr.named n h) = omega (arith, n.next, of_arguments h)
    of_factor (expr.indexed h o) = of_access h

    pub of_access : {x : Access} {i j : ℕ} → expr.IsAccess tokens x i j → i < j
    of_access (expr.access n h) = omega (arith, n.next, of_subscripts h)

    pub of_subscripts : {xs : List Expr} {i j : ℕ} → expr.IsSubscripts tokens xs i j → i ≤ j
    of_subscripts expr.no_subscript = omega arith
    of_subscripts (expr.subscripts o h c rest) = omega (arith, o.next, of_exprs h, c.next, of_subscripts rest)

    pub of_exprs : {xs : List Expr} {i j : ℕ} → expr.IsExprs tokens xs i j → i < j
    of_exprs (expr.one_expr h) = of_expr h
    of_exprs (expr.more_exprs h c rest) = omega (arith, of_expr h, c.next, of_exprs rest)

    pub of_arguments : {xs : List Actual} {i j : ℕ} → expr.IsArguments tokens xs i j → i ≤ j
    of_arguments expr.no_argument = omega arith
    of_arguments (expr.arguments o h c) = omega (arith, o.next, of_actuals h, c.next)

    pub of_actuals : {xs : List Actual} {i j : ℕ} → expr.IsActuals tokens xs i j → i < j
    of_actuals (expr.one_actual h) = of_actual h
    of_actuals (expr.more_actuals h c rest) = omega (arith, of_actual h, c.next, of_actuals rest)

    pub of_actual : {x : Actual} {i j : ℕ} → expr.IsActual tokens x i j → i < j
    of_actual (expr.narrow h) = of_actual_value h
    of_actual (expr.wide h c w) = omega (arith, of_actual_value h, c.next, of_expr w)

    pub of_actual_value : {x : ActualValue} {i j : ℕ} → expr.IsActualValue tokens x i j → i < j
    of_actual_value (expr.value h) = of_expr h
    of_actual_value (expr.string h) = omega (arith, h.next)

  -- ---- statements

  pub label_part : {x : Option Label} {i j : ℕ} → statement.IsLabelPart tokens x i j → i ≤ j
  label_part statement.unlabelled = omega arith
  label_part (statement.labelled {i = i} {j = j} {label = x} h c) = omega (arith, label x i j h, c.next)

  pub assertion : (x : Assertion) (i j : ℕ) → statement.IsAssertion tokens x i j → i < j
  assertion x i j (statement.always o h c) = omega (arith, o.next, of_expr h, c.next)
  assertion x i j (statement.sometime o h q c) = omega (arith, o.next, of_expr h, q.next, c.next)

  pub direction : {x : Bool} {i j : ℕ} → statement.IsDirection tokens x i j → i < j
  direction (statement.up h) = omega (arith, h.next)
  direction (statement.down h) = omega (arith, h.next)

  pub last_semicolon : {i j : ℕ} → statement.IsLastSemicolon tokens i j → i ≤ j
  last_semicolon statement.no_semicolon = omega arith
  last_semicolon (statement.semicolon h) = omega (arith, h.next)

  mutual
    pub of_statement : {x : Statement} {i j : ℕ} → statement.IsStatement tokens x i j → i ≤ j
    of_statement (statement.statement a b c) = omega (arith, label_part a, many assertion b, of_body c)

    pub of_body : {x : Body} {i j : ℕ} → statement.IsBody tokens x i j → i ≤ j
    of_body statement.empty = omega arith
    of_body (statement.call n h) = omega (arith, n.next, of_arguments h)
    of_body (statement.assign a o b) = omega (arith, of_access a, o.next, of_expr b)
    of_body (statement.goto {j = j} {k = k} {label = x} w h) = omega (arith, w.next, label x j k h)
    of_body (statement.compound w h e) = omega (arith, w.next, of_sequence h, e.next)
    of_body (statement.if_then w c t h n) = omega (arith, w.next, of_expr c, t.next, of_statement h)
    of_body (statement.if_else w c t h e g) = omega (arith, w.next, of_expr c, t.next, of_statement h, e.next, of_statement g)
    of_body (statement.case w c o h l e) = omega (arith, w.next, of_expr c, o.next, of_elements h, last_semicolon l, e.next)
    of_body (statement.while w c d h) = omega (arith, w.next, of_expr c, d.next, of_statement h)
    of_body (statement.repeat w h u c) = omega (arith, w.next, of_sequence h, u.next, of_expr c)
    of_body (statement.for w n a f d l o h) = omega (arith, w.next, n.next, a.next, of_expr f, direction d, of_expr l, o.next, of_statement h)

    pub of_sequence : {xs : List Statement} {i j : ℕ} → statement.IsSequence tokens xs i j → i ≤ j
    of_sequence (statement.one_statement h) = of_statement h
    of_sequence (statement.more_statements h c rest) = omega (arith, of_statement h, c.next, of_sequence rest)

    pub of_elements : {xs : List Element} {i j : ℕ} → statement.IsElements tokens xs i j → i < j
    of_elements (statement.one_element h) = of_element h
    of_elements (statement.more_elements h c rest) = omega (arith, of_element h, c.next, of_elements rest)

    pub of_element : {x : Element} {i j : ℕ} → statement.IsElement tokens x i j → i < j
    of_element (statement.element cs c h) = omega (arith, constants cs, c.next, of_statement h)

  -- ---- blocks

  pub label_list : {xs : List Label} {i j : ℕ} → block.IsLabelPart tokens xs i j → i ≤ j
  label_list block.no_labels = omega arith
  label_list (block.labels w h c) = omega (arith, w.next, labels h, c.next)

  pub part : {T : Type 0} {Item : T → ℕ → ℕ → Type 0} {word : Word} → ((x : T) (i j : ℕ) → Item x i j → i < j) → {xs : List T} {i j : ℕ} → block.IsPart tokens word Item xs i j → i ≤ j
  part item block.no_part = omega arith
  part item (block.part w h) = omega (arith, w.next, one_or_more item h)

  pub const_decl : (x : ConstDecl) (i j : ℕ) → block.IsConstDecl tokens x i j → i < j
  const_decl x i j (block.const_decl {k = k} {l = l} {value = v} n e h s) = omega (arith, n.next, e.next, constant_of v k l h, s.next)

  pub type_decl : (x : TypeDecl) (i j : ℕ) → block.IsTypeDecl tokens x i j → i < j
  type_decl x i j (block.type_decl n e h s) = omega (arith, n.next, e.next, type_expr h, s.next)

  pub var_decl : (x : VarDecl) (i j : ℕ) → block.IsVarDecl tokens x i j → i < j
  var_decl x i j (block.var_decl n c h s) = omega (arith, names n, c.next, type_expr h, s.next)

  pub mode : {x : Bool} {i j : ℕ} → block.IsMode tokens x i j → i ≤ j
  mode block.by_value = omega arith
  mode (block.by_var h) = omega (arith, h.next)

  pub section : (x : Section) (i j : ℕ) → block.IsSection tokens x i j → i < j
  section x i j (block.section m n c t) = omega (arith, mode m, names n, c.next, t.next)

  pub formals : {xs : List Section} {i j : ℕ} → block.IsFormals tokens xs i j → i ≤ j
  formals block.no_formals = omega arith
  formals (block.formals o h c) = omega (arith, o.next, separated section (token _) h, c.next)

  pub routine_word : {x : Bool} {i j : ℕ} → block.IsRoutineWord tokens x i j → i < j
  routine_word (block.procedure h) = omega (arith, h.next)
  routine_word (block.function h) = omega (arith, h.next)

  pub result : {f : Bool} {x : Option Span} {i j : ℕ} → block.IsResult tokens f x i j → i ≤ j
  result block.no_result = omega arith
  result (block.result c n) = omega (arith, c.next, n.next)

  mutual
    pub of_block : {x : Block} {i j : ℕ} → block.IsBlock tokens x i j → i < j
    of_block (block.block a b c d e w h f) =
        omega (arith, label_list a, part const_decl b, part type_decl c, part var_decl d, of_routines e, w.next, of_sequence h, f.next)

    pub of_routines : {xs : List Routine} {i j : ℕ} → block.IsRoutines tokens xs i j → i ≤ j
    of_routines block.no_routine = omega arith
    of_routines (block.routines h rest) = omega (arith, of_routine h, of_routines rest)

    pub of_routine : {x : Routine} {i j : ℕ} → block.IsRoutine tokens x i j → i < j
    of_routine (block.routine w n a r s h t) = omega (arith, routine_word w, n.next, formals a, result r, s.next, of_routine_body h, t.next)

    pub of_routine_body : {x : RoutineBody} {i j : ℕ} → block.IsRoutineBody tokens x i j → i < j
    of_routine_body (block.word h) = omega (arith, h.next)
    of_routine_body (block.inner h) = of_block h

  pub parameters : {i j : ℕ} → program.IsParameters tokens i j → i ≤ j
  parameters program.no_parameters = omega arith
  parameters (program.parameters o h c) = omega (arith, o.next, names h, c.next)

  pub whole : {x : Tree} {i j : ℕ} → program.IsProgramFrom tokens x i j → i < j
  whole (program.program w n a s h d) = omega (arith, w.next, n.next, parameters a, s.next, of_block h, d.next)
