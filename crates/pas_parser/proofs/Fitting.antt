-- A rule that the tokens of a construct meet holds of each number and each span of its tree.
use Rattle.std.proofs.Common.{◌≡◌, ℕ, ◌+◌, ◌<◌, ◌≤◌, Bool, true, List, [], ◌∷◌, ◌++◌, map, Option, Some, None, refl, ap, ◌∙◌, arith}
use Rattle.std.proofs.lemmas.Bool.{and_parts, and_from}
use Rattle.std.specs.List.{list_all}
use Rattle.std.specs.Option.{option_map}
use Rattle.px_base.specs.declared.place.Span.{Span}
use Rattle.pas_lexer.specs.declared.token.Token.{Token}
use Rattle.pas_lexer.specs.declared.token.TokenKind.TheVariants as kind
use Rattle.pas_lexer.specs.declared.word.Word.{Word}
use Rattle.pas_tree.specs.declared.block.Block.{Block}
use Rattle.pas_tree.specs.declared.block.ConstDecl.{ConstDecl}
use Rattle.pas_tree.specs.declared.block.Label.{Label}
use Rattle.pas_tree.specs.declared.block.Routine.{Routine}
use Rattle.pas_tree.specs.declared.block.RoutineBody.{RoutineBody}
use Rattle.pas_tree.specs.declared.block.Section.{Section}
use Rattle.pas_tree.specs.declared.block.Tree.{Tree}
use Rattle.pas_tree.specs.declared.block.TypeDecl.{TypeDecl}
use Rattle.pas_tree.specs.declared.block.VarDecl.{VarDecl}
use Rattle.pas_tree.specs.declared.constant.Constant.{Constant}
use Rattle.pas_tree.specs.declared.constant.ConstantValue.{ConstantValue}
use Rattle.pas_tree.specs.declared.expr.Access.{Access}
use Rattle.pas_tree.specs.declared.expr.Actual.{Actual}
use Rattle.pas_tree.specs.declared.expr.ActualValue.{ActualValue}
use Rattle.pas_tree.specs.declared.expr.Expr.{Expr}
use Rattle.pas_tree.specs.declared.statement.Assertion.{Assertion}
use Rattle.pas_tree.specs.declared.statement.Body.{Body}
use Rattle.pas_tree.specs.declared.statement.Element.{Element}
use Rattle.pas_tree.specs.declared.statement.Statement.{Statement}
use Rattle.pas_tree.specs.declared.type_expr.TypeExpr.{TypeExpr}
use Rattle.pas_parser.specs.Look.{kind_at, span_at, cover}
use Rattle.pas_parser.specs.Each.{Rule, all_true, true_if_some, value_step, expr_step, access_step, actual_step, each_value, each_expr, each_access, each_actual, each_label, each_constant_value, each_constant, type_step, each_type, each_assertion, body_step, element_step, statement_step, each_statement, each_body, each_element, each_const_decl, each_type_decl, each_var_decl, each_section, routine_body_step, block_step, routine_step, each_block, each_routine, each_routine_body, each_tree}
use Rattle.pas_parser.specs.Grammar.Word.{IsName, Many, no_more, one_more, OneOrMore, only, and_then, Separated, last_one, and_more}
use Rattle.pas_parser.specs.Grammar.Block as block
use Rattle.pas_parser.specs.Grammar.Constant as constant
use Rattle.pas_parser.specs.Grammar.Expr as expr
use Rattle.pas_parser.specs.Grammar.Program as program
use Rattle.pas_parser.specs.Grammar.Statement as statement
use Rattle.pas_parser.specs.Grammar.TypeExpr as type_of
use Rattle.pas_parser.proofs.Advance as advance
use Rattle.pas_parser.proofs.Layers as layer

-- ---- lists

all_both : {T : Type 0} (f : T → Bool) (xs ys : List T) → all_true (map f xs) ≡ true → all_true (map f ys) ≡ true → all_true (map f (xs ++ ys)) ≡ true
all_both f [] ys h k = k
all_both f (x ∷ xs) ys h k = let p = and_parts (f x) _ h in and_from _ _ p.0 (all_both f xs ys p.1 k)

pub all_listed : {T : Type 0} (f : T → Bool) (xs : List T) → list_all f xs ≡ true → all_true (map f xs) ≡ true
all_listed f [] h = refl
all_listed f (x ∷ xs) h = let p = and_parts (f x) _ h in and_from _ _ p.0 (all_listed f xs p.1)

listed_all : {T : Type 0} (f : T → Bool) (xs : List T) → all_true (map f xs) ≡ true → list_all f xs ≡ true
listed_all f [] h = refl
listed_all f (x ∷ xs) h = let p = and_parts (f x) _ h in and_from _ _ p.0 (listed_all f xs p.1)

module _ (n : ℕ) {T : Type 0} {Item : T → ℕ → ℕ → Type 0} (f : T → Bool) (item : (x : T) (i j : ℕ) → Item x i j → i < j) (fit : (x : T) (i j : ℕ) → Item x i j → j ≤ n → f x ≡ true) where
  many : {xs : List T} {i j : ℕ} → Many Item xs i j → j ≤ n → list_all f xs ≡ true
  many no_more le = refl
  many (one_more {x = x} {i = i} {j = j} h rest) le = and_from _ _ (fit x i j h (omega (arith, advance.many item rest))) (many rest le)

  one_or_more : {xs : List T} {i j : ℕ} → OneOrMore Item xs i j → j ≤ n → list_all f xs ≡ true
  one_or_more (only {x = x} {i = i} {j = j} h) le = and_from _ _ (fit x i j h le) refl
  one_or_more (and_then {x = x} {i = i} {j = j} h rest) le = and_from _ _ (fit x i j h (omega (arith, advance.one_or_more item rest))) (one_or_more rest le)

  separated : {Separator : ℕ → ℕ → Type 0} → ((i j : ℕ) → Separator i j → i < j) → {xs : List T} {i j : ℕ} → Separated Separator Item xs i j → j ≤ n → list_all f xs ≡ true
  separated between (last_one {x = x} {i = i} {j = j} h) le = and_from _ _ (fit x i j h le) refl
  separated between (and_more {x = x} {i = i} {j = j} {k = k} h s rest) le =
      and_from _ _ (fit x i j h (omega (arith, between j k s, advance.separated item between rest))) (separated between rest le)

module _ (tokens : List Token) (q : Rule) (n : ℕ) (num : (i value : ℕ) → kind_at tokens i ≡ Some (kind.Number value) → q.number value ≡ true)
    (one : (i : ℕ) → i ≤ n → q.span (span_at tokens i) ≡ true) (cov : (i j : ℕ) → i < j → j ≤ n → q.span (cover tokens i j) ≡ true) where
  -- ---- constants and types

  name : (x : Span) (i j : ℕ) → IsName tokens x i j → j ≤ n → q.span x ≡ true
  name x i j h le = let there = one i (omega (arith, h.token.next)) in ap q.span h.place ∙ there

  label : (x : Label) (i j : ℕ) → constant.IsLabel tokens x i j → j ≤ n → each_label q x ≡ true
  label x i j (constant.label {value = value} h) le = and_from _ _ (num i value h.here) (one i (omega (arith, h.next)))

  constant_value : (x : ConstantValue) (i j : ℕ) → constant.IsConstantValue tokens x i j → j ≤ n → each_constant_value q x ≡ true
  constant_value x i j (constant.number {value = value} h) le = num i value h.here
  constant_value x i j (constant.named h) le = one i (omega (arith, h.next))

  constant_of : (x : Constant) (i j : ℕ) → constant.IsConstant tokens x i j → j ≤ n → each_constant q x ≡ true
  constant_of x i j (constant.plain {value = v} h) le = and_from _ _ (constant_value v i j h le) (cov i j (advance.constant_value tokens v i j h) le)
  constant_of x i j (constant.signed {j = k} {value = v} s h) le =
      and_from _ _ (constant_value v k j h le) (cov i j (omega (arith, s.next, advance.constant_value tokens v k j h)) le)

  names : {xs : List Span} {i j : ℕ} → constant.IsNames tokens xs i j → j ≤ n → list_all q.span xs ≡ true
  names h le = separated n q.span (advance.name tokens) name (advance.token tokens _) h le

  labels : {xs : List Label} {i j : ℕ} → constant.IsLabels tokens xs i j → j ≤ n → list_all (each_label q) xs ≡ true
  labels h le = separated n (each_label q) (advance.label tokens) label (advance.token tokens _) h le

  constants : {xs : List Constant} {i j : ℕ} → constant.IsConstants tokens xs i j → j ≤ n → list_all (each_constant q) xs ≡ true
  constants h le = separated n (each_constant q) (advance.constant_of tokens) constant_of (advance.token tokens _) h le

  index : (x : TypeExpr) (i j : ℕ) → type_of.IsIndex tokens x i j → j ≤ n → each_type q x ≡ true
  index x i j (type_of.named h) le = layer.at_type_name (type_step q) (span_at tokens i) ∙ one i (omega (arith, h.next))
  index x i j (type_of.range {j = k} {k = l} {lo = lo} {hi = hi} a h b) le =
      layer.at_range (type_step q) lo hi (cover tokens i j)
      ∙ and_from _ _ (constant_of lo i k a (omega (arith, h.next, advance.constant_of tokens hi l j b)))
      (and_from _ _ (constant_of hi l j b le) (cov i j (omega (arith, advance.constant_of tokens lo i k a, h.next, advance.constant_of tokens hi l j b)) le))

  type_expr : {x : TypeExpr} {i j : ℕ} → type_of.IsType tokens x i j → j ≤ n → each_type q x ≡ true
  type_expr (type_of.simple {i = i} {j = j} {of_type = x} h) le = index x i j h le
  type_expr (type_of.array {i = i} {o = o} {indexes = indexes} {element = element} a b c d e f) le =
      layer.at_array (type_step q) indexes element (cover tokens i o)
      ∙ and_from _ _ (all_listed (each_type q) indexes (separated n (each_type q) (advance.index tokens) index (advance.token tokens _) c (omega (arith, d.next, e.next, advance.type_expr tokens f))))
      (and_from _ _ (type_expr f le) (cov i o (omega (arith, a.next, b.next, advance.separated (advance.index tokens) (advance.token tokens _) c, d.next, e.next, advance.type_expr tokens f)) le))

  -- ---- expressions

  mutual
    of_expr : {x : Expr} {i j : ℕ} → expr.IsExpr tokens x i j → j ≤ n → each_expr q x ≡ true
    of_expr (expr.uncompared h) le = of_simple h le
    of_expr (expr.compared {i = i} {j = j} {l = l} {x = x} {y = y} {op = op} a o b) le =
        layer.at_binary (value_step q) (expr_step q) (access_step q) actual_step op x y (span_at tokens j) (cover tokens i l)
        ∙ and_from _ _ (of_simple a (omega (arith, o.next, advance.of_simple tokens b))) (and_from _ _ (one j (omega (arith, o.next, advance.of_simple tokens b)))
        (and_from _ _ (of_simple b le) (cov i l (omega (arith, advance.of_simple tokens a, o.next, advance.of_simple tokens b)) le)))

    of_simple : {x : Expr} {i j : ℕ} → expr.IsSimple tokens x i j → j ≤ n → each_expr q x ≡ true
    of_simple (expr.unsigned h) le = of_term h le
    of_simple (expr.signed {i = i} {k = k} {x = x} {before = before} s h) le =
        layer.at_signed (value_step q) (expr_step q) (access_step q) actual_step before x (cover tokens i k)
        ∙ and_from _ _ (of_term h le) (cov i k (omega (arith, s.next, advance.of_term tokens h)) le)
    of_simple (expr.added {i = i} {j = j} {l = l} {x = x} {y = y} {op = op} a o b) le =
        layer.at_binary (value_step q) (expr_step q) (access_step q) actual_step op x y (span_at tokens j) (cover tokens i l)
        ∙ and_from _ _ (of_simple a (omega (arith, o.next, advance.of_term tokens b))) (and_from _ _ (one j (omega (arith, o.next, advance.of_term tokens b)))
        (and_from _ _ (of_term b le) (cov i l (omega (arith, advance.of_simple tokens a, o.next, advance.of_term tokens b)) le)))

    of_term : {x : Expr} {i j : ℕ} → expr.IsTerm tokens x i j → j ≤ n → each_expr q x ≡ true
    of_term (expr.alone h) le = of_factor h le
    of_term (expr.multiplied {i = i} {j = j} {l = l} {x = x} {y = y} {op = op} a o b) le =
        layer.at_binary (value_step q) (expr_step q) (access_step q) actual_step op x y (span_at tokens j) (cover tokens i l)
        ∙ and_from _ _ (of_term a (omega (arith, o.next, advance.of_factor tokens b))) (and_from _ _ (one j (omega (arith, o.next, advance.of_factor tokens b)))
        (and_from _ _ (of_factor b le) (cov i l (omega (arith, advance.of_term tokens a, o.next, advance.of_factor tokens b)) le)))

    of_factor : {x : Expr} {i j : ℕ} → expr.IsFactor tokens x i j → j ≤ n → each_expr q x ≡ true
    of_factor (expr.number {i = i} {value = value} h) le =
        layer.at_number (value_step q) (expr_step q) (access_step q) actual_step value (span_at tokens i) ∙ and_from _ _ (num i value h.here) (one i (omega (arith, h.next)))
    of_factor (expr.parenthesized {i = i} {l = l} {x = x} o h c) le =
        layer.at_paren (value_step q) (expr_step q) (access_step q) actual_step x (cover tokens i l)
        ∙ and_from _ _ (of_expr h (omega (arith, c.next))) (cov i l (omega (arith, o.next, advance.of_expr tokens h, c.next)) le)
    of_factor (expr.negated {i = i} {k = k} {x = x} w h) le =
        layer.at_not (value_step q) (expr_step q) (access_step q) actual_step x (cover tokens i k)
        ∙ and_from _ _ (of_factor h le) (cov i k (omega (arith, w.next, advance.of_factor tokens h)) le)
    of_factor (expr.named {i = i} {k = k} {actuals = actuals} m h) le =
        layer.at_name (value_step q) (expr_step q) (access_step q) actual_step (span_at tokens i) actuals (cover tokens i k)
        ∙ and_from _ _ (one i (omega (arith, m.next, advance.of_arguments tokens h))) (and_from _ _ (of_arguments h le) (cov i k (omega (arith, m.next, advance.of_arguments tokens h)) le))
    of_factor (expr.indexed {i = i} {j = j} {to = to} h o) le =
        layer.at_indexed (value_step q) (expr_step q) (access_step q) actual_step to (cover tokens i j) ∙ and_from _ _ (of_access h le) (cov i j (advance.of_access tokens h) le)

    of_access : {x : Access} {i j : ℕ} → expr.IsAccess tokens x i j → j ≤ n → each_access q x ≡ true
    of_access (expr.access {i = i} {k = k} {xs = xs} m h) le =
        layer.at_access (value_step q) (expr_step q) (access_step q) actual_step (span_at tokens i) xs (cover tokens i k)
        ∙ and_from _ _ (one i (omega (arith, m.next, advance.of_subscripts tokens h))) (and_from _ _ (of_subscripts h le) (cov i k (omega (arith, m.next, advance.of_subscripts tokens h)) le))

    of_subscripts : {xs : List Expr} {i j : ℕ} → expr.IsSubscripts tokens xs i j → j ≤ n → all_true (map (each_expr q) xs) ≡ true
    of_subscripts expr.no_subscript le = refl
    of_subscripts (expr.subscripts {xs = xs} {ys = ys} o h c rest) le =
        all_both (each_expr q) xs ys (of_exprs h (omega (arith, c.next, advance.of_subscripts tokens rest))) (of_subscripts rest le)

    of_exprs : {xs : List Expr} {i j : ℕ} → expr.IsExprs tokens xs i j → j ≤ n → all_true (map (each_expr q) xs) ≡ true
    of_exprs (expr.one_expr h) le = and_from _ _ (of_expr h le) refl
    of_exprs (expr.more_exprs h c rest) le = and_from _ _ (of_expr h (omega (arith, c.next, advance.of_exprs tokens rest))) (of_exprs rest le)

    of_arguments : {xs : List Actual} {i j : ℕ} → expr.IsArguments tokens xs i j → j ≤ n → all_true (map (each_actual q) xs) ≡ true
    of_arguments expr.no_argument le = refl
    of_arguments (expr.arguments o h c) le = of_actuals h (omega (arith, c.next))

    of_actuals : {xs : List Actual} {i j : ℕ} → expr.IsActuals tokens xs i j → j ≤ n → all_true (map (each_actual q) xs) ≡ true
    of_actuals (expr.one_actual h) le = and_from _ _ (of_actual h le) refl
    of_actuals (expr.more_actuals h c rest) le = and_from _ _ (of_actual h (omega (arith, c.next, advance.of_actuals tokens rest))) (of_actuals rest le)

    of_actual : {x : Actual} {i j : ℕ} → expr.IsActual tokens x i j → j ≤ n → each_actual q x ≡ true
    of_actual (expr.narrow {value = v} h) le = layer.at_actual (value_step q) (expr_step q) (access_step q) actual_step v None ∙ and_from _ _ (of_value h le) refl
    of_actual (expr.wide {value = v} {x = x} h c w) le =
        layer.at_actual (value_step q) (expr_step q) (access_step q) actual_step v (Some x)
        ∙ and_from _ _ (of_value h (omega (arith, c.next, advance.of_expr tokens w))) (of_expr w le)

    of_value : {x : ActualValue} {i j : ℕ} → expr.IsActualValue tokens x i j → j ≤ n → each_value q x ≡ true
    of_value (expr.value {x = x} h) le = layer.at_value (value_step q) (expr_step q) (access_step q) actual_step x ∙ of_expr h le
    of_value (expr.string {i = i} h) le = layer.at_text (value_step q) (expr_step q) (access_step q) actual_step (span_at tokens i) ∙ one i (omega (arith, h.next))

  -- ---- statements

  label_part : {x : Option Label} {i j : ℕ} → statement.IsLabelPart tokens x i j → j ≤ n → true_if_some (option_map (each_label q) x) ≡ true
  label_part statement.unlabelled le = refl
  label_part (statement.labelled {i = i} {j = j} {label = x} h c) le = label x i j h (omega (arith, c.next))

  assertion : (x : Assertion) (i j : ℕ) → statement.IsAssertion tokens x i j → j ≤ n → each_assertion q x ≡ true
  assertion x i j (statement.always o h c) le = and_from _ _ (of_expr h (omega (arith, c.next))) (cov i j (omega (arith, o.next, advance.of_expr tokens h, c.next)) le)
  assertion x i j (statement.sometime o h a c) le =
      and_from _ _ (of_expr h (omega (arith, a.next, c.next))) (cov i j (omega (arith, o.next, advance.of_expr tokens h, a.next, c.next)) le)

  mutual
    of_statement : {x : Statement} {i j : ℕ} → statement.IsStatement tokens x i j → j ≤ n → each_statement q x ≡ true
    of_statement (statement.statement {k = k} {label = label} {asserts = asserts} {body = body} a b c) le =
        layer.at_statement (body_step q) (element_step q) (statement_step q) label asserts body (span_at tokens k)
        ∙ and_from _ _ (label_part a (omega (arith, advance.many (advance.assertion tokens) b, advance.of_body tokens c)))
        (and_from _ _ (many n (each_assertion q) (advance.assertion tokens) assertion b (omega (arith, advance.of_body tokens c)))
        (and_from _ _ (of_body c le) (one k (omega (arith, advance.of_body tokens c)))))

    of_body : {x : Body} {i j : ℕ} → statement.IsBody tokens x i j → j ≤ n → each_body q x ≡ true
    of_body statement.empty le = layer.at_empty (body_step q) (element_step q) (statement_step q)
    of_body (statement.call {i = i} {actuals = actuals} m h) le =
        layer.at_call (body_step q) (element_step q) (statement_step q) (span_at tokens i) actuals ∙ and_from _ _ (one i (omega (arith, m.next, advance.of_arguments tokens h))) (of_arguments h le)
    of_body (statement.assign {target = target} {x = x} a o b) le =
        layer.at_assign (body_step q) (element_step q) (statement_step q) target x ∙ and_from _ _ (of_access a (omega (arith, o.next, advance.of_expr tokens b))) (of_expr b le)
    of_body (statement.goto {j = j} {k = k} {label = x} w h) le = layer.at_goto (body_step q) (element_step q) (statement_step q) x ∙ label x j k h le
    of_body (statement.compound {body = body} w h e) le = layer.at_begin (body_step q) (element_step q) (statement_step q) body ∙ of_sequence h (omega (arith, e.next))
    of_body (statement.if_then {cond = cond} {chosen = chosen} w c t h free) le =
        layer.at_if (body_step q) (element_step q) (statement_step q) cond chosen None
        ∙ and_from _ _ (of_expr c (omega (arith, t.next, advance.of_statement tokens h))) (and_from _ _ (of_statement h le) refl)
    of_body (statement.if_else {cond = cond} {chosen = chosen} {other = other} w c t h e g) le =
        layer.at_if (body_step q) (element_step q) (statement_step q) cond chosen (Some other)
        ∙ and_from _ _ (of_expr c (omega (arith, t.next, advance.of_statement tokens h, e.next, advance.of_statement tokens g)))
        (and_from _ _ (of_statement h (omega (arith, e.next, advance.of_statement tokens g))) (of_statement g le))
    of_body (statement.case {of = of} {arms = arms} w c o h l e) le =
        layer.at_case (body_step q) (element_step q) (statement_step q) of arms
        ∙ and_from _ _ (of_expr c (omega (arith, o.next, advance.of_elements tokens h, advance.last_semicolon tokens l, e.next))) (of_elements h (omega (arith, advance.last_semicolon tokens l, e.next)))
    of_body (statement.while {cond = cond} {body = body} w c d h) le =
        layer.at_while (body_step q) (element_step q) (statement_step q) cond body
        ∙ and_from _ _ (of_expr c (omega (arith, d.next, advance.of_statement tokens h))) (of_statement h le)
    of_body (statement.repeat {k = k} {body = body} {cond = cond} w h u c) le =
        layer.at_repeat (body_step q) (element_step q) (statement_step q) body (span_at tokens k) cond
        ∙ and_from _ _ (of_sequence h (omega (arith, u.next, advance.of_expr tokens c))) (and_from _ _ (one k (omega (arith, u.next, advance.of_expr tokens c))) (of_expr c le))
    of_body (statement.for {j = j} {first = first} {last = last} {down = down} {body = body} w m a f d l o h) le =
        layer.at_for (body_step q) (element_step q) (statement_step q) (span_at tokens j) first down last body
        ∙ and_from _ _ (one j (omega (arith, m.next, a.next, advance.of_expr tokens f, advance.direction tokens d, advance.of_expr tokens l, o.next, advance.of_statement tokens h)))
        (and_from _ _ (of_expr f (omega (arith, advance.direction tokens d, advance.of_expr tokens l, o.next, advance.of_statement tokens h)))
        (and_from _ _ (of_expr l (omega (arith, o.next, advance.of_statement tokens h))) (of_statement h le)))

    of_sequence : {xs : List Statement} {i j : ℕ} → statement.IsSequence tokens xs i j → j ≤ n → all_true (map (each_statement q) xs) ≡ true
    of_sequence (statement.one_statement h) le = and_from _ _ (of_statement h le) refl
    of_sequence (statement.more_statements h c rest) le = and_from _ _ (of_statement h (omega (arith, c.next, advance.of_sequence tokens rest))) (of_sequence rest le)

    of_elements : {xs : List Element} {i j : ℕ} → statement.IsElements tokens xs i j → j ≤ n → all_true (map (each_element q) xs) ≡ true
    of_elements (statement.one_element h) le = and_from _ _ (of_element h le) refl
    of_elements (statement.more_elements h c rest) le = and_from _ _ (of_element h (omega (arith, c.next, advance.of_elements tokens rest))) (of_elements rest le)

    of_element : {x : Element} {i j : ℕ} → statement.IsElement tokens x i j → j ≤ n → each_element q x ≡ true
    of_element (statement.element {consts = consts} {body = body} cs c h) le =
        layer.at_element (body_step q) (element_step q) (statement_step q) consts body
        ∙ and_from _ _ (constants cs (omega (arith, c.next, advance.of_statement tokens h))) (of_statement h le)

  -- ---- blocks

  label_list : {xs : List Label} {i j : ℕ} → block.IsLabelPart tokens xs i j → j ≤ n → list_all (each_label q) xs ≡ true
  label_list block.no_labels le = refl
  label_list (block.labels w h c) le = labels h (omega (arith, c.next))

  part : {T : Type 0} {Item : T → ℕ → ℕ → Type 0} {word : Word} (f : T → Bool) → ((x : T) (i j : ℕ) → Item x i j → i < j) → ((x : T) (i j : ℕ) → Item x i j → j ≤ n → f x ≡ true) →
      {xs : List T} {i j : ℕ} → block.IsPart tokens word Item xs i j → j ≤ n → list_all f xs ≡ true
  part f item fit block.no_part le = refl
  part f item fit (block.part w h) le = one_or_more n f item fit h le

  const_decl : (x : ConstDecl) (i j : ℕ) → block.IsConstDecl tokens x i j → j ≤ n → each_const_decl q x ≡ true
  const_decl x i j (block.const_decl {k = k} {l = l} {value = v} m e h s) le =
      and_from _ _ (one i (omega (arith, m.next, e.next, advance.constant_of tokens v k l h, s.next))) (constant_of v k l h (omega (arith, s.next)))

  type_decl : (x : TypeDecl) (i j : ℕ) → block.IsTypeDecl tokens x i j → j ≤ n → each_type_decl q x ≡ true
  type_decl x i j (block.type_decl m e h s) le = and_from _ _ (one i (omega (arith, m.next, e.next, advance.type_expr tokens h, s.next))) (type_expr h (omega (arith, s.next)))

  var_decl : (x : VarDecl) (i j : ℕ) → block.IsVarDecl tokens x i j → j ≤ n → each_var_decl q x ≡ true
  var_decl x i j (block.var_decl m c h s) le = and_from _ _ (names m (omega (arith, c.next, advance.type_expr tokens h, s.next))) (type_expr h (omega (arith, s.next)))

  section : (x : Section) (i j : ℕ) → block.IsSection tokens x i j → j ≤ n → each_section q x ≡ true
  section x i j (block.section {l = l} m h c t) le = and_from _ _ (names h (omega (arith, c.next, t.next))) (one l (omega (arith, t.next)))

  formals : {xs : List Section} {i j : ℕ} → block.IsFormals tokens xs i j → j ≤ n → list_all (each_section q) xs ≡ true
  formals block.no_formals le = refl
  formals (block.formals o h c) le = separated n (each_section q) (advance.section tokens) section (advance.token tokens _) h (omega (arith, c.next))

  result : {f : Bool} {x : Option Span} {i j : ℕ} → block.IsResult tokens f x i j → j ≤ n → true_if_some (option_map q.span x) ≡ true
  result block.no_result le = refl
  result (block.result {j = j} c m) le = one j (omega (arith, m.next))

  mutual
    of_block : {x : Block} {i j : ℕ} → block.IsBlock tokens x i j → j ≤ n → each_block q x ≡ true
    of_block (block.block {j = j} {k = k} {l = l} {m = m} {n = at} {o = o} {p = p} {q = last} {labels = labels} {consts = consts} {types = types} {vars = vars} {routines = routines} {body = body} a b c d e w h f) le =
        let to_sequence : p ≤ n = omega (arith, f.next) in
        let to_begin : at ≤ n = omega (arith, w.next, advance.of_sequence tokens h, to_sequence) in
        let to_vars : m ≤ n = omega (arith, advance.of_routines tokens e, to_begin) in
        let to_types : l ≤ n = omega (arith, advance.part tokens (advance.var_decl tokens) d, to_vars) in
        let to_consts : k ≤ n = omega (arith, advance.part tokens (advance.type_decl tokens) c, to_types) in
        let to_labels : j ≤ n = omega (arith, advance.part tokens (advance.const_decl tokens) b, to_consts) in
        layer.at_block (routine_body_step q) (block_step q) (routine_step q) labels consts types vars routines (span_at tokens at) body (span_at tokens p)
        ∙ and_from _ _ (label_list a to_labels)
        (and_from _ _ (part (each_const_decl q) (advance.const_decl tokens) const_decl b to_consts)
        (and_from _ _ (part (each_type_decl q) (advance.type_decl tokens) type_decl c to_types)
        (and_from _ _ (part (each_var_decl q) (advance.var_decl tokens) var_decl d to_vars)
        (and_from _ _ (of_routines e to_begin)
        (and_from _ _ (one at to_begin)
        (and_from _ _ (listed_all (each_statement q) body (of_sequence h to_sequence)) (one p to_sequence)))))))

    of_routines : {xs : List Routine} {i j : ℕ} → block.IsRoutines tokens xs i j → j ≤ n → all_true (map (each_routine q) xs) ≡ true
    of_routines block.no_routine le = refl
    of_routines (block.routines h rest) le = and_from _ _ (of_routine h (omega (arith, advance.of_routines tokens rest))) (of_routines rest le)

    of_routine : {x : Routine} {i j : ℕ} → block.IsRoutine tokens x i j → j ≤ n → each_routine q x ≡ true
    of_routine (block.routine {j = j} {function = function} {formals = sections} {result = found} {body = body} w m a r s h t) le =
        layer.at_routine (routine_body_step q) (block_step q) (routine_step q) (span_at tokens j) function sections found body
        ∙ and_from _ _ (one j (omega (arith, m.next, advance.formals tokens a, advance.result tokens r, s.next, advance.of_routine_body tokens h, t.next)))
        (and_from _ _ (formals a (omega (arith, advance.result tokens r, s.next, advance.of_routine_body tokens h, t.next)))
        (and_from _ _ (result r (omega (arith, s.next, advance.of_routine_body tokens h, t.next))) (of_routine_body h (omega (arith, t.next)))))

    of_routine_body : {x : RoutineBody} {i j : ℕ} → block.IsRoutineBody tokens x i j → j ≤ n → each_routine_body q x ≡ true
    of_routine_body (block.word {i = i} h) le = layer.at_word (routine_body_step q) (block_step q) (routine_step q) (span_at tokens i) ∙ one i (omega (arith, h.next))
    of_routine_body (block.inner {block = inner} h) le = layer.at_inner (routine_body_step q) (block_step q) (routine_step q) inner ∙ of_block h le

  pub in_program : {x : Tree} {i j : ℕ} → program.IsProgramFrom tokens x i j → j ≤ n + 1 → each_tree q x ≡ true
  in_program (program.program {j = j} w m a s h d) le =
      and_from _ _ (one j (omega (arith, m.next, advance.parameters tokens a, s.next, advance.of_block tokens h, d.next))) (of_block h (omega (arith, d.next)))
