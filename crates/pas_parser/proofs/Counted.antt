-- A tree has at most two parts a token.
use Rattle.std.proofs.Common.{◌≡◌, ℕ, ◌+◌, ◌*◌, ◌≤◌, List, [], ◌∷◌, ◌++◌, map, Some, None, arith}
use Rattle.std.proofs.lemmas.List.Sums.{sum_by-append}
use Rattle.std.specs.List.{sum}
use Rattle.pas_lexer.specs.declared.token.Token.{Token}
use Rattle.pas_tree.specs.declared.block.Block.{Block}
use Rattle.pas_tree.specs.declared.block.Routine.{Routine}
use Rattle.pas_tree.specs.declared.block.RoutineBody.{RoutineBody}
use Rattle.pas_tree.specs.declared.block.Tree.{Tree}
use Rattle.pas_tree.specs.declared.expr.Access.{Access}
use Rattle.pas_tree.specs.declared.expr.Actual.{Actual}
use Rattle.pas_tree.specs.declared.expr.ActualValue.{ActualValue}
use Rattle.pas_tree.specs.declared.expr.Expr.{Expr}
use Rattle.pas_tree.specs.declared.statement.Assertion.{Assertion}
use Rattle.pas_tree.specs.declared.statement.Body.{Body}
use Rattle.pas_tree.specs.declared.statement.Element.{Element}
use Rattle.pas_tree.specs.declared.statement.Statement.{Statement}
use Rattle.pas_parser.specs.Look.{span_at, cover}
use Rattle.pas_parser.specs.Parts.{value_step, expr_step, access_step, actual_step, value_parts, expr_parts, access_parts, actual_parts, assertion_parts, body_step, element_step, statement_step, statement_parts, body_parts, element_parts, routine_body_step, block_step, routine_step, block_parts, routine_parts, routine_body_parts, tree_parts}
use Rattle.pas_parser.specs.Grammar.Word.{Many, no_more, one_more}
use Rattle.pas_parser.specs.Grammar.Block as block
use Rattle.pas_parser.specs.Grammar.Expr as expr
use Rattle.pas_parser.specs.Grammar.Program as program
use Rattle.pas_parser.specs.Grammar.Statement as statement
use Rattle.pas_parser.proofs.Advance as advance
use Rattle.pas_parser.proofs.Layers as layer

sum_cons : (n : ℕ) (ns : List ℕ) → sum (n ∷ ns) ≡ n + sum ns
sum_cons n ns = omega (arith, sum_by-append (λ m. m) (n ∷ []) ns)

sum_of : {T : Type 0} (f : T → ℕ) (x : T) (xs : List T) → sum (map f (x ∷ xs)) ≡ f x + sum (map f xs)
sum_of f x xs = sum_cons (f x) (map f xs)

sum_both : {T : Type 0} (f : T → ℕ) (xs ys : List T) → sum (map f (xs ++ ys)) ≡ sum (map f xs) + sum (map f ys)
sum_both f [] ys = omega arith
sum_both f (x ∷ xs) ys = omega (arith, sum_of f x (xs ++ ys), sum_of f x xs, sum_both f xs ys)

module _ (tokens : List Token) where
  mutual
    pub in_expr : {x : Expr} {i j : ℕ} → expr.IsExpr tokens x i j → expr_parts x + i ≤ j
    in_expr (expr.uncompared h) = in_simple h
    in_expr (expr.compared {i = i} {j = j} {l = l} {x = x} {y = y} {op = op} a o b) =
        omega (arith, layer.at_binary value_step expr_step access_step actual_step op x y (span_at tokens j) (cover tokens i l), in_simple a, o.next, in_simple b)

    in_simple : {x : Expr} {i j : ℕ} → expr.IsSimple tokens x i j → expr_parts x + i ≤ j
    in_simple (expr.unsigned h) = in_term h
    in_simple (expr.signed {i = i} {k = k} {x = x} {before = before} s h) = omega (arith, layer.at_signed value_step expr_step access_step actual_step before x (cover tokens i k), s.next, in_term h)
    in_simple (expr.added {i = i} {j = j} {l = l} {x = x} {y = y} {op = op} a o b) =
        omega (arith, layer.at_binary value_step expr_step access_step actual_step op x y (span_at tokens j) (cover tokens i l), in_simple a, o.next, in_term b)

    in_term : {x : Expr} {i j : ℕ} → expr.IsTerm tokens x i j → expr_parts x + i ≤ j
    in_term (expr.alone h) = in_factor h
    in_term (expr.multiplied {i = i} {j = j} {l = l} {x = x} {y = y} {op = op} a o b) =
        omega (arith, layer.at_binary value_step expr_step access_step actual_step op x y (span_at tokens j) (cover tokens i l), in_term a, o.next, in_factor b)

    in_factor : {x : Expr} {i j : ℕ} → expr.IsFactor tokens x i j → expr_parts x + i ≤ j
    in_factor (expr.number {i = i} {value = value} h) = omega (arith, layer.at_number value_step expr_step access_step actual_step value (span_at tokens i), h.next)
    in_factor (expr.parenthesized {i = i} {l = l} {x = x} o h c) = omega (arith, layer.at_paren value_step expr_step access_step actual_step x (cover tokens i l), o.next, in_expr h, c.next)
    in_factor (expr.negated {i = i} {k = k} {x = x} w h) = omega (arith, layer.at_not value_step expr_step access_step actual_step x (cover tokens i k), w.next, in_factor h)
    in_factor (expr.named {i = i} {k = k} {actuals = actuals} n h) =
        omega (arith, layer.at_name value_step expr_step access_step actual_step (span_at tokens i) actuals (cover tokens i k), n.next, in_arguments h)
    in_factor (expr.indexed {i = i} {j = j} {to = to} h o) = omega (arith, layer.at_indexed value_step expr_step access_step actual_step to (cover tokens i j), in_access h)

    pub in_access : {x : Access} {i j : ℕ} → expr.IsAccess tokens x i j → access_parts x + i + 1 ≤ j
    in_access (expr.access {i = i} {k = k} {xs = xs} n h) = omega (arith, layer.at_access value_step expr_step access_step actual_step (span_at tokens i) xs (cover tokens i k), n.next, in_subscripts h)

    in_subscripts : {xs : List Expr} {i j : ℕ} → expr.IsSubscripts tokens xs i j → sum (map expr_parts xs) + i ≤ j
    in_subscripts expr.no_subscript = omega arith
    in_subscripts (expr.subscripts {xs = xs} {ys = ys} o h c rest) = omega (arith, sum_both expr_parts xs ys, o.next, in_exprs h, c.next, in_subscripts rest)

    in_exprs : {xs : List Expr} {i j : ℕ} → expr.IsExprs tokens xs i j → sum (map expr_parts xs) + i ≤ j
    in_exprs (expr.one_expr {x = x} h) = omega (arith, sum_of expr_parts x [], in_expr h)
    in_exprs (expr.more_exprs {x = x} {xs = xs} h c rest) = omega (arith, sum_of expr_parts x xs, in_expr h, c.next, in_exprs rest)

    pub in_arguments : {xs : List Actual} {i j : ℕ} → expr.IsArguments tokens xs i j → sum (map actual_parts xs) + i ≤ j
    in_arguments expr.no_argument = omega arith
    in_arguments (expr.arguments o h c) = omega (arith, o.next, in_actuals h, c.next)

    in_actuals : {xs : List Actual} {i j : ℕ} → expr.IsActuals tokens xs i j → sum (map actual_parts xs) + i ≤ j + 1
    in_actuals (expr.one_actual {x = x} h) = omega (arith, sum_of actual_parts x [], in_actual h)
    in_actuals (expr.more_actuals {x = x} {xs = xs} h c rest) = omega (arith, sum_of actual_parts x xs, in_actual h, c.next, in_actuals rest)

    in_actual : {x : Actual} {i j : ℕ} → expr.IsActual tokens x i j → actual_parts x + i ≤ j + 1
    in_actual (expr.narrow {value = v} h) = omega (arith, layer.at_actual value_step expr_step access_step actual_step v None, in_value h)
    in_actual (expr.wide {value = v} {x = x} h c w) = omega (arith, layer.at_actual value_step expr_step access_step actual_step v (Some x), in_value h, c.next, in_expr w)

    in_value : {x : ActualValue} {i j : ℕ} → expr.IsActualValue tokens x i j → value_parts x + i ≤ j
    in_value (expr.value {x = x} h) = omega (arith, layer.at_value value_step expr_step access_step actual_step x, in_expr h)
    in_value (expr.string {i = i} h) = omega (arith, layer.at_text value_step expr_step access_step actual_step (span_at tokens i), h.next)

  in_assertion : (x : Assertion) (i j : ℕ) → statement.IsAssertion tokens x i j → assertion_parts x + i ≤ j
  in_assertion x i j (statement.always o h c) = omega (arith, o.next, in_expr h, c.next)
  in_assertion x i j (statement.sometime o h q c) = omega (arith, o.next, in_expr h, q.next, c.next)

  in_assertions : {xs : List Assertion} {i j : ℕ} → Many (statement.IsAssertion tokens) xs i j → sum (map assertion_parts xs) + i ≤ j
  in_assertions no_more = omega arith
  in_assertions (one_more {x = x} {xs = xs} {i = i} {j = j} h rest) = omega (arith, sum_of assertion_parts x xs, in_assertion x i j h, in_assertions rest)

  mutual
    pub in_statement : {x : Statement} {i j : ℕ} → statement.IsStatement tokens x i j → statement_parts x + 2 * i ≤ 2 * j + 1
    in_statement (statement.statement {k = k} {label = label} {asserts = asserts} {body = body} a b c) =
        omega (arith, layer.at_statement body_step element_step statement_step label asserts body (span_at tokens k), advance.label_part tokens a, in_assertions b, in_body c)

    in_body : {x : Body} {i j : ℕ} → statement.IsBody tokens x i j → body_parts x + 2 * i ≤ 2 * j
    in_body statement.empty = omega (arith, layer.at_empty body_step element_step statement_step)
    in_body (statement.call {i = i} {actuals = actuals} n h) = omega (arith, layer.at_call body_step element_step statement_step (span_at tokens i) actuals, n.next, in_arguments h)
    in_body (statement.assign {target = target} {x = x} a o b) = omega (arith, layer.at_assign body_step element_step statement_step target x, in_access a, o.next, in_expr b)
    in_body (statement.goto {j = j} {k = k} {label = x} w h) = omega (arith, layer.at_goto body_step element_step statement_step x, w.next, advance.label tokens x j k h)
    in_body (statement.compound {body = body} w h e) = omega (arith, layer.at_begin body_step element_step statement_step body, w.next, in_sequence h, e.next)
    in_body (statement.if_then {cond = cond} {chosen = chosen} w c t h n) =
        omega (arith, layer.at_if body_step element_step statement_step cond chosen None, w.next, in_expr c, t.next, in_statement h)
    in_body (statement.if_else {cond = cond} {chosen = chosen} {other = other} w c t h e g) =
        omega (arith, layer.at_if body_step element_step statement_step cond chosen (Some other), w.next, in_expr c, t.next, in_statement h, e.next, in_statement g)
    in_body (statement.case {of = of} {arms = arms} w c o h l e) =
        omega (arith, layer.at_case body_step element_step statement_step of arms, w.next, in_expr c, o.next, in_elements h, advance.last_semicolon tokens l, e.next)
    in_body (statement.while {cond = cond} {body = body} w c d h) =
        omega (arith, layer.at_while body_step element_step statement_step cond body, w.next, in_expr c, d.next, in_statement h)
    in_body (statement.repeat {k = k} {body = body} {cond = cond} w h u c) =
        omega (arith, layer.at_repeat body_step element_step statement_step body (span_at tokens k) cond, w.next, in_sequence h, u.next, in_expr c)
    in_body (statement.for {j = j} {first = first} {last = last} {down = down} {body = body} w n a f d l o h) =
        omega (arith, layer.at_for body_step element_step statement_step (span_at tokens j) first down last body, w.next, n.next, a.next, in_expr f, advance.direction tokens d, in_expr l, o.next, in_statement h)

    in_sequence : {xs : List Statement} {i j : ℕ} → statement.IsSequence tokens xs i j → sum (map statement_parts xs) + 2 * i ≤ 2 * j + 1
    in_sequence (statement.one_statement {x = x} h) = omega (arith, sum_of statement_parts x [], in_statement h)
    in_sequence (statement.more_statements {x = x} {xs = xs} h c rest) = omega (arith, sum_of statement_parts x xs, in_statement h, c.next, in_sequence rest)

    in_elements : {xs : List Element} {i j : ℕ} → statement.IsElements tokens xs i j → sum (map element_parts xs) + 2 * i ≤ 2 * j
    in_elements (statement.one_element {x = x} h) = omega (arith, sum_of element_parts x [], in_element h)
    in_elements (statement.more_elements {x = x} {xs = xs} h c rest) = omega (arith, sum_of element_parts x xs, in_element h, c.next, in_elements rest)

    in_element : {x : Element} {i j : ℕ} → statement.IsElement tokens x i j → element_parts x + 2 * i ≤ 2 * j
    in_element (statement.element {consts = consts} {body = body} cs c h) =
        omega (arith, layer.at_element body_step element_step statement_step consts body, advance.constants tokens cs, c.next, in_statement h)

  pub in_body_of_block : {xs : List Statement} {i j : ℕ} → statement.IsSequence tokens xs i j → sum (map statement_parts xs) + 2 * i ≤ 2 * j + 1
  in_body_of_block h = in_sequence h

  mutual
    pub in_block : {x : Block} {i j : ℕ} → block.IsBlock tokens x i j → block_parts x + 2 * i ≤ 2 * j
    in_block (block.block {n = n} {p = p} {labels = labels} {consts = consts} {types = types} {vars = vars} {routines = routines} {body = body} a b c d e w h f) =
        omega (
          arith,
          layer.at_block routine_body_step block_step routine_step labels consts types vars routines (span_at tokens n) body (span_at tokens p),
          advance.label_list tokens a,
          advance.part tokens (advance.const_decl tokens) b,
          advance.part tokens (advance.type_decl tokens) c,
          advance.part tokens (advance.var_decl tokens) d,
          in_routines e,
          w.next,
          in_sequence h,
          f.next,
        )

    in_routines : {xs : List Routine} {i j : ℕ} → block.IsRoutines tokens xs i j → sum (map routine_parts xs) + 2 * i ≤ 2 * j
    in_routines block.no_routine = omega arith
    in_routines (block.routines {x = x} {xs = xs} h rest) = omega (arith, sum_of routine_parts x xs, in_routine h, in_routines rest)

    in_routine : {x : Routine} {i j : ℕ} → block.IsRoutine tokens x i j → routine_parts x + 2 * i ≤ 2 * j
    in_routine (block.routine {j = j} {function = function} {formals = formals} {result = result} {body = body} w n a r s h t) =
        omega (
          arith,
          layer.at_routine routine_body_step block_step routine_step (span_at tokens j) function formals result body,
          advance.routine_word tokens w,
          n.next,
          advance.formals tokens a,
          advance.result tokens r,
          s.next,
          in_routine_body h,
          t.next,
        )

    in_routine_body : {x : RoutineBody} {i j : ℕ} → block.IsRoutineBody tokens x i j → routine_body_parts x + 2 * i ≤ 2 * j
    in_routine_body (block.word {i = i} h) = omega (arith, layer.at_word routine_body_step block_step routine_step (span_at tokens i), h.next)
    in_routine_body (block.inner {block = inner} h) = omega (arith, layer.at_inner routine_body_step block_step routine_step inner, in_block h)

  pub in_program : {x : Tree} {i j : ℕ} → program.IsProgramFrom tokens x i j → tree_parts x + 2 * i ≤ 2 * j
  in_program (program.program w n a s h d) = omega (arith, w.next, n.next, advance.parameters tokens a, s.next, in_block h, d.next)
