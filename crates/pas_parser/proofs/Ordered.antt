-- The constructs of a tree begin in the order in which the grammar writes them.
use Rattle.std.proofs.Common.{◌≡◌, ℕ, ◌+◌, ◌<◌, ◌≤◌, Bool, List, [], ◌∷◌, ◌++◌, map, Option, Some, None, refl, ap, sym, subst, ◌∙◌, arith, append_assoc}
use Rattle.px_base.specs.declared.operator.BinOp.{BinOp}
use Rattle.px_base.specs.declared.place.Span.{Span}
use Rattle.pas_lexer.specs.declared.token.Token.{Token}
use Rattle.pas_lexer.specs.declared.word.Word.{Word}
use Rattle.pas_tree.specs.declared.block.Block.{Block}
use Rattle.pas_tree.specs.declared.block.ConstDecl.{ConstDecl}
use Rattle.pas_tree.specs.declared.block.Label.{Label}
use Rattle.pas_tree.specs.declared.block.Routine.{Routine}
use Rattle.pas_tree.specs.declared.block.RoutineBody.{RoutineBody}
use Rattle.pas_tree.specs.declared.block.Section.{Section}
use Rattle.pas_tree.specs.declared.block.Tree.{Tree}
use Rattle.pas_tree.specs.declared.block.TypeDecl.{TypeDecl}
use Rattle.pas_tree.specs.declared.block.VarDecl.{VarDecl}
use Rattle.pas_tree.specs.declared.constant.Constant.{Constant}
use Rattle.pas_tree.specs.declared.constant.ConstantValue.{ConstantValue}
use Rattle.pas_tree.specs.declared.constant.Sign.{Sign}
use Rattle.pas_tree.specs.declared.expr.Access.{Access}
use Rattle.pas_tree.specs.declared.expr.Actual.{Actual}
use Rattle.pas_tree.specs.declared.expr.ActualValue.{ActualValue}
use Rattle.pas_tree.specs.declared.expr.Expr.{Expr}
use Rattle.pas_tree.specs.declared.statement.Assertion.{Assertion}
use Rattle.pas_tree.specs.declared.statement.Body.{Body}
use Rattle.pas_tree.specs.declared.statement.Element.{Element}
use Rattle.pas_tree.specs.declared.statement.Statement.{Statement}
use Rattle.pas_tree.specs.declared.type_expr.TypeExpr.{TypeExpr}
use Rattle.pas_parser.specs.Look.{span_at, cover}
use Rattle.pas_tree.specs.Order.{Starts, Parts, joined, span_starts, value_step, expr_step, access_step, actual_step, value_starts, expr_starts, access_starts, actual_starts, label_starts, constant_starts, type_step, type_starts, assertion_starts, body_step, element_step, with_word, label_if_some, statement_step, statement_starts, body_starts, element_starts, const_decl_starts, type_decl_starts, var_decl_starts, section_starts, span_if_some, routine_body_step, block_step, routine_step, block_starts, routine_starts, routine_body_starts, tree_starts}
use Rattle.pas_parser.specs.Grammar.Word.{IsName, Many, no_more, one_more, OneOrMore, only, and_then, Separated, last_one, and_more}
use Rattle.pas_parser.specs.Grammar.Block as block
use Rattle.pas_parser.specs.Grammar.Constant as constant
use Rattle.pas_parser.specs.Grammar.Expr as expr
use Rattle.pas_parser.specs.Grammar.Program as program
use Rattle.pas_parser.specs.Grammar.Statement as statement
use Rattle.pas_parser.specs.Grammar.TypeExpr as type_of
use Rattle.pas_parser.proofs.Advance as advance
use Rattle.pas_parser.proofs.Layers as layer

module _ (tokens : List Token) where
  -- where a token starts
  abbrev pub start : ℕ → ℕ
  start i = (span_at tokens i).start

  -- the numbers are the starts of tokens from i up to j, each of a later token
  abbrev pub Placed : ℕ → ℕ → Starts → Type 0
  Placed i j [] = i ≤ j
  Placed i j (n ∷ ns) = (k : ℕ) × (i ≤ k) × (n ≡ start k) × Placed (k + 1) j ns

  place_wider : (h i j : ℕ) (ns : Starts) → h ≤ i → Placed i j ns → Placed h j ns
  place_wider h i j [] le p = omega (arith, le, p)
  place_wider h i j (n ∷ ns) le p = (p.0, omega (arith, le, p.1), p.2, p.3)

  place_longer : (i j k : ℕ) (ns : Starts) → j ≤ k → Placed i j ns → Placed i k ns
  place_longer i j k [] le p = omega (arith, le, p)
  place_longer i j k (n ∷ ns) le p = (p.0, p.1, p.2, place_longer (p.0 + 1) j k ns le p.3)

  pub place_goes_on : (i j : ℕ) (ns : Starts) → Placed i j ns → i ≤ j
  place_goes_on i j [] p = p
  place_goes_on i j (n ∷ ns) p = omega (arith, p.1, place_goes_on (p.0 + 1) j ns p.3)

  place_both : (i j k : ℕ) (ms ns : Starts) → Placed i j ms → Placed j k ns → Placed i k (ms ++ ns)
  place_both i j k [] ns p q = place_wider i j k ns p q
  place_both i j k (m ∷ ms) ns p q = (p.0, p.1, p.2, place_both (p.0 + 1) j k ms ns p.3 q)

  pub record Lies (i j : ℕ) (ns : Starts) : Type 0 where
    pub placed : Placed i j ns

  wider : (h i j : ℕ) (ns : Starts) → h ≤ i → Lies i j ns → Lies h j ns
  wider h i j ns le p = record { placed = place_wider h i j ns le p.placed }

  longer : (i j k : ℕ) (ns : Starts) → j ≤ k → Lies i j ns → Lies i k ns
  longer i j k ns le p = record { placed = place_longer i j k ns le p.placed }

  both : {i j k : ℕ} (ms ns : Starts) → Lies i j ms → Lies j k ns → Lies i k (ms ++ ns)
  both {i = i} {j = j} {k = k} ms ns p q = record { placed = place_both i j k ms ns p.placed q.placed }

  nothing : {i j : ℕ} → i ≤ j → Lies i j []
  nothing le = record { placed = le }

  -- one token, and then some
  next : {i j k : ℕ} (ns : Starts) → j ≡ i + 1 → Lies j k ns → Lies i k (start i ∷ ns)
  next {i = i} {j = j} {k = k} ns e p = record { placed = (i, omega arith, refl, place_wider (i + 1) j k ns (omega arith) p.placed) }

  -- a construct that begins with one token
  covered : {i j k : ℕ} (l : ℕ) (ns : Starts) → j ≡ i + 1 → Lies j k ns → Lies i k ((cover tokens i l).start ∷ ns)
  unfolding cover
  covered l ns e p = next ns e p

  only_one : {i j : ℕ} → i < j → Lies i j (start i ∷ [])
  only_one {i = i} {j = j} lt = record { placed = (i, omega arith, refl, omega arith) }

  from : {i j : ℕ} (ms ns : Starts) → ms ≡ ns → Lies i j ns → Lies i j ms
  from {i = i} {j = j} ms ns e p = let P : Starts → Type 0 = λ xs. Lies i j xs in subst P (sym e) p

  join_both : {T : Type 0} (f : T → Starts) (xs ys : List T) → joined (map f (xs ++ ys)) ≡ joined (map f xs) ++ joined (map f ys)
  join_both f [] ys = refl
  join_both f (x ∷ xs) ys = ap (λ ns. f x ++ ns) (join_both f xs ys) ∙ sym (append_assoc (f x) (joined (map f xs)) (joined (map f ys)))

  -- ---- lists

  module _ {T : Type 0} {Item : T → ℕ → ℕ → Type 0} (f : T → Starts) (item : (x : T) (i j : ℕ) → Item x i j → Lies i j (f x)) where
    many : {xs : List T} {i j : ℕ} → Many Item xs i j → Lies i j (joined (map f xs))
    many no_more = nothing (omega arith)
    many (one_more {x = x} {xs = xs} {i = i} {j = j} h rest) = both (f x) (joined (map f xs)) (item x i j h) (many rest)

    one_or_more : {xs : List T} {i j : ℕ} → OneOrMore Item xs i j → Lies i j (joined (map f xs))
    one_or_more (only {x = x} {i = i} {j = j} h) = both (f x) [] (item x i j h) (nothing (omega arith))
    one_or_more (and_then {x = x} {xs = xs} {i = i} {j = j} h rest) = both (f x) (joined (map f xs)) (item x i j h) (one_or_more rest)

    separated : {Separator : ℕ → ℕ → Type 0} → ((i j : ℕ) → Separator i j → i < j) → {xs : List T} {i j : ℕ} → Separated Separator Item xs i j → Lies i j (joined (map f xs))
    separated between (last_one {x = x} {i = i} {j = j} h) = both (f x) [] (item x i j h) (nothing (omega arith))
    separated between (and_more {x = x} {xs = xs} {i = i} {j = j} {k = k} {l = l} h s rest) =
        both (f x) (joined (map f xs)) (item x i j h) (wider j k l (joined (map f xs)) (omega (arith, between j k s)) (separated between rest))

  -- ---- constants and types

  name : (x : Span) (i j : ℕ) → IsName tokens x i j → Lies i j (span_starts x)
  name x i j h = record { placed = (i, omega arith, ap (λ (s : Span). s.start) h.place, omega (arith, h.token.next)) }

  label : (x : Label) (i j : ℕ) → constant.IsLabel tokens x i j → Lies i j (label_starts x)
  label x i j (constant.label h) = only_one (omega (arith, h.next))

  signed_value : (i : ℕ) (before : Sign) (x : ConstantValue) (j k : ℕ) → j ≡ i + 1 → constant.IsConstantValue tokens x j k → Lies i k (constant_starts (record { sign = Some before; value = x; span = cover tokens i k }))
  unfolding cover
  signed_value i before x j k e (constant.number h) = only_one (omega (arith, h.next))
  signed_value i before x j k e (constant.named h) = next (start j ∷ []) e (only_one (omega (arith, h.next)))

  constant_of : (x : Constant) (i j : ℕ) → constant.IsConstant tokens x i j → Lies i j (constant_starts x)
  unfolding cover
  constant_of x i j (constant.plain {value = v} h) = only_one (advance.constant_value tokens v i j h)
  constant_of x i j (constant.signed {j = k} {value = v} {before = before} s h) = signed_value i before v k j s.next h

  names : {xs : List Span} {i j : ℕ} → constant.IsNames tokens xs i j → Lies i j (joined (map span_starts xs))
  names h = separated span_starts name (advance.token tokens _) h

  labels : {xs : List Label} {i j : ℕ} → constant.IsLabels tokens xs i j → Lies i j (joined (map label_starts xs))
  labels h = separated label_starts label (advance.token tokens _) h

  constants : {xs : List Constant} {i j : ℕ} → constant.IsConstants tokens xs i j → Lies i j (joined (map constant_starts xs))
  constants h = separated constant_starts constant_of (advance.token tokens _) h

  index : (x : TypeExpr) (i j : ℕ) → type_of.IsIndex tokens x i j → Lies i j (type_starts x)
  index x i j (type_of.named h) = from _ (start i ∷ []) (layer.at_type_name type_step (span_at tokens i)) (only_one (omega (arith, h.next)))
  index x i j (type_of.range {j = k} {k = l} {lo = lo} {hi = hi} a h b) =
      from _ _ (layer.at_range type_step lo hi (cover tokens i j))
      (both (constant_starts lo) (constant_starts hi) (constant_of lo i k a) (wider k l j (constant_starts hi) (omega (arith, h.next)) (constant_of hi l j b)))

  type_expr : {x : TypeExpr} {i j : ℕ} → type_of.IsType tokens x i j → Lies i j (type_starts x)
  unfolding cover
  type_expr (type_of.simple {i = i} {j = j} {of_type = x} h) = index x i j h
  type_expr (type_of.array {i = i} {j = j} {k = k} {l = l} {n = n} {o = o} {indexes = indexes} {element = element} a b c d e f) =
      from _ _ (layer.at_array type_step indexes element (cover tokens i o))
      (next (joined (map type_starts indexes) ++ type_starts element) a.next
      (wider j k o (joined (map type_starts indexes) ++ type_starts element) (omega (arith, b.next))
      (both (joined (map type_starts indexes)) (type_starts element) (separated type_starts index (advance.token tokens _) c)
      (wider l n o (type_starts element) (omega (arith, d.next, e.next)) (type_expr f)))))

  -- ---- expressions

  binary : {i j k l : ℕ} (op : BinOp) (x y : Expr) → k ≡ j + 1 → Lies i j (expr_starts x) → Lies k l (expr_starts y) →
      Lies i l (expr_starts (Rattle.pas_tree.specs.declared.expr.Expr.TheVariants.Binary op x y (span_at tokens j) (cover tokens i l)))
  binary {i = i} {j = j} {l = l} op x y e p q =
      from _ _ (layer.at_binary value_step expr_step access_step actual_step op x y (span_at tokens j) (cover tokens i l))
      (both (expr_starts x) (start j ∷ expr_starts y) p (next (expr_starts y) e q))

  mutual
    of_expr : {x : Expr} {i j : ℕ} → expr.IsExpr tokens x i j → Lies i j (expr_starts x)
    of_expr (expr.uncompared h) = of_simple h
    of_expr (expr.compared {x = x} {y = y} {op = op} a o b) = binary op x y o.next (of_simple a) (of_simple b)

    of_simple : {x : Expr} {i j : ℕ} → expr.IsSimple tokens x i j → Lies i j (expr_starts x)
    of_simple (expr.unsigned h) = of_term h
    of_simple (expr.signed {i = i} {k = k} {x = x} {before = before} s h) =
        from _ _ (layer.at_signed value_step expr_step access_step actual_step before x (cover tokens i k)) (covered k (expr_starts x) s.next (of_term h))
    of_simple (expr.added {x = x} {y = y} {op = op} a o b) = binary op x y o.next (of_simple a) (of_term b)

    of_term : {x : Expr} {i j : ℕ} → expr.IsTerm tokens x i j → Lies i j (expr_starts x)
    of_term (expr.alone h) = of_factor h
    of_term (expr.multiplied {x = x} {y = y} {op = op} a o b) = binary op x y o.next (of_term a) (of_factor b)

    of_factor : {x : Expr} {i j : ℕ} → expr.IsFactor tokens x i j → Lies i j (expr_starts x)
    of_factor (expr.number {i = i} {value = value} h) =
        from _ (start i ∷ []) (layer.at_number value_step expr_step access_step actual_step value (span_at tokens i)) (only_one (omega (arith, h.next)))
    of_factor (expr.parenthesized {i = i} {j = j} {k = k} {l = l} {x = x} o h c) =
        from _ _ (layer.at_paren value_step expr_step access_step actual_step x (cover tokens i l))
        (covered l (expr_starts x) o.next (longer j k l (expr_starts x) (omega (arith, c.next)) (of_expr h)))
    of_factor (expr.negated {i = i} {k = k} {x = x} w h) =
        from _ _ (layer.at_not value_step expr_step access_step actual_step x (cover tokens i k)) (covered k (expr_starts x) w.next (of_factor h))
    of_factor (expr.named {i = i} {k = k} {actuals = actuals} m h) =
        from _ _ (layer.at_name value_step expr_step access_step actual_step (span_at tokens i) actuals (cover tokens i k)) (next (joined (map actual_starts actuals)) m.next (of_arguments h))
    of_factor (expr.indexed {i = i} {j = j} {to = to} h o) = from _ _ (layer.at_indexed value_step expr_step access_step actual_step to (cover tokens i j)) (of_access h)

    of_access : {x : Access} {i j : ℕ} → expr.IsAccess tokens x i j → Lies i j (access_starts x)
    of_access (expr.access {i = i} {k = k} {xs = xs} m h) =
        from _ _ (layer.at_access value_step expr_step access_step actual_step (span_at tokens i) xs (cover tokens i k)) (next (joined (map expr_starts xs)) m.next (of_subscripts h))

    of_subscripts : {xs : List Expr} {i j : ℕ} → expr.IsSubscripts tokens xs i j → Lies i j (joined (map expr_starts xs))
    of_subscripts expr.no_subscript = nothing (omega arith)
    of_subscripts (expr.subscripts {i = i} {j = j} {k = k} {l = l} {m = m} {xs = xs} {ys = ys} o h c rest) =
        from _ _ (join_both expr_starts xs ys)
        (both (joined (map expr_starts xs)) (joined (map expr_starts ys)) (wider i j k (joined (map expr_starts xs)) (omega (arith, o.next)) (of_exprs h))
        (wider k l m (joined (map expr_starts ys)) (omega (arith, c.next)) (of_subscripts rest)))

    of_exprs : {xs : List Expr} {i j : ℕ} → expr.IsExprs tokens xs i j → Lies i j (joined (map expr_starts xs))
    of_exprs (expr.one_expr {x = x} h) = both (expr_starts x) [] (of_expr h) (nothing (omega arith))
    of_exprs (expr.more_exprs {j = j} {k = k} {l = l} {x = x} {xs = xs} h c rest) =
        both (expr_starts x) (joined (map expr_starts xs)) (of_expr h) (wider j k l (joined (map expr_starts xs)) (omega (arith, c.next)) (of_exprs rest))

    of_arguments : {xs : List Actual} {i j : ℕ} → expr.IsArguments tokens xs i j → Lies i j (joined (map actual_starts xs))
    of_arguments expr.no_argument = nothing (omega arith)
    of_arguments (expr.arguments {i = i} {j = j} {k = k} {l = l} {actuals = actuals} o h c) =
        wider i j l (joined (map actual_starts actuals)) (omega (arith, o.next)) (longer j k l (joined (map actual_starts actuals)) (omega (arith, c.next)) (of_actuals h))

    of_actuals : {xs : List Actual} {i j : ℕ} → expr.IsActuals tokens xs i j → Lies i j (joined (map actual_starts xs))
    of_actuals (expr.one_actual {x = x} h) = both (actual_starts x) [] (of_actual h) (nothing (omega arith))
    of_actuals (expr.more_actuals {j = j} {k = k} {l = l} {x = x} {xs = xs} h c rest) =
        both (actual_starts x) (joined (map actual_starts xs)) (of_actual h) (wider j k l (joined (map actual_starts xs)) (omega (arith, c.next)) (of_actuals rest))

    of_actual : {x : Actual} {i j : ℕ} → expr.IsActual tokens x i j → Lies i j (actual_starts x)
    of_actual (expr.narrow {value = v} h) = from _ _ (layer.at_actual value_step expr_step access_step actual_step v None) (both (value_starts v) [] (of_value h) (nothing (omega arith)))
    of_actual (expr.wide {j = j} {k = k} {l = l} {value = v} {x = x} h c w) =
        from _ _ (layer.at_actual value_step expr_step access_step actual_step v (Some x))
        (both (value_starts v) (expr_starts x) (of_value h) (wider j k l (expr_starts x) (omega (arith, c.next)) (of_expr w)))

    of_value : {x : ActualValue} {i j : ℕ} → expr.IsActualValue tokens x i j → Lies i j (value_starts x)
    of_value (expr.value {x = x} h) = from _ _ (layer.at_value value_step expr_step access_step actual_step x) (of_expr h)
    of_value (expr.string {i = i} h) = from _ (start i ∷ []) (layer.at_text value_step expr_step access_step actual_step (span_at tokens i)) (only_one (omega (arith, h.next)))

  -- ---- statements

  label_part : {x : Option Label} {i j : ℕ} → statement.IsLabelPart tokens x i j → Lies i j (label_if_some x)
  label_part statement.unlabelled = nothing (omega arith)
  label_part (statement.labelled {i = i} {j = j} {k = k} {label = x} h c) = longer i j k (label_starts x) (omega (arith, c.next)) (label x i j h)

  assertion : (x : Assertion) (i j : ℕ) → statement.IsAssertion tokens x i j → Lies i j (assertion_starts x)
  unfolding cover
  assertion x i j (statement.always {j = k} {k = l} {cond = cond} o h c) = next (expr_starts cond) o.next (longer k l j (expr_starts cond) (omega (arith, c.next)) (of_expr h))
  assertion x i j (statement.sometime {j = k} {k = l} {cond = cond} o h q c) =
      next (expr_starts cond) o.next (longer k l j (expr_starts cond) (omega (arith, q.next, c.next)) (of_expr h))

  -- the parts of a body that begins at i, with the word that stands there
  abbrev Bodily : ℕ → ℕ → Parts → Type 0
  Bodily i j parts = Lies i j (with_word (span_at tokens i) parts)

  from_parts : {i j : ℕ} (ps qs : Parts) → ps ≡ qs → Bodily i j qs → Bodily i j ps
  from_parts {i = i} {j = j} ps qs e p = let P : Parts → Type 0 = λ x. Bodily i j x in subst P (sym e) p

  mutual
    of_statement : {x : Statement} {i j : ℕ} → statement.IsStatement tokens x i j → Lies i j (statement_starts x)
    of_statement (statement.statement {k = k} {label = first} {asserts = asserts} {body = body} a b c) =
        from _ _ (layer.at_statement body_step element_step statement_step first asserts body (span_at tokens k))
        (both (label_if_some first) (joined (map assertion_starts asserts) ++ with_word (span_at tokens k) (body_starts body)) (label_part a)
        (both (joined (map assertion_starts asserts)) (with_word (span_at tokens k) (body_starts body)) (many assertion_starts assertion b) (of_body c)))

    of_body : {x : Body} {i j : ℕ} → statement.IsBody tokens x i j → Bodily i j (body_starts x)
    of_body statement.empty = from_parts _ _ (layer.at_empty body_step element_step statement_step) (nothing (omega arith))
    of_body (statement.call {i = i} {actuals = actuals} m h) =
        from_parts _ _ (layer.at_call body_step element_step statement_step (span_at tokens i) actuals) (next (joined (map actual_starts actuals)) m.next (of_arguments h))
    of_body (statement.assign {j = j} {k = k} {l = l} {target = target} {x = x} a o b) =
        from_parts _ _ (layer.at_assign body_step element_step statement_step target x)
        (both (access_starts target) (expr_starts x) (of_access a) (wider j k l (expr_starts x) (omega (arith, o.next)) (of_expr b)))
    of_body (statement.goto {j = j} {k = k} {label = x} w h) = from_parts _ _ (layer.at_goto body_step element_step statement_step x) (next (label_starts x) w.next (label x j k h))
    of_body (statement.compound {j = j} {k = k} {l = l} {body = body} w h e) =
        from_parts _ _ (layer.at_begin body_step element_step statement_step body)
        (next (joined (map statement_starts body)) w.next (longer j k l (joined (map statement_starts body)) (omega (arith, e.next)) (of_sequence h)))
    of_body (statement.if_then {k = k} {l = l} {m = m} {cond = cond} {chosen = chosen} w c t h free) =
        from_parts _ _ (layer.at_if body_step element_step statement_step cond chosen None)
        (next (expr_starts cond ++ (statement_starts chosen ++ [])) w.next
        (both (expr_starts cond) (statement_starts chosen ++ []) (of_expr c)
        (wider k l m (statement_starts chosen ++ []) (omega (arith, t.next)) (both (statement_starts chosen) [] (of_statement h) (nothing (omega arith))))))
    of_body (statement.if_else {k = k} {l = l} {m = m} {n = n} {o = o} {cond = cond} {chosen = chosen} {other = other} w c t h e g) =
        from_parts _ _ (layer.at_if body_step element_step statement_step cond chosen (Some other))
        (next (expr_starts cond ++ (statement_starts chosen ++ statement_starts other)) w.next
        (both (expr_starts cond) (statement_starts chosen ++ statement_starts other) (of_expr c)
        (wider k l o (statement_starts chosen ++ statement_starts other) (omega (arith, t.next))
        (both (statement_starts chosen) (statement_starts other) (of_statement h) (wider m n o (statement_starts other) (omega (arith, e.next)) (of_statement g))))))
    of_body (statement.case {k = k} {l = l} {m = m} {o = o} {of = of} {arms = arms} w c f h s e) =
        from_parts _ _ (layer.at_case body_step element_step statement_step of arms)
        (next (expr_starts of ++ joined (map element_starts arms)) w.next
        (both (expr_starts of) (joined (map element_starts arms)) (of_expr c)
        (wider k l o (joined (map element_starts arms)) (omega (arith, f.next)) (longer l m o (joined (map element_starts arms)) (omega (arith, advance.last_semicolon tokens s, e.next)) (of_elements h)))))
    of_body (statement.while {k = k} {l = l} {m = m} {cond = cond} {body = body} w c d h) =
        from_parts _ _ (layer.at_while body_step element_step statement_step cond body)
        (next (expr_starts cond ++ statement_starts body) w.next
        (both (expr_starts cond) (statement_starts body) (of_expr c) (wider k l m (statement_starts body) (omega (arith, d.next)) (of_statement h))))
    of_body (statement.repeat {k = k} {body = body} {cond = cond} w h u c) =
        from_parts _ _ (layer.at_repeat body_step element_step statement_step body (span_at tokens k) cond)
        (next (joined (map statement_starts body) ++ start k ∷ expr_starts cond) w.next
        (both (joined (map statement_starts body)) (start k ∷ expr_starts cond) (of_sequence h) (next (expr_starts cond) u.next (of_expr c))))
    of_body (statement.for {j = j} {k = k} {l = l} {m = m} {n = n} {o = o} {p = p} {q = q} {first = first} {last = last} {down = down} {body = body} w m' a f d g t h) =
        from_parts _ _ (layer.at_for body_step element_step statement_step (span_at tokens j) first down last body)
        (next (start j ∷ (expr_starts first ++ (expr_starts last ++ statement_starts body))) w.next
        (next (expr_starts first ++ (expr_starts last ++ statement_starts body)) m'.next
        (wider k l q (expr_starts first ++ (expr_starts last ++ statement_starts body)) (omega (arith, a.next))
        (both (expr_starts first) (expr_starts last ++ statement_starts body) (of_expr f)
        (wider m n q (expr_starts last ++ statement_starts body) (omega (arith, advance.direction tokens d))
        (both (expr_starts last) (statement_starts body) (of_expr g) (wider o p q (statement_starts body) (omega (arith, t.next)) (of_statement h))))))))

    of_sequence : {xs : List Statement} {i j : ℕ} → statement.IsSequence tokens xs i j → Lies i j (joined (map statement_starts xs))
    of_sequence (statement.one_statement {x = x} h) = both (statement_starts x) [] (of_statement h) (nothing (omega arith))
    of_sequence (statement.more_statements {j = j} {k = k} {l = l} {x = x} {xs = xs} h c rest) =
        both (statement_starts x) (joined (map statement_starts xs)) (of_statement h) (wider j k l (joined (map statement_starts xs)) (omega (arith, c.next)) (of_sequence rest))

    of_elements : {xs : List Element} {i j : ℕ} → statement.IsElements tokens xs i j → Lies i j (joined (map element_starts xs))
    of_elements (statement.one_element {x = x} h) = both (element_starts x) [] (of_element h) (nothing (omega arith))
    of_elements (statement.more_elements {j = j} {k = k} {l = l} {x = x} {xs = xs} h c rest) =
        both (element_starts x) (joined (map element_starts xs)) (of_element h) (wider j k l (joined (map element_starts xs)) (omega (arith, c.next)) (of_elements rest))

    of_element : {x : Element} {i j : ℕ} → statement.IsElement tokens x i j → Lies i j (element_starts x)
    of_element (statement.element {j = j} {k = k} {l = l} {consts = consts} {body = body} cs c h) =
        from _ _ (layer.at_element body_step element_step statement_step consts body)
        (both (joined (map constant_starts consts)) (statement_starts body) (constants cs) (wider j k l (statement_starts body) (omega (arith, c.next)) (of_statement h)))

  -- the statements of a block are no part of its cycle
  of_body_of_block : {xs : List Statement} {i j : ℕ} → statement.IsSequence tokens xs i j → Lies i j (joined (map statement_starts xs))
  of_body_of_block h = of_sequence h

  -- ---- blocks

  label_list : {xs : List Label} {i j : ℕ} → block.IsLabelPart tokens xs i j → Lies i j (joined (map label_starts xs))
  label_list block.no_labels = nothing (omega arith)
  label_list (block.labels {i = i} {j = j} {k = k} {l = l} {labels = xs} w h c) =
      wider i j l (joined (map label_starts xs)) (omega (arith, w.next)) (longer j k l (joined (map label_starts xs)) (omega (arith, c.next)) (labels h))

  part : {T : Type 0} {Item : T → ℕ → ℕ → Type 0} {word : Word} (f : T → Starts) → ((x : T) (i j : ℕ) → Item x i j → Lies i j (f x)) → {xs : List T} {i j : ℕ} → block.IsPart tokens word Item xs i j → Lies i j (joined (map f xs))
  part f item block.no_part = nothing (omega arith)
  part f item (block.part {i = i} {j = j} {k = k} {declarations = xs} w h) = wider i j k (joined (map f xs)) (omega (arith, w.next)) (one_or_more f item h)

  const_decl : (x : ConstDecl) (i j : ℕ) → block.IsConstDecl tokens x i j → Lies i j (const_decl_starts x)
  const_decl x i j (block.const_decl {j = k} {k = l} {l = m} {value = v} n e h s) =
      next (constant_starts v) n.next (wider k l j (constant_starts v) (omega (arith, e.next)) (longer l m j (constant_starts v) (omega (arith, s.next)) (constant_of v l m h)))

  type_decl : (x : TypeDecl) (i j : ℕ) → block.IsTypeDecl tokens x i j → Lies i j (type_decl_starts x)
  type_decl x i j (block.type_decl {j = k} {k = l} {l = m} {of_type = t} n e h s) =
      next (type_starts t) n.next (wider k l j (type_starts t) (omega (arith, e.next)) (longer l m j (type_starts t) (omega (arith, s.next)) (type_expr h)))

  var_decl : (x : VarDecl) (i j : ℕ) → block.IsVarDecl tokens x i j → Lies i j (var_decl_starts x)
  var_decl x i j (block.var_decl {j = k} {k = l} {l = m} {names = xs} {of_type = t} n c h s) =
      both (joined (map span_starts xs)) (type_starts t) (names n) (wider k l j (type_starts t) (omega (arith, c.next)) (longer l m j (type_starts t) (omega (arith, s.next)) (type_expr h)))

  section : (x : Section) (i j : ℕ) → block.IsSection tokens x i j → Lies i j (section_starts x)
  section x i j (block.section {j = k} {k = l} {l = m} {names = xs} mode h c t) =
      wider i k j (section_starts x) (advance.mode tokens mode)
      (both (joined (map span_starts xs)) (start m ∷ []) (names h) (wider l m j (start m ∷ []) (omega (arith, c.next)) (only_one (omega (arith, t.next)))))

  formals : {xs : List Section} {i j : ℕ} → block.IsFormals tokens xs i j → Lies i j (joined (map section_starts xs))
  formals block.no_formals = nothing (omega arith)
  formals (block.formals {i = i} {j = j} {k = k} {l = l} {sections = xs} o h c) =
      wider i j l (joined (map section_starts xs)) (omega (arith, o.next)) (longer j k l (joined (map section_starts xs)) (omega (arith, c.next)) (separated section_starts section (advance.token tokens _) h))

  result : {f : Bool} {x : Option Span} {i j : ℕ} → block.IsResult tokens f x i j → Lies i j (span_if_some x)
  result block.no_result = nothing (omega arith)
  result (block.result {i = i} {j = j} {k = k} c m) = wider i j k (start j ∷ []) (omega (arith, c.next)) (only_one (omega (arith, m.next)))

  mutual
    of_block : {x : Block} {i j : ℕ} → block.IsBlock tokens x i j → Lies i j (block_starts x)
    of_block (block.block {n = n} {o = o} {p = p} {q = q} {labels = ls} {consts = cs} {types = ts} {vars = vs} {routines = rs} {body = body} a b c d e w h f) =
        let statements = joined (map statement_starts body) ++ start p ∷ [] in
        let from_begin = start n ∷ statements in
        let from_routines = joined (map routine_starts rs) ++ from_begin in
        let from_vars = joined (map var_decl_starts vs) ++ from_routines in
        let from_types = joined (map type_decl_starts ts) ++ from_vars in
        let from_consts = joined (map const_decl_starts cs) ++ from_types in
        from _ _ (layer.at_block routine_body_step block_step routine_step ls cs ts vs rs (span_at tokens n) body (span_at tokens p))
        (both (joined (map label_starts ls)) from_consts (label_list a)
        (both (joined (map const_decl_starts cs)) from_types (part const_decl_starts const_decl b)
        (both (joined (map type_decl_starts ts)) from_vars (part type_decl_starts type_decl c)
        (both (joined (map var_decl_starts vs)) from_routines (part var_decl_starts var_decl d)
        (both (joined (map routine_starts rs)) from_begin (of_routines e)
        (next statements w.next (both (joined (map statement_starts body)) (start p ∷ []) (of_sequence h) (only_one (omega (arith, f.next))))))))))

    of_routines : {xs : List Routine} {i j : ℕ} → block.IsRoutines tokens xs i j → Lies i j (joined (map routine_starts xs))
    of_routines block.no_routine = nothing (omega arith)
    of_routines (block.routines {x = x} {xs = xs} h rest) = both (routine_starts x) (joined (map routine_starts xs)) (of_routine h) (of_routines rest)

    of_routine : {x : Routine} {i j : ℕ} → block.IsRoutine tokens x i j → Lies i j (routine_starts x)
    of_routine (block.routine {i = i} {j = j} {k = k} {l = l} {m = m} {n = n} {o = o} {p = p} {function = function} {formals = sections} {result = found} {body = body} w name a r s h t) =
        let from_result = span_if_some found ++ routine_body_starts body in
        let from_formals = joined (map section_starts sections) ++ from_result in
        from _ _ (layer.at_routine routine_body_step block_step routine_step (span_at tokens j) function sections found body)
        (wider i j p (start j ∷ from_formals) (omega (arith, advance.routine_word tokens w))
        (next from_formals name.next (both (joined (map section_starts sections)) from_result (formals a)
        (both (span_if_some found) (routine_body_starts body) (result r)
        (wider m n p (routine_body_starts body) (omega (arith, s.next)) (longer n o p (routine_body_starts body) (omega (arith, t.next)) (of_routine_body h)))))))

    of_routine_body : {x : RoutineBody} {i j : ℕ} → block.IsRoutineBody tokens x i j → Lies i j (routine_body_starts x)
    of_routine_body (block.word {i = i} h) = from _ (start i ∷ []) (layer.at_word routine_body_step block_step routine_step (span_at tokens i)) (only_one (omega (arith, h.next)))
    of_routine_body (block.inner {block = inner} h) = from _ _ (layer.at_inner routine_body_step block_step routine_step inner) (of_block h)

  pub in_program : {x : Tree} {i j : ℕ} → program.IsProgramFrom tokens x i j → Lies i j (tree_starts x)
  in_program (program.program {i = i} {j = j} {k = k} {l = l} {m = m} {n = n} {o = o} {block = inner} w name a s h d) =
      wider i j o (start j ∷ block_starts inner) (omega (arith, w.next))
      (next (block_starts inner) name.next (wider k m o (block_starts inner) (omega (arith, advance.parameters tokens a, s.next)) (longer m n o (block_starts inner) (omega (arith, d.next)) (of_block h))))
