-- Expressions that are read are those of the grammar, and no deeper than the levels that were left.
use Rattle.std.proofs.Common.{◌≡◌, ℕ, zero, suc, ◌+◌, ◌<◌, ◌≤◌, max, true, nat_le, List, [], ◌∷◌, ◌++◌, map, length, Option, Some, None, refl, ap, sym, subst, arith, append_assoc}
use Rattle.std.specs.Option.{IfSome, option_map}
use Rattle.std.proofs.lemmas.Bool.Decides.{nat_tests}
use Rattle.px_base.specs.declared.operator.BinOp.{BinOp}
use Rattle.px_base.specs.declared.operator.BinOp.TheVariants as op
use Rattle.pas_lexer.specs.declared.token.Token.{Token}
use Rattle.pas_lexer.specs.declared.token.TokenKind.{TokenKind}
use Rattle.pas_lexer.specs.declared.token.TokenKind.TheVariants as kind
use Rattle.pas_lexer.specs.declared.token.Symbol.{Symbol}
use Rattle.pas_lexer.specs.declared.token.Symbol.TheVariants as s
use Rattle.pas_lexer.specs.declared.word.Word.TheVariants as w
use Rattle.pas_tree.specs.declared.constant.Sign.{Sign}
use Rattle.pas_tree.specs.declared.expr.Actual.{Actual}
use Rattle.pas_tree.specs.declared.expr.ActualValue.{ActualValue}
use Rattle.pas_tree.specs.declared.expr.Expr.{Expr}
use Rattle.pas_parser.specs.declared.reading.Measured.{Measured}
use Rattle.pas_parser.specs.Expr as spec
use Rattle.pas_parser.specs.Look.{kind_at, span_at, cover, is_symbol}
use Rattle.pas_parser.specs.Loop.{separated_measured}
use Rattle.pas_parser.specs.Operator.{relation, adding, multiplying, sign}
use Rattle.pas_parser.specs.Outcome.{Outcome}
use Rattle.pas_parser.specs.Reading.{gathered}
use Rattle.pas_parser.specs.Depth.{greatest, applied, value_step, expr_step, access_step, actual_step, width_depth, depth_in_value, depth_in_expr, depth_in_access, depth_in_actual, expr_depth}
use Rattle.pas_parser.specs.Grammar.Expr as g
use Rattle.pas_parser.specs.Grammar.Word.{IsSymbol, IsIdent, IsListed}
use Rattle.pas_parser.proofs.Layers as layer
use Rattle.pas_parser.proofs.Sound.Word.{Holds, bind, pure, fails, weaken, choose, repeats, all_parts, symbol_read, symbol_here}

-- it is what the grammar says, and is not deeper than its height, which is below a bound
pub record Low {T : Type 0} (Is : T → ℕ → ℕ → Type 0) (depth : T → ℕ) (bound i : ℕ) (r : Measured T) : Type 0 where
  pub derived : Is r.tree i r.next
  pub flat : depth r.tree ≤ r.height
  pub low : r.height < bound

-- ---- operators and lists

applied_once : (o : BinOp) → applied o ≤ 1
applied_once op.Add = omega arith
applied_once op.Sub = omega arith
applied_once op.Or = omega arith
applied_once op.Mul = omega arith
applied_once op.Div = omega arith
applied_once op.Mod = omega arith
applied_once op.And = omega arith
applied_once _ = omega arith

relation_never : (o : Option TokenKind) → IfSome (relation o) (λ found. applied found ≡ 0)
unfolding relation
relation_never (Some (kind.Symbol s.Equal)) = refl
relation_never (Some (kind.Symbol s.NotEqual)) = refl
relation_never (Some (kind.Symbol s.Less)) = refl
relation_never (Some (kind.Symbol s.LessEqual)) = refl
relation_never (Some (kind.Symbol s.Greater)) = refl
relation_never (Some (kind.Symbol s.GreaterEqual)) = refl
relation_never _ = tt

not_applied : (o : Option TokenKind) (found : BinOp) → relation o ≡ Some found → applied found ≡ 0
not_applied o found h = let P : Option BinOp → Type 0 = λ x. IfSome x (λ y. applied y ≡ 0) in subst P h (relation_never o)

pub greatest_end : {T : Type 0} (f : T → ℕ) (xs : List T) (x : T) (m : ℕ) → greatest (map f xs) ≤ m → f x ≤ m → greatest (map f (xs ++ x ∷ [])) ≤ m
greatest_end f [] x m h k = omega arith
greatest_end f (y ∷ ys) x m h k = omega (arith, greatest_end f ys x m (omega arith) k)

greatest_both : {T : Type 0} (f : T → ℕ) (xs ys : List T) (m : ℕ) → greatest (map f xs) ≤ m → greatest (map f ys) ≤ m → greatest (map f (xs ++ ys)) ≤ m
greatest_both f [] ys m h k = omega arith
greatest_both f (x ∷ xs) ys m h k = omega (arith, greatest_both f xs ys m (omega arith) k)

greatest_more : {T : Type 0} (f : T → ℕ) (xs : List T) → greatest (map (λ n. suc n) (map f xs)) ≡ greatest (map (λ x. suc (f x)) xs)
greatest_more f [] = refl
greatest_more f (x ∷ xs) = ap (max (suc (f x))) (greatest_more f xs)

greatest_wider : {T : Type 0} (f : T → ℕ) (xs : List T) (m n : ℕ) → greatest (map f xs) ≤ m → m ≤ n → greatest (map f xs) ≤ n
greatest_wider f xs m n h k = omega arith

append_none : {T : Type 0} (xs : List T) → xs ++ [] ≡ xs
append_none [] = refl
append_none (x ∷ xs) = ap (λ ys. x ∷ ys) (append_none xs)

module _ (tokens : List Token) where
  exprs_end : {xs : List Expr} {i j k l : ℕ} {x : Expr} → g.IsExprs tokens xs i j → IsSymbol tokens s.Comma j k → g.IsExpr tokens x k l → g.IsExprs tokens (xs ++ x ∷ []) i l
  exprs_end (g.one_expr x) c y = g.more_exprs x c (g.one_expr y)
  exprs_end (g.more_exprs x c rest) d y = g.more_exprs x c (exprs_end rest d y)

  actuals_end : {xs : List Actual} {i j k l : ℕ} {x : Actual} → g.IsActuals tokens xs i j → IsSymbol tokens s.Comma j k → g.IsActual tokens x k l → g.IsActuals tokens (xs ++ x ∷ []) i l
  actuals_end (g.one_actual x) c y = g.more_actuals x c (g.one_actual y)
  actuals_end (g.more_actuals x c rest) d y = g.more_actuals x c (actuals_end rest d y)

  subscripts_end : {xs ys : List Expr} {i j k l m : ℕ} → g.IsSubscripts tokens xs i j → IsSymbol tokens s.LeftBracket j k → g.IsExprs tokens ys k l → IsSymbol tokens s.RightBracket l m → g.IsSubscripts tokens (xs ++ ys) i m
  subscripts_end {ys = ys} {m = m} (g.no_subscript {i = i}) o e c = subst (λ zs. g.IsSubscripts tokens zs i m) (append_none ys) (g.subscripts o e c g.no_subscript)
  subscripts_end {ys = ys} {m = m} (g.subscripts {i = i} {xs = xs} {ys = zs} o e c rest) o' e' c' =
      subst (λ ws. g.IsSubscripts tokens ws i m) (sym (append_assoc xs zs ys)) (g.subscripts o e c (subscripts_end rest o' e' c'))

  -- `item {symbol item}` with heights
  list_read : {T : Type 0} {Item : T → ℕ → ℕ → Type 0} {Lists : List T → ℕ → ℕ → Type 0} {depth : T → ℕ} (symbol : Symbol) (bound : ℕ) (item : ℕ → Outcome (Measured T)) →
      ((i : ℕ) → Holds (Low Item depth bound i) (item i)) →
      ((x : T) (i j : ℕ) → Item x i j → Lists (x ∷ []) i j) →
      ((xs : List T) (x : T) (i j k l : ℕ) → Lists xs i j → IsSymbol tokens symbol j k → Item x k l → Lists (xs ++ x ∷ []) i l) →
      (i : ℕ) → Holds (Low Lists (λ xs. greatest (map depth xs)) bound i) (separated_measured tokens symbol item i)
  unfolding separated_measured
  list_read {depth = depth} symbol bound item reads one grows i =
      bind (reads i) (λ first h. all_parts _ _ _ _
      (λ list here so_far. weaken (reads (list.next + 1)) (λ x hx. record {
        derived = grows list.tree x.tree i list.next (list.next + 1) x.next so_far.derived (symbol_here tokens symbol list.next here) hx.derived;
        flat = greatest_end depth list.tree x.tree (max list.height x.height) (omega (arith, so_far.flat)) (omega (arith, hx.flat));
        low = omega (arith, so_far.low, hx.low);
      }))
      (length tokens) (gathered first) (record { derived = one first.tree i first.next h.derived; flat = omega (arith, h.flat); low = h.low }))

  -- ---- what stands in parentheses, as a subscript and as an actual

  module _ (bound : ℕ) (some : 0 < bound) (expr : ℕ → Outcome (Measured Expr)) (reads : (i : ℕ) → Holds (Low (g.IsExpr tokens) expr_depth bound i) (expr i)) where
    -- an actual by its value and what may follow it
    actual_value_read : (i : ℕ) (o : Option TokenKind) → kind_at tokens i ≡ o → Holds (Low (g.IsActualValue tokens) depth_in_value bound i) (spec.actual_value tokens expr o i)
    unfolding spec.actual_value
    actual_value_read i (Some kind.«Text») h =
        pure (record { derived = g.string (record { here = h; next = refl }); flat = omega (arith, layer.at_text value_step expr_step access_step actual_step (span_at tokens i)); low = some })
    actual_value_read i _ h =
        bind (reads i) (λ found hf. pure (record { derived = g.value hf.derived; flat = omega (arith, layer.at_value value_step expr_step access_step actual_step found.tree, hf.flat); low = hf.low }))

    record Width (i : ℕ) (r : Measured (Option Expr)) : Type 0 where
      actual : {value : ActualValue} {h : ℕ} → g.IsActualValue tokens value h i → g.IsActual tokens (Rattle.pas_tree.specs.declared.expr.Actual.roll-Actual (record { value = value; width = r.tree })) h r.next
      flat : width_depth (option_map depth_in_expr r.tree) ≤ r.height
      low : r.height < bound

    width_read : (i : ℕ) → Holds (Width i) (spec.width tokens expr i)
    unfolding spec.width
    width_read i =
        choose (λ h. bind (reads (i + 1)) (λ found hf. pure (record { actual = λ v. g.wide v (symbol_here tokens s.Colon i h) hf.derived; flat = hf.flat; low = hf.low })))
        (λ h. pure (record { actual = λ v. g.narrow v; flat = omega arith; low = some }))

    actual_read : (i : ℕ) → Holds (Low (g.IsActual tokens) depth_in_actual bound i) (spec.actual tokens expr i)
    unfolding spec.actual
    actual_read i =
        bind (actual_value_read i (kind_at tokens i) refl) (λ v hv. bind (width_read v.next) (λ broad hb.
        pure (record { derived = hb.actual hv.derived; flat = omega (arith, layer.at_actual value_step expr_step access_step actual_step v.tree broad.tree, hv.flat, hb.flat); low = omega (arith, hv.low, hb.low) })))

    abbrev actuals_depth : List Actual → ℕ
    actuals_depth xs = greatest (map depth_in_actual xs)

    actuals_read : (i : ℕ) → Holds (Low (g.IsActuals tokens) actuals_depth bound i) (spec.actuals tokens expr i)
    unfolding spec.actuals
    actuals_read i = list_read s.Comma bound (spec.actual tokens expr) actual_read (λ x i j h. g.one_actual h) (λ xs x i j k l h c hx. actuals_end h c hx) i

    pub arguments_read : (i : ℕ) → Holds (Low (g.IsArguments tokens) actuals_depth bound i) (spec.arguments tokens expr i)
    unfolding spec.arguments
    arguments_read i =
        choose (λ h. bind (actuals_read (i + 1)) (λ found hf. bind (symbol_read tokens s.RightParen found.next) (λ next hn.
        pure (record { derived = g.arguments (symbol_here tokens s.LeftParen i h) hf.derived hn; flat = hf.flat; low = hf.low }))))
        (λ h. pure (record { derived = g.no_argument; flat = omega arith; low = some }))

    abbrev exprs_depth : List Expr → ℕ
    exprs_depth xs = greatest (map expr_depth xs)

    exprs_read : (i : ℕ) → Holds (Low (g.IsExprs tokens) exprs_depth bound i) (spec.exprs tokens expr i)
    unfolding spec.exprs
    exprs_read i = list_read s.Comma bound expr reads (λ x i j h. g.one_expr h) (λ xs x i j k l h c hx. exprs_end h c hx) i

    record Bracketed (i : ℕ) (r : Measured (List Expr)) : Type 0 where
      grows : {xs : List Expr} {h : ℕ} → g.IsSubscripts tokens xs h i → g.IsSubscripts tokens (xs ++ r.tree) h r.next
      flat : exprs_depth r.tree ≤ r.height
      low : r.height < bound

    bracketed_read : (i : ℕ) → is_symbol s.LeftBracket (kind_at tokens i) ≡ true → Holds (Bracketed i) (spec.bracketed tokens expr i)
    unfolding spec.bracketed
    bracketed_read i here =
        bind (exprs_read (i + 1)) (λ found hf. bind (symbol_read tokens s.RightBracket found.next) (λ next hn.
        pure (record { grows = λ so_far. subscripts_end so_far (symbol_here tokens s.LeftBracket i here) hf.derived hn; flat = hf.flat; low = hf.low })))

    subscripts_read : (i : ℕ) → Holds (Low (g.IsSubscripts tokens) exprs_depth bound i) (spec.subscripts tokens expr i)
    unfolding spec.subscripts
    subscripts_read i = all_parts _ _ _ _
        (λ list here so_far. weaken (bracketed_read list.next here) (λ x hx. record {
          derived = hx.grows so_far.derived;
          flat = greatest_both expr_depth list.tree x.tree (max list.height x.height) (omega (arith, so_far.flat)) (omega (arith, hx.flat));
          low = omega (arith, so_far.low, hx.low);
        }))
        (length tokens) (record { tree = []; height = 0; next = i }) (record { derived = g.no_subscript; flat = omega arith; low = some })

    pub access_read : (i : ℕ) → IsIdent tokens i (i + 1) → Holds (Low (g.IsAccess tokens) depth_in_access bound i) (spec.access tokens expr i)
    unfolding spec.access
    access_read i here =
        bind (subscripts_read (i + 1)) (λ found hf. pure (record {
          derived = g.access here hf.derived;
          flat = omega (arith, layer.at_access value_step expr_step access_step actual_step (span_at tokens i) found.tree (cover tokens i found.next), greatest_more depth_in_expr found.tree, hf.flat);
          low = hf.low;
        }))

    named_read : (i : ℕ) → IsIdent tokens i (i + 1) → Holds (Low (g.IsFactor tokens) depth_in_expr bound i) (spec.named tokens expr i)
    unfolding spec.named spec.indexed spec.call
    named_read i here =
        choose (λ h. bind (access_read i here) (λ found hf. pure (record {
          derived = g.indexed hf.derived (symbol_here tokens s.LeftBracket (i + 1) h);
          flat = omega (arith, layer.at_indexed value_step expr_step access_step actual_step found.tree (cover tokens i found.next), hf.flat);
          low = hf.low;
        })))
        (λ h. bind (arguments_read (i + 1)) (λ found hf. pure (record {
          derived = g.named here hf.derived;
          flat = omega (arith, layer.at_name value_step expr_step access_step actual_step (span_at tokens i) found.tree (cover tokens i found.next), hf.flat);
          low = hf.low;
        })))

    parenthesized_read : (i : ℕ) → kind_at tokens i ≡ Some (kind.Symbol s.LeftParen) → Holds (Low (g.IsFactor tokens) depth_in_expr bound i) (spec.parenthesized tokens expr i)
    unfolding spec.parenthesized
    parenthesized_read i here =
        bind (reads (i + 1)) (λ inner h. bind (symbol_read tokens s.RightParen inner.next) (λ next hn. pure (record {
          derived = g.parenthesized (record { here = here; next = refl }) h.derived hn;
          flat = omega (arith, layer.at_paren value_step expr_step access_step actual_step inner.tree (cover tokens i next), h.flat);
          low = h.low;
        })))

  -- ---- factors, terms and simple expressions

  module _ (bound : ℕ) where
    abbrev LowFactor : ℕ → Measured Expr → Type 0
    LowFactor = Low (g.IsFactor tokens) depth_in_expr bound

    abbrev LowTerm : ℕ → Measured Expr → Type 0
    LowTerm = Low (g.IsTerm tokens) depth_in_expr bound

    abbrev LowSimple : ℕ → Measured Expr → Type 0
    LowSimple = Low (g.IsSimple tokens) depth_in_expr bound

  -- what is read with fewer levels than these
  record Reads (levels : ℕ) (l : spec.Level) : Type 0 where
    factor : (i : ℕ) → Holds (LowFactor levels i) (l.factor i)
    term : (i : ℕ) → Holds (LowTerm levels i) (l.term i)
    simple : (i : ℕ) → Holds (LowSimple levels i) (l.simple i)

  binary_depth : (op : BinOp) (x y : Measured Expr) (at : ℕ) (n : ℕ) → depth_in_expr x.tree ≤ x.height → depth_in_expr y.tree ≤ y.height → applied op ≤ n → depth_in_expr (spec.binary tokens at op x y).tree ≤ max x.height y.height + n
  unfolding spec.binary
  binary_depth op x y at n hx hy h =
      omega (arith, layer.at_binary value_step expr_step access_step actual_step op x.tree y.tree (span_at tokens x.next) (cover tokens at y.next), hx, hy, h)

  negation_read : (levels : ℕ) (operand : ℕ → Outcome (Measured Expr)) → ((i : ℕ) → Holds (LowFactor levels i) (operand i)) → (i : ℕ) → kind_at tokens i ≡ Some (kind.Word w.WNot) →
      Holds (LowFactor (suc levels) i) (spec.negation tokens operand i)
  unfolding spec.negation
  negation_read levels operand reads i here =
      bind (reads (i + 1)) (λ inner h. pure (record {
        derived = g.negated (record { here = here; next = refl }) h.derived;
        flat = omega (arith, layer.at_not value_step expr_step access_step actual_step inner.tree (cover tokens i inner.next), h.flat);
        low = omega (arith, h.low);
      }))

  comparison_by_read : (bound : ℕ) (simple : ℕ → Outcome (Measured Expr)) → ((i : ℕ) → Holds (LowSimple bound i) (simple i)) → (i : ℕ) (left : Measured Expr) → LowSimple bound i left →
      (o : Option BinOp) → relation (kind_at tokens left.next) ≡ o → Holds (Low (g.IsExpr tokens) depth_in_expr bound i) (spec.comparison_by tokens simple i left o)
  unfolding spec.comparison_by spec.binary
  comparison_by_read bound simple reads i left h None e = pure (record { derived = g.uncompared h.derived; flat = h.flat; low = h.low })
  comparison_by_read bound simple reads i left h (Some op) e =
      bind (reads (left.next + 1)) (λ right hr. pure (record {
        derived = g.compared h.derived (record { here = e; next = refl }) hr.derived;
        flat = omega (arith, binary_depth op left right i 0 h.flat hr.flat (omega (arith, not_applied (kind_at tokens left.next) op e)));
        low = omega (arith, h.low, hr.low);
      }))

  comparison_read : (bound : ℕ) (simple : ℕ → Outcome (Measured Expr)) → ((i : ℕ) → Holds (LowSimple bound i) (simple i)) → (i : ℕ) →
      Holds (Low (g.IsExpr tokens) depth_in_expr bound i) (spec.comparison tokens simple i)
  unfolding spec.comparison
  comparison_read bound simple reads i = bind (reads i) (λ left h. comparison_by_read bound simple reads i left h (relation (kind_at tokens left.next)) refl)

  expr_over_read : (levels : ℕ) (below : spec.Level) → Reads levels below → (i : ℕ) → Holds (Low (g.IsExpr tokens) expr_depth (suc levels) i) (spec.expr_over tokens below i)
  unfolding spec.expr_over
  expr_over_read levels below r i =
      bind (comparison_read levels below.simple r.simple i) (λ found h. pure (record { derived = h.derived; flat = omega (arith, h.flat); low = omega (arith, h.low) }))

  factor_by_read : (levels : ℕ) (below : spec.Level) → Reads levels below → (i : ℕ) (o : Option TokenKind) → kind_at tokens i ≡ o →
      Holds (LowFactor (suc levels) i) (spec.factor_by tokens (spec.expr_over tokens below) below.factor i o)
  unfolding spec.factor_by
  factor_by_read levels below r i None h = fails
  factor_by_read levels below r i (Some (kind.Number value)) h =
      pure (record { derived = g.number (record { here = h; next = refl }); flat = omega (arith, layer.at_number value_step expr_step access_step actual_step value (span_at tokens i)); low = omega arith })
  factor_by_read levels below r i (Some kind.Ident) h = named_read (suc levels) (omega arith) (spec.expr_over tokens below) (expr_over_read levels below r) i (record { here = h; next = refl })
  factor_by_read levels below r i (Some (kind.Symbol s.LeftParen)) h = parenthesized_read (suc levels) (omega arith) (spec.expr_over tokens below) (expr_over_read levels below r) i h
  factor_by_read levels below r i (Some (kind.Word w.WNot)) h = negation_read levels below.factor r.factor i h
  factor_by_read levels below r i (Some _) h = fails

  factor_over_read : (levels : ℕ) (below : spec.Level) → Reads levels below → (i : ℕ) → Holds (LowFactor (suc levels) i) (spec.factor_over tokens below i)
  unfolding spec.factor_over
  factor_over_read levels below r i = factor_by_read levels below r i (kind_at tokens i) refl

  -- a chain of operators of one precedence
  module _ (operator : Option TokenKind → Option BinOp) (levels at : ℕ) (operand : ℕ → Outcome (Measured Expr)) {Left Right : Expr → ℕ → ℕ → Type 0}
      (reads : (i : ℕ) → Holds (Low Right depth_in_expr levels i) (operand i))
      (grows : (x y : Measured Expr) (op : BinOp) → Left x.tree at x.next → IsListed tokens operator op x.next (x.next + 1) → Right y.tree (x.next + 1) y.next → Left (spec.binary tokens at op x y).tree at y.next) where
    operation_read : (left : Measured Expr) (o : Outcome (Measured Expr)) (found : Option BinOp) → operator (kind_at tokens left.next) ≡ found →
        spec.operation_by tokens levels at operand left found ≡ Some o → Low Left depth_in_expr (suc levels) at left → Holds (Low Left depth_in_expr (suc levels) at) o
    unfolding spec.operation_by spec.binary
    operation_read left o None here e h = absurd (cc)
    operation_read left o (Some op) here e h =
        let same : spec.operation_by tokens levels at operand left (Some op) ≡ Some o = e in
        subst (Holds (Low Left depth_in_expr (suc levels) at)) (inside same)
        (choose {test = nat_le levels left.height} (λ high. fails) (λ low. bind (reads (left.next + 1)) (λ right hr.
        let shallow : left.height < levels = grind (arith, nat_tests, low) in
        pure (record {
          derived = grows left right op h.derived (record { here = here; next = refl }) hr.derived;
          flat = binary_depth op left right at 1 h.flat hr.flat (applied_once op);
          low = deep left right shallow hr.low;
        }))))
      where
        inside : {A : Type 0} {a b : A} → Some a ≡ Some b → a ≡ b
        inside e = cc

        deep : (x y : Measured Expr) → x.height < levels → y.height < levels → max x.height y.height + 1 < suc levels
        deep x y a b = omega arith

    operations_read : (left : Measured Expr) → Low Left depth_in_expr (suc levels) at left → Holds (Low Left depth_in_expr (suc levels) at) (spec.operations tokens operator levels at operand left)
    unfolding spec.operations spec.operation
    operations_read left h = repeats _ (λ s o e hs. operation_read s o (operator (kind_at tokens s.next)) refl e hs) (length tokens) left h

  term_over_read : (levels : ℕ) (below : spec.Level) → Reads levels below → (i : ℕ) → Holds (LowTerm (suc levels) i) (spec.term_over tokens levels below i)
  unfolding spec.term_over spec.binary
  term_over_read levels below r i =
      bind (factor_over_read levels below r i) (λ left h. operations_read multiplying levels i below.factor {Left = g.IsTerm tokens} {Right = g.IsFactor tokens} r.factor (λ x y op hx ho hy. g.multiplied hx ho hy) left
      (record { derived = g.alone h.derived; flat = h.flat; low = h.low }))

  signed_by_read : (levels : ℕ) (term : ℕ → Outcome (Measured Expr)) → ((i : ℕ) → Holds (LowTerm levels i) (term i)) → (i : ℕ) (o : Option Sign) → sign (kind_at tokens i) ≡ o →
      Holds (LowSimple levels i) (spec.signed_by tokens term i o)
  unfolding spec.signed_by
  signed_by_read levels term reads i None h = weaken (reads i) (λ r hr. record { derived = g.unsigned hr.derived; flat = hr.flat; low = hr.low })
  signed_by_read levels term reads i (Some before) h =
      bind (reads (i + 1)) (λ inner hi. pure (record {
        derived = g.signed (record { here = h; next = refl }) hi.derived;
        flat = omega (arith, layer.at_signed value_step expr_step access_step actual_step before inner.tree (cover tokens i inner.next), hi.flat);
        low = hi.low;
      }))

  simple_over_read : (levels : ℕ) (below : spec.Level) → Reads levels below → (i : ℕ) → Holds (LowSimple (suc levels) i) (spec.simple_over tokens levels below i)
  unfolding spec.simple_over spec.signed spec.binary
  simple_over_read levels below r i =
      bind (signed_by_read (suc levels) (spec.term_over tokens levels below) (term_over_read levels below r) i (sign (kind_at tokens i)) refl) (λ left h.
      operations_read adding levels i below.term {Left = g.IsSimple tokens} {Right = g.IsTerm tokens} r.term (λ x y op hx ho hy. g.added hx ho hy) left h)

  level_read : (levels : ℕ) → Reads levels (spec.up_to tokens levels)
  unfolding spec.up_to spec.none
  level_read zero = record { factor = λ i. fails; term = λ i. fails; simple = λ i. fails }
  level_read (suc levels) = record {
    factor = factor_over_read levels (spec.up_to tokens levels) (level_read levels);
    term = term_over_read levels (spec.up_to tokens levels) (level_read levels);
    simple = simple_over_read levels (spec.up_to tokens levels) (level_read levels);
  }

  -- an expression with so many levels left
  pub expr_read : (levels i : ℕ) → Holds (Low (g.IsExpr tokens) expr_depth (suc levels) i) (spec.expr tokens levels i)
  unfolding spec.expr
  expr_read levels i = expr_over_read levels (spec.up_to tokens levels) (level_read levels) i
