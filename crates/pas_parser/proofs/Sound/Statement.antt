-- Statements that are read are those of the grammar, and no deeper than the levels that were left.
use Rattle.std.proofs.Common.{◌≡◌, ℕ, zero, suc, ◌+◌, ◌≤◌, Bool, true, false, List, [], ◌∷◌, ◌++◌, map, Option, Some, None, Err, refl, ap, sym, ◌∙◌, arith, if◌then◌else◌}
use Rattle.std.proofs.lemmas.Bool.{and_parts, true≢false}
use Rattle.std.specs.Option.{option_map}
use Rattle.pas_lexer.specs.declared.token.Token.{Token}
use Rattle.pas_lexer.specs.declared.token.TokenKind.{TokenKind}
use Rattle.pas_lexer.specs.declared.token.TokenKind.TheVariants as kind
use Rattle.pas_lexer.specs.declared.token.Symbol.TheVariants as s
use Rattle.pas_lexer.specs.declared.word.Word.TheVariants as w
use Rattle.pas_tree.specs.declared.block.Label.{Label}
use Rattle.pas_tree.specs.declared.expr.Expr.{Expr}
use Rattle.pas_tree.specs.declared.statement.Assertion.{Assertion}
use Rattle.pas_tree.specs.declared.statement.Body.{Body}
use Rattle.pas_tree.specs.declared.statement.Body.TheVariants as b
use Rattle.pas_tree.specs.declared.statement.Element.{Element}
use Rattle.pas_tree.specs.declared.statement.Statement.{Statement}
use Rattle.pas_parser.specs.declared.fault.ParseFault.TheVariants.{TooDeep}
use Rattle.pas_parser.specs.declared.reading.Read.{Read}
use Rattle.pas_parser.specs.Constant.{label}
use Rattle.pas_parser.specs.Expr.{expr}
use Rattle.pas_parser.specs.Look.{kind_at, span_at, cover, same_word, is_symbol, is_word}
use Rattle.pas_parser.specs.Outcome.{Outcome}
use Rattle.pas_parser.specs.Parts.{or_none}
use Rattle.pas_parser.specs.Reading.{listed}
use Rattle.pas_parser.specs.Statement as spec
use Rattle.pas_parser.specs.Depth.{greatest, assertion_depth, body_step, element_step, statement_step, statement_depth_by, statement_depth, depth_in_body, element_depth}
use Rattle.pas_parser.specs.Grammar.Expr.{IsExpr}
use Rattle.pas_parser.specs.Grammar.Statement as g
use Rattle.pas_parser.specs.Grammar.Word.{IsToken, IsSymbol, IsWord, IsIdent, Many, no_more}
use Rattle.pas_parser.proofs.Layers as layer
use Rattle.pas_parser.proofs.Sound.Constant.{label_read, constants_read}
use Rattle.pas_parser.proofs.Sound.Expr.{expr_read, access_read, arguments_read}
use Rattle.pas_parser.proofs.Sound.Lists.{lists_more, separated_low}
use Rattle.pas_parser.proofs.Sound.Word.{Holds, bind, pure, fails, weaken, choose, symbol_read, symbol_here, word_read, word_here, ident_read, many_end}

statement_low : (label : Option Label) (asserts : List Assertion) (body : Option ℕ) (m : ℕ) → greatest (map assertion_depth asserts) ≤ m → or_none body ≤ m → statement_depth_by label asserts body ≤ suc m
statement_low None [] None m h k = omega arith
statement_low label asserts body m h k = omega arith

module _ (tokens : List Token) where
  label_part_by_read : (i : ℕ) (o : Option TokenKind) → Holds (λ r. g.IsLabelPart tokens r.tree i r.next) (spec.label_part_by tokens i o)
  unfolding spec.label_part_by
  label_part_by_read i (Some (kind.Number value)) = bind (label_read tokens i) (λ found h. bind (symbol_read tokens s.Colon found.next) (λ next hn. pure (g.labelled h hn)))
  label_part_by_read i _ = pure g.unlabelled

  label_part_read : (i : ℕ) → Holds (λ r. g.IsLabelPart tokens r.tree i r.next) (spec.label_part tokens i)
  unfolding spec.label_part
  label_part_read i = label_part_by_read i (kind_at tokens i)

  assertion_end_by_read : (i : ℕ) (o : Option TokenKind) → kind_at tokens i ≡ o → Holds (λ j. IsToken tokens kind.AssertEnd i j) (spec.assertion_end_by tokens i o)
  unfolding spec.assertion_end_by
  assertion_end_by_read i (Some kind.AssertEnd) h = pure (record { here = h; next = refl })
  assertion_end_by_read i _ h = fails

  assertion_end_read : (i : ℕ) → Holds (λ j. IsToken tokens kind.AssertEnd i j) (spec.assertion_end tokens i)
  unfolding spec.assertion_end
  assertion_end_read i = assertion_end_by_read i (kind_at tokens i) refl

  query_of : (o : Option TokenKind) → spec.is_query o ≡ true → o ≡ Some kind.Query
  unfolding spec.is_query
  query_of (Some kind.Query) h = refl
  query_of _ h = absurd (cc)

  opening_of : (o : Option TokenKind) → spec.begins_assertion o ≡ true → o ≡ Some kind.AssertStart
  unfolding spec.begins_assertion
  opening_of (Some kind.AssertStart) h = refl
  opening_of _ h = absurd (cc)

  -- the end of an assertion, with or without the `?`
  closing_read : {i j k : ℕ} {cond : Expr} → IsToken tokens kind.AssertStart i j → IsExpr tokens cond j k → (test : Bool) → spec.is_query (kind_at tokens k) ≡ test →
      Holds (λ next. g.IsAssertion tokens (record { cond = cond; sometime = test; span = cover tokens i next }) i next) (spec.assertion_end tokens (if test then k + 1 else k))
  closing_read {k = k} start hc true h = weaken (assertion_end_read (k + 1)) (λ next hn. g.sometime start hc (record { here = query_of _ h; next = refl }) hn)
  closing_read {k = k} start hc false h = weaken (assertion_end_read k) (λ next hn. g.always start hc hn)

  assertion_read : (levels i : ℕ) → spec.begins_assertion (kind_at tokens i) ≡ true → Holds (λ r. g.IsAssertion tokens r.tree i r.next × (assertion_depth r.tree ≤ levels)) (spec.assertion tokens levels i)
  unfolding spec.assertion
  assertion_read levels i here =
      bind (expr_read tokens levels (i + 1)) (λ cond hc.
      bind (closing_read {i = i} {j = i + 1} {k = cond.next} {cond = cond.tree} (record { here = opening_of _ here; next = refl }) hc.derived (spec.is_query (kind_at tokens cond.next)) refl) (λ next hn.
      pure (hn, omega (arith, hc.flat, hc.low))))

  assertions_read : (levels i : ℕ) → Holds (λ r. Many (g.IsAssertion tokens) r.tree i r.next × (greatest (map assertion_depth r.tree) ≤ levels)) (spec.assertions tokens levels i)
  unfolding spec.assertions
  assertions_read levels i =
      lists_more tokens (g.IsAssertion tokens) (Many (g.IsAssertion tokens)) assertion_depth levels (λ next. spec.begins_assertion (kind_at tokens next)) (λ j. j) (spec.assertion tokens levels)
      (assertion_read levels) (λ xs x i j l hl here hx. many_end hl hx) i (record { tree = []; next = i }) no_more (omega arith)

  -- a body and its depth
  abbrev Fits : ℕ → ℕ → Read Body → Type 0
  Fits levels i r = g.IsBody tokens r.tree i r.next × (or_none (depth_in_body r.tree) ≤ levels)

  call_read : (levels i : ℕ) → IsIdent tokens i (i + 1) → Holds (Fits levels i) (spec.call tokens levels i)
  unfolding spec.call
  call_read levels i here =
      bind (arguments_read tokens (suc levels) (omega arith) (expr tokens levels) (expr_read tokens levels) (i + 1)) (λ found h.
      pure (g.call here h.derived, omega (arith, ap or_none (layer.at_call body_step element_step statement_step (span_at tokens i) found.tree), h.flat, h.low)))

  assignment_read : (levels i : ℕ) → IsIdent tokens i (i + 1) → Holds (Fits levels i) (spec.assignment tokens levels i)
  unfolding spec.assignment
  assignment_read levels i here =
      bind (access_read tokens (suc levels) (omega arith) (expr tokens levels) (expr_read tokens levels) i here) (λ target h. bind (symbol_read tokens s.Assign target.next) (λ from hs.
      bind (expr_read tokens levels from) (λ value hv.
      pure (g.assign h.derived hs hv.derived, omega (arith, ap or_none (layer.at_assign body_step element_step statement_step target.tree value.tree), h.flat, h.low, hv.flat, hv.low)))))

  named_by_read : (levels i : ℕ) → IsIdent tokens i (i + 1) → (o : Option TokenKind) → Holds (Fits levels i) (spec.named_by tokens levels i o)
  unfolding spec.named_by
  named_by_read levels i here (Some (kind.Symbol s.LeftBracket)) = assignment_read levels i here
  named_by_read levels i here (Some (kind.Symbol s.Assign)) = assignment_read levels i here
  named_by_read levels i here _ = call_read levels i here

  named_read : (levels i : ℕ) → IsIdent tokens i (i + 1) → Holds (Fits levels i) (spec.named tokens levels i)
  unfolding spec.named
  named_read levels i here = named_by_read levels i here (kind_at tokens (i + 1))

  goto_read : (levels i : ℕ) → IsWord tokens w.WGoto i (i + 1) → Holds (Fits levels i) (spec.goto tokens i)
  unfolding spec.goto
  goto_read levels i here =
      bind (label_read tokens (i + 1)) (λ found h. pure (g.goto here h, omega (arith, ap or_none (layer.at_goto body_step element_step statement_step found.tree))))

  direction_by_read : (i : ℕ) (o : Option TokenKind) → kind_at tokens i ≡ o → Holds (λ r. g.IsDirection tokens r.tree i r.next) (spec.direction_by tokens i o)
  unfolding spec.direction_by
  direction_by_read i (Some (kind.Word w.WTo)) h = pure (g.up (record { here = h; next = refl }))
  direction_by_read i (Some (kind.Word w.WDownto)) h = pure (g.down (record { here = h; next = refl }))
  direction_by_read i _ h = fails

  direction_read : (i : ℕ) → Holds (λ r. g.IsDirection tokens r.tree i r.next) (spec.direction tokens i)
  unfolding spec.direction
  direction_read i = direction_by_read i (kind_at tokens i) refl

  no_else : (i : ℕ) → is_word w.WElse (kind_at tokens i) ≡ false → g.NoElse tokens i
  unfolding same_word
  no_else i h e =
      let there : is_word w.WElse (kind_at tokens i) ≡ true = ap (is_word w.WElse) e in
      true≢false (sym there ∙ h)

  last_semicolon : (i : ℕ) (test : Bool) → is_symbol s.Semicolon (kind_at tokens i) ≡ test → g.IsLastSemicolon tokens i (if test then i + 1 else i)
  last_semicolon i true h = g.semicolon (symbol_here tokens s.Semicolon i h)
  last_semicolon i false h = g.no_semicolon

  element_announced : (i : ℕ) → spec.has_element tokens i ≡ true → IsSymbol tokens s.Semicolon i (i + 1)
  unfolding spec.has_element
  element_announced i h = symbol_here tokens s.Semicolon i (and_parts (is_symbol s.Semicolon (kind_at tokens i)) _ h).0

  sequence_end : {xs : List Statement} {i j k l : ℕ} {x : Statement} → g.IsSequence tokens xs i j → IsSymbol tokens s.Semicolon j k → g.IsStatement tokens x k l → g.IsSequence tokens (xs ++ x ∷ []) i l
  sequence_end (g.one_statement x) c y = g.more_statements x c (g.one_statement y)
  sequence_end (g.more_statements x c rest) d y = g.more_statements x c (sequence_end rest d y)

  elements_end : {xs : List Element} {i j k l : ℕ} {x : Element} → g.IsElements tokens xs i j → IsSymbol tokens s.Semicolon j k → g.IsElement tokens x k l → g.IsElements tokens (xs ++ x ∷ []) i l
  elements_end (g.one_element x) c y = g.more_elements x c (g.one_element y)
  elements_end (g.more_elements x c rest) d y = g.more_elements x c (elements_end rest d y)

  module _ (levels : ℕ) (statement : ℕ → Outcome (Read Statement)) (reads : (i : ℕ) → Holds (λ r. g.IsStatement tokens r.tree i r.next × (statement_depth r.tree ≤ levels)) (statement i)) where
    pub sequence_read : (i : ℕ) → Holds (λ r. g.IsSequence tokens r.tree i r.next × (greatest (map statement_depth r.tree) ≤ levels)) (spec.sequence tokens statement i)
    unfolding spec.sequence
    sequence_read i = separated_low tokens (g.IsStatement tokens) (g.IsSequence tokens) statement_depth levels s.Semicolon statement reads (λ x i j h. g.one_statement h) (λ xs x i j k l hl c hx. sequence_end hl c hx) i

    compound_read : (i : ℕ) → IsWord tokens w.WBegin i (i + 1) → Holds (Fits levels i) (spec.compound tokens statement i)
    unfolding spec.compound
    compound_read i here =
        bind (sequence_read (i + 1)) (λ found h. bind (word_read tokens w.WEnd found.next) (λ next hn.
        pure (g.compound here h.0 hn, omega (arith, ap or_none (layer.at_begin body_step element_step statement_step found.tree), h.1))))

    record Else (i : ℕ) (r : Read (Option Statement)) : Type 0 where
      completes : {cond : Expr} {chosen : Statement} {h j k l : ℕ} → IsWord tokens w.WIf h j → IsExpr tokens cond j k → IsWord tokens w.WThen k l → g.IsStatement tokens chosen l i → g.IsBody tokens (b.If cond chosen r.tree) h r.next
      low : or_none (option_map statement_depth r.tree) ≤ levels

    else_read : (i : ℕ) → Holds (Else i) (spec.else_part tokens statement i)
    unfolding spec.else_part
    else_read i =
        choose (λ h. bind (reads (i + 1)) (λ found hf. pure (record { completes = λ f c t y. g.if_else f c t y (word_here tokens w.WElse i h) hf.0; low = hf.1 })))
        (λ h. pure (record { completes = λ f c t y. g.if_then f c t y (no_else i h); low = omega arith }))

    if_read : (i : ℕ) → IsWord tokens w.WIf i (i + 1) → Holds (Fits levels i) (spec.if_statement tokens levels statement i)
    unfolding spec.if_statement
    if_read i here =
        bind (expr_read tokens levels (i + 1)) (λ cond hc. bind (word_read tokens w.WThen cond.next) (λ from ht. bind (reads from) (λ chosen hy. bind (else_read chosen.next) (λ other ho.
        pure (ho.completes here hc.derived ht hy.0, omega (arith, ap or_none (layer.at_if body_step element_step statement_step cond.tree chosen.tree other.tree), hc.flat, hc.low, hy.1, ho.low))))))

    element_read : (i : ℕ) → Holds (λ r. g.IsElement tokens r.tree i r.next × (element_depth r.tree ≤ levels)) (spec.element tokens statement i)
    unfolding spec.element
    element_read i =
        bind (constants_read tokens i) (λ consts hc. bind (symbol_read tokens s.Colon consts.next) (λ from hs. bind (reads from) (λ found h.
        pure (g.element hc hs h.0, omega (arith, layer.at_element body_step element_step statement_step consts.tree found.tree, h.1)))))

    elements_read : (i : ℕ) → Holds (λ r. g.IsElements tokens r.tree i r.next × (greatest (map element_depth r.tree) ≤ levels)) (spec.elements tokens statement i)
    unfolding spec.elements
    elements_read i =
        bind (element_read i) (λ first h. lists_more tokens (g.IsElement tokens) (g.IsElements tokens) element_depth levels (spec.has_element tokens) (λ j. j + 1) (λ next. spec.element tokens statement (next + 1))
        (λ j here. element_read (j + 1)) (λ xs x i j l hl here hx. elements_end hl (element_announced j here) hx) i (listed first) (g.one_element h.0) (omega (arith, h.1)))

    case_read : (i : ℕ) → IsWord tokens w.WCase i (i + 1) → Holds (Fits levels i) (spec.case tokens levels statement i)
    unfolding spec.case
    case_read i here =
        bind (expr_read tokens levels (i + 1)) (λ value hv. bind (word_read tokens w.WOf value.next) (λ from ho. bind (elements_read from) (λ arms ha. bind (word_read tokens w.WEnd _) (λ next hn.
        pure (g.case here hv.derived ho ha.0 (last_semicolon arms.next _ refl) hn, omega (arith, ap or_none (layer.at_case body_step element_step statement_step value.tree arms.tree), hv.flat, hv.low, ha.1))))))

    while_read : (i : ℕ) → IsWord tokens w.WWhile i (i + 1) → Holds (Fits levels i) (spec.while_loop tokens levels statement i)
    unfolding spec.while_loop
    while_read i here =
        bind (expr_read tokens levels (i + 1)) (λ cond hc. bind (word_read tokens w.WDo cond.next) (λ from hd. bind (reads from) (λ found h.
        pure (g.while here hc.derived hd h.0, omega (arith, ap or_none (layer.at_while body_step element_step statement_step cond.tree found.tree), hc.flat, hc.low, h.1)))))

    repeat_read : (i : ℕ) → IsWord tokens w.WRepeat i (i + 1) → Holds (Fits levels i) (spec.repeat_loop tokens levels statement i)
    unfolding spec.repeat_loop
    repeat_read i here =
        bind (sequence_read (i + 1)) (λ found h. bind (word_read tokens w.WUntil found.next) (λ test hu. bind (expr_read tokens levels test) (λ cond hc.
        pure (g.repeat here h.0 hu hc.derived, omega (arith, ap or_none (layer.at_repeat body_step element_step statement_step found.tree (span_at tokens found.next) cond.tree), h.1, hc.flat, hc.low)))))

    for_read : (i : ℕ) → IsWord tokens w.WFor i (i + 1) → Holds (Fits levels i) (spec.for_loop tokens levels statement i)
    unfolding spec.for_loop
    for_read i here =
        bind (ident_read tokens (i + 1)) (λ assign hi. bind (symbol_read tokens s.Assign assign) (λ from hs. bind (expr_read tokens levels from) (λ first hf. bind (direction_read first.next) (λ down hd.
        bind (expr_read tokens levels down.next) (λ last hl. bind (word_read tokens w.WDo last.next) (λ each he. bind (reads each) (λ found h.
        pure (
          g.for here hi hs hf.derived hd hl.derived he h.0,
          omega (arith, ap or_none (layer.at_for body_step element_step statement_step (span_at tokens (i + 1)) first.tree down.tree last.tree found.tree), hf.flat, hf.low, hl.flat, hl.low, h.1),
        ))))))))

    body_by_read : (i : ℕ) (o : Option TokenKind) → kind_at tokens i ≡ o → Holds (Fits levels i) (spec.body_by tokens levels statement i o)
    unfolding spec.body_by
    body_by_read i (Some kind.Ident) h = named_read levels i (record { here = h; next = refl })
    body_by_read i (Some (kind.Word w.WGoto)) h = goto_read levels i (record { here = h; next = refl })
    body_by_read i (Some (kind.Word w.WBegin)) h = compound_read i (record { here = h; next = refl })
    body_by_read i (Some (kind.Word w.WIf)) h = if_read i (record { here = h; next = refl })
    body_by_read i (Some (kind.Word w.WCase)) h = case_read i (record { here = h; next = refl })
    body_by_read i (Some (kind.Word w.WWhile)) h = while_read i (record { here = h; next = refl })
    body_by_read i (Some (kind.Word w.WRepeat)) h = repeat_read i (record { here = h; next = refl })
    body_by_read i (Some (kind.Word w.WFor)) h = for_read i (record { here = h; next = refl })
    body_by_read i _ h = pure (g.empty, omega (arith, ap or_none (layer.at_empty body_step element_step statement_step)))

    measured_read : (i : ℕ) → Holds (λ r. g.IsStatement tokens r.tree i r.next × (statement_depth r.tree ≤ suc levels)) (spec.measured_statement tokens levels statement i)
    unfolding spec.measured_statement spec.body
    measured_read i =
        bind (label_part_read i) (λ front hf. bind (assertions_read levels front.next) (λ asserts ha. bind (body_by_read asserts.next (kind_at tokens asserts.next) refl) (λ found h.
        pure (
          g.statement hf ha.0 h.0,
          omega (arith, layer.at_statement body_step element_step statement_step front.tree asserts.tree found.tree (span_at tokens asserts.next), statement_low front.tree asserts.tree (depth_in_body found.tree) levels ha.1 h.1),
        ))))

  empty_depth : (i : ℕ) → statement_depth (spec.empty tokens i).tree ≡ 0
  unfolding spec.empty
  empty_depth i = layer.at_statement body_step element_step statement_step None [] b.Empty (span_at tokens i) ∙ ap (statement_depth_by None []) (layer.at_empty body_step element_step statement_step)

  pub statement_read : (levels i : ℕ) → Holds (λ r. g.IsStatement tokens r.tree i r.next × (statement_depth r.tree ≤ levels)) (spec.statement tokens levels i)
  unfolding spec.statement spec.empty
  statement_read zero i = choose {test = spec.begins_statement (kind_at tokens i)} {x = Err (TooDeep i)} (λ h. fails) (λ h. pure (g.statement g.unlabelled no_more g.empty, omega (arith, empty_depth i)))
  statement_read (suc levels) i = measured_read levels (spec.statement tokens levels) (statement_read levels) i
