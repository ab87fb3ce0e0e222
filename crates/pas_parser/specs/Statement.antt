-- Statements (ISO 7185, 6.8) with their labels and assertions.
use Rattle.std.specs.Prelude.{ℕ, zero, suc, ◌+◌, Bool, true, false, not, ◌&&◌, if◌then◌else◌, List, [], Option, Some, None, Ok, Err}
use Rattle.pas_lexer.specs.declared.token.Token.{Token}
use Rattle.pas_lexer.specs.declared.token.TokenKind.{TokenKind}
use Rattle.pas_lexer.specs.declared.token.TokenKind.TheVariants as kind
use Rattle.pas_lexer.specs.declared.token.Symbol.TheVariants as s
use Rattle.pas_lexer.specs.declared.word.Word.TheVariants as w
use Rattle.pas_tree.specs.declared.block.Label.{Label}
use Rattle.pas_tree.specs.declared.statement.Assertion.{Assertion}
use Rattle.pas_tree.specs.declared.statement.Body.{Body}
use Rattle.pas_tree.specs.declared.statement.Body.TheVariants as b
use Rattle.pas_tree.specs.declared.statement.Element.{Element, roll-Element}
use Rattle.pas_tree.specs.declared.statement.Statement.{Statement, roll-Statement}
use Rattle.pas_parser.specs.declared.fault.ParseFault.TheVariants.{NoRule, TooDeep}
use Rattle.pas_parser.specs.declared.reading.Read.{Read}
use Rattle.pas_parser.specs.Constant.{label, constants}
use Rattle.pas_parser.specs.Expr.{expr, access, arguments}
use Rattle.pas_parser.specs.Look.{kind_at, span_at, cover, is_symbol, is_word, expect_ident, expect_symbol, expect_word}
use Rattle.pas_parser.specs.Loop.{parts, separated}
use Rattle.pas_parser.specs.Outcome.{Outcome, ◌>>=◌}
use Rattle.pas_parser.specs.Reading.{listed}

-- what begins a statement with a token
unfoldable pub begins_statement : Option TokenKind → Bool
begins_statement (Some (kind.Number value)) = true
begins_statement (Some kind.AssertStart) = true
begins_statement (Some kind.Ident) = true
begins_statement (Some (kind.Word w.WGoto)) = true
begins_statement (Some (kind.Word w.WBegin)) = true
begins_statement (Some (kind.Word w.WIf)) = true
begins_statement (Some (kind.Word w.WCase)) = true
begins_statement (Some (kind.Word w.WWhile)) = true
begins_statement (Some (kind.Word w.WRepeat)) = true
begins_statement (Some (kind.Word w.WFor)) = true
begins_statement _ = false

unfoldable pub begins_assertion : Option TokenKind → Bool
begins_assertion (Some kind.AssertStart) = true
begins_assertion _ = false

unfoldable pub is_query : Option TokenKind → Bool
is_query (Some kind.Query) = true
is_query _ = false

module _ (tokens : List Token) where
  abbrev pub Reader : Type 0 → Type 0
  Reader T = ℕ → Outcome (Read T)

  unfoldable pub label_part_by : ℕ → Option TokenKind → Outcome (Read (Option Label))
  label_part_by at (Some (kind.Number value)) = do
    found ← label tokens at
    next ← expect_symbol tokens s.Colon found.next
    Ok (record { tree = Some found.tree; next = next })
  label_part_by at _ = Ok (record { tree = None; next = at })

  -- `[number ":"]`
  unfoldable pub label_part : Reader (Option Label)
  label_part at = label_part_by at (kind_at tokens at)

  -- `"%}"`
  unfoldable pub assertion_end_by : ℕ → Option TokenKind → Outcome ℕ
  assertion_end_by at (Some kind.AssertEnd) = Ok (at + 1)
  assertion_end_by at _ = Err (NoRule at)

  unfoldable pub assertion_end : ℕ → Outcome ℕ
  assertion_end at = assertion_end_by at (kind_at tokens at)

  -- `"{%" expr ["?"] "%}"`
  unfoldable pub assertion : ℕ → Reader Assertion
  assertion levels at = do
    cond ← expr tokens levels (at + 1)
    next ← assertion_end (if is_query (kind_at tokens cond.next) then cond.next + 1 else cond.next)
    Ok (record { tree = record { cond = cond.tree; sometime = is_query (kind_at tokens cond.next); span = cover tokens at next }; next = next })

  unfoldable pub assertions : ℕ → Reader (List Assertion)
  assertions levels at = parts tokens (λ next. begins_assertion (kind_at tokens next)) (assertion levels) (record { tree = []; next = at })

  -- `ident ["(" actuals ")"]`
  unfoldable pub call : ℕ → Reader Body
  call levels at = do
    found ← arguments tokens (expr tokens levels) (at + 1)
    Ok (record { tree = b.Call (span_at tokens at) found.tree; next = found.next })

  -- `ident {"[" exprs "]"} ":=" expr`
  unfoldable pub assignment : ℕ → Reader Body
  assignment levels at = do
    to ← access tokens (expr tokens levels) at
    from ← expect_symbol tokens s.Assign to.next
    value ← expr tokens levels from
    Ok (record { tree = b.Assign to.tree value.tree; next = value.next })

  unfoldable pub named_by : ℕ → ℕ → Option TokenKind → Outcome (Read Body)
  named_by levels at (Some (kind.Symbol s.LeftBracket)) = assignment levels at
  named_by levels at (Some (kind.Symbol s.Assign)) = assignment levels at
  named_by levels at _ = call levels at

  -- the token after the name tells a call and an assignment apart
  unfoldable pub named : ℕ → Reader Body
  named levels at = named_by levels at (kind_at tokens (at + 1))

  unfoldable pub goto : Reader Body
  goto at = do
    found ← label tokens (at + 1)
    Ok (record { tree = b.Goto found.tree; next = found.next })

  unfoldable pub direction_by : ℕ → Option TokenKind → Outcome (Read Bool)
  direction_by at (Some (kind.Word w.WTo)) = Ok (record { tree = false; next = at + 1 })
  direction_by at (Some (kind.Word w.WDownto)) = Ok (record { tree = true; next = at + 1 })
  direction_by at _ = Err (NoRule at)

  -- `"to" | "downto"`
  unfoldable pub direction : Reader Bool
  direction at = direction_by at (kind_at tokens at)

  -- whether another element comes after a semicolon that stands here
  unfoldable pub has_element : ℕ → Bool
  has_element at = is_symbol s.Semicolon (kind_at tokens at) && not (is_word w.WEnd (kind_at tokens (at + 1)))

  -- `statement` reads a statement inside another one.
  module _ (statement : Reader Statement) where
    unfoldable pub sequence : Reader (List Statement)
    sequence = separated tokens s.Semicolon statement

    -- `"begin" sequence "end"`
    unfoldable pub compound : Reader Body
    compound at = do
      found ← sequence (at + 1)
      next ← expect_word tokens w.WEnd found.next
      Ok (record { tree = b.Begin found.tree; next = next })

    -- `["else" statement]`
    unfoldable pub else_part : Reader (Option Statement)
    else_part at =
        if is_word w.WElse (kind_at tokens at)
        then (do found ← statement (at + 1); Ok (record { tree = Some found.tree; next = found.next }))
        else Ok (record { tree = None; next = at })

    -- `constant {"," constant} ":" statement`
    unfoldable pub element : Reader Element
    element at = do
      consts ← constants tokens at
      from ← expect_symbol tokens s.Colon consts.next
      found ← statement from
      Ok (record { tree = roll-Element (record { consts = consts.tree; body = found.tree }); next = found.next })

    -- `element {";" element}`
    unfoldable pub elements : Reader (List Element)
    elements at = do
      first ← element at
      parts tokens has_element (λ next. element (next + 1)) (listed first)

  -- The number is of the levels that are left inside.
  module _ (levels : ℕ) (statement : Reader Statement) where
    -- `"if" expr "then" statement ["else" statement]`
    unfoldable pub if_statement : Reader Body
    if_statement at = do
      cond ← expr tokens levels (at + 1)
      from ← expect_word tokens w.WThen cond.next
      chosen ← statement from
      other ← else_part statement chosen.next
      Ok (record { tree = b.If cond.tree chosen.tree other.tree; next = other.next })

    -- `"case" expr "of" element {";" element} [";"] "end"`
    unfoldable pub case : Reader Body
    case at = do
      value ← expr tokens levels (at + 1)
      from ← expect_word tokens w.WOf value.next
      arms ← elements statement from
      next ← expect_word tokens w.WEnd (if is_symbol s.Semicolon (kind_at tokens arms.next) then arms.next + 1 else arms.next)
      Ok (record { tree = b.Case value.tree arms.tree; next = next })

    -- `"while" expr "do" statement`
    unfoldable pub while_loop : Reader Body
    while_loop at = do
      cond ← expr tokens levels (at + 1)
      from ← expect_word tokens w.WDo cond.next
      found ← statement from
      Ok (record { tree = b.While cond.tree found.tree; next = found.next })

    -- `"repeat" sequence "until" expr`
    unfoldable pub repeat_loop : Reader Body
    repeat_loop at = do
      found ← sequence statement (at + 1)
      test ← expect_word tokens w.WUntil found.next
      cond ← expr tokens levels test
      Ok (record { tree = b.Repeat found.tree (span_at tokens found.next) cond.tree; next = cond.next })

    -- `"for" ident ":=" expr ("to" | "downto") expr "do" statement`
    unfoldable pub for_loop : Reader Body
    for_loop at = do
      assign ← expect_ident tokens (at + 1)
      from ← expect_symbol tokens s.Assign assign
      first ← expr tokens levels from
      down ← direction first.next
      last ← expr tokens levels down.next
      each ← expect_word tokens w.WDo last.next
      found ← statement each
      Ok (record { tree = b.For (span_at tokens (at + 1)) first.tree down.tree last.tree found.tree; next = found.next })

    unfoldable pub body_by : ℕ → Option TokenKind → Outcome (Read Body)
    body_by at (Some kind.Ident) = named levels at
    body_by at (Some (kind.Word w.WGoto)) = goto at
    body_by at (Some (kind.Word w.WBegin)) = compound statement at
    body_by at (Some (kind.Word w.WIf)) = if_statement at
    body_by at (Some (kind.Word w.WCase)) = case at
    body_by at (Some (kind.Word w.WWhile)) = while_loop at
    body_by at (Some (kind.Word w.WRepeat)) = repeat_loop at
    body_by at (Some (kind.Word w.WFor)) = for_loop at
    body_by at _ = Ok (record { tree = b.Empty; next = at })

    unfoldable pub body : Reader Body
    body at = body_by at (kind_at tokens at)

    -- `[number ":"] {assertion} [body]`
    unfoldable pub measured_statement : Reader Statement
    measured_statement at = do
      front ← label_part at
      asserts ← assertions levels front.next
      found ← body asserts.next
      Ok (record {
        tree = roll-Statement (record { label = front.tree; asserts = asserts.tree; body = found.tree; at = span_at tokens asserts.next });
        next = found.next;
      })

  -- the statement without a token
  unfoldable pub empty : ℕ → Read Statement
  empty at = record { tree = roll-Statement (record { label = None; asserts = []; body = b.Empty; at = span_at tokens at }); next = at }

  -- a statement, which is a level of its own if it has a token
  unfoldable pub statement : ℕ → Reader Statement
  statement zero at = if begins_statement (kind_at tokens at) then Err (TooDeep at) else Ok (empty at)
  statement (suc levels) at = measured_statement levels (statement levels) at
