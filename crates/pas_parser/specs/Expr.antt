-- Expressions (ISO 7185, 6.7), with the height that they have in measured constructs.
use Rattle.std.specs.Prelude.{ℕ, zero, suc, ◌+◌, max, Bool, true, false, nat_le, if◌then◌else◌, List, [], length, Option, Some, None, Ok, Err}
use Rattle.px_base.specs.declared.operator.BinOp.{BinOp}
use Rattle.pas_lexer.specs.declared.token.Token.{Token}
use Rattle.pas_lexer.specs.declared.token.TokenKind.{TokenKind}
use Rattle.pas_lexer.specs.declared.token.TokenKind.TheVariants as kind
use Rattle.pas_lexer.specs.declared.token.Symbol.TheVariants as s
use Rattle.pas_lexer.specs.declared.word.Word.TheVariants as w
use Rattle.pas_tree.specs.declared.constant.Sign.{Sign}
use Rattle.pas_tree.specs.declared.expr.Expr.{Expr}
use Rattle.pas_tree.specs.declared.expr.Expr.TheVariants as e
use Rattle.pas_tree.specs.declared.expr.Access.{Access, roll-Access}
use Rattle.pas_tree.specs.declared.expr.Actual.{Actual, roll-Actual}
use Rattle.pas_tree.specs.declared.expr.ActualValue.{ActualValue}
use Rattle.pas_tree.specs.declared.expr.ActualValue.TheVariants as actual_of
use Rattle.pas_parser.specs.declared.fault.ParseFault.{ParseFault}
use Rattle.pas_parser.specs.declared.fault.ParseFault.TheVariants.{NoRule, TooDeep}
use Rattle.pas_parser.specs.declared.reading.Measured.{Measured}
use Rattle.pas_parser.specs.Look.{kind_at, span_at, cover, is_symbol, expect_symbol}
use Rattle.pas_parser.specs.Loop.{repeat, more, separated_measured}
use Rattle.pas_parser.specs.Operator.{relation, adding, multiplying, sign}
use Rattle.pas_parser.specs.Outcome.{Outcome, ◌>>=◌}
use Rattle.pas_parser.specs.Reading.{appended, deeper}

-- what begins a factor, and an expression
unfoldable pub begins_factor : Option TokenKind → Bool
begins_factor (Some (kind.Number value)) = true
begins_factor (Some kind.Ident) = true
begins_factor (Some (kind.Symbol s.LeftParen)) = true
begins_factor (Some (kind.Word w.WNot)) = true
begins_factor _ = false

unfoldable pub begins_expr : Option TokenKind → Bool
begins_expr (Some (kind.Symbol s.Plus)) = true
begins_expr (Some (kind.Symbol s.Minus)) = true
begins_expr what = begins_factor what

-- the fault where no level is left: a token that begins nothing comes first
unfoldable pub refusal : Bool → ℕ → ParseFault
refusal true at = TooDeep at
refusal false at = NoRule at

module _ (tokens : List Token) where
  abbrev pub Reader : Type 0 → Type 0
  Reader T = ℕ → Outcome (Measured T)

  unfoldable pub binary : ℕ → BinOp → Measured Expr → Measured Expr → Measured Expr
  binary at op left right = record {
    tree = e.Binary op left.tree right.tree (span_at tokens left.next) (cover tokens at right.next);
    height = max left.height right.height;
    next = right.next;
  }

  -- `operator operand` after a left operand that began at `at`
  unfoldable pub operation_by : ℕ → ℕ → Reader Expr → Measured Expr → Option BinOp → Option (Outcome (Measured Expr))
  operation_by levels at operand left None = None
  operation_by levels at operand left (Some op) = Some (
      if nat_le levels left.height then Err (TooDeep left.next)
      else (do right ← operand (left.next + 1); Ok (deeper (binary at op left right))))

  unfoldable pub operation : (Option TokenKind → Option BinOp) → ℕ → ℕ → Reader Expr → Measured Expr → Option (Outcome (Measured Expr))
  operation operator levels at operand left = operation_by levels at operand left (operator (kind_at tokens left.next))

  unfoldable pub operations : (Option TokenKind → Option BinOp) → ℕ → ℕ → Reader Expr → Measured Expr → Outcome (Measured Expr)
  operations operator levels at operand = repeat (operation operator levels at operand) (length tokens)

  unfoldable pub signed_by : Reader Expr → ℕ → Option Sign → Outcome (Measured Expr)
  signed_by term at None = term at
  signed_by term at (Some found) = do
    inner ← term (at + 1)
    Ok (record { tree = e.Signed found inner.tree (cover tokens at inner.next); height = inner.height; next = inner.next })

  unfoldable pub signed : Reader Expr → Reader Expr
  signed term at = signed_by term at (sign (kind_at tokens at))

  unfoldable pub comparison_by : Reader Expr → ℕ → Measured Expr → Option BinOp → Outcome (Measured Expr)
  comparison_by simple at left None = Ok left
  comparison_by simple at left (Some op) = do
    right ← simple (left.next + 1)
    Ok (binary at op left right)

  unfoldable pub comparison : Reader Expr → Reader Expr
  comparison simple at = do
    left ← simple at
    comparison_by simple at left (relation (kind_at tokens left.next))

  -- what may stand in parentheses, as a subscript and as an actual
  module _ (expr : Reader Expr) where
    unfoldable pub width : ℕ → Outcome (Measured (Option Expr))
    width at =
        if is_symbol s.Colon (kind_at tokens at)
        then (do found ← expr (at + 1); Ok (record { tree = Some found.tree; height = found.height; next = found.next }))
        else Ok (record { tree = None; height = 0; next = at })

    unfoldable pub actual_value : Option TokenKind → Reader ActualValue
    actual_value (Some kind.«Text») at = Ok (record { tree = actual_of.«Text» (span_at tokens at); height = 0; next = at + 1 })
    actual_value _ at = do
      found ← expr at
      Ok (record { tree = actual_of.Value found.tree; height = found.height; next = found.next })

    unfoldable pub actual : Reader Actual
    actual at = do
      value ← actual_value (kind_at tokens at) at
      broad ← width value.next
      Ok (record { tree = roll-Actual (record { value = value.tree; width = broad.tree }); height = max value.height broad.height; next = broad.next })

    unfoldable pub actuals : Reader (List Actual)
    actuals = separated_measured tokens s.Comma actual

    -- `["(" actuals ")"]`
    unfoldable pub arguments : Reader (List Actual)
    arguments at =
        if is_symbol s.LeftParen (kind_at tokens at)
        then (do
          found ← actuals (at + 1)
          next ← expect_symbol tokens s.RightParen found.next
          Ok (record { tree = found.tree; height = found.height; next = next }))
        else Ok (record { tree = []; height = 0; next = at })

    unfoldable pub exprs : Reader (List Expr)
    exprs = separated_measured tokens s.Comma expr

    -- `"[" exprs "]"`
    unfoldable pub bracketed : Reader (List Expr)
    bracketed at = do
      found ← exprs (at + 1)
      next ← expect_symbol tokens s.RightBracket found.next
      Ok (record { tree = found.tree; height = found.height; next = next })

    -- `{"[" exprs "]"}`
    unfoldable pub subscripts : Reader (List Expr)
    subscripts at = repeat
        (more (λ list. list.next) appended (λ next. is_symbol s.LeftBracket (kind_at tokens next)) bracketed)
        (length tokens) (record { tree = []; height = 0; next = at })

    -- `ident {"[" exprs "]"}`
    unfoldable pub access : Reader Access
    access at = do
      found ← subscripts (at + 1)
      Ok (record {
        tree = roll-Access (record { name = span_at tokens at; subscripts = found.tree; span = cover tokens at found.next });
        height = found.height;
        next = found.next;
      })

    unfoldable pub indexed : Reader Expr
    indexed at = do
      found ← access at
      Ok (record { tree = e.Indexed found.tree (cover tokens at found.next); height = found.height; next = found.next })

    unfoldable pub call : Reader Expr
    call at = do
      found ← arguments (at + 1)
      Ok (record { tree = e.Name (span_at tokens at) found.tree (cover tokens at found.next); height = found.height; next = found.next })

    unfoldable pub named : Reader Expr
    named at = if is_symbol s.LeftBracket (kind_at tokens (at + 1)) then indexed at else call at

    unfoldable pub parenthesized : Reader Expr
    parenthesized at = do
      inner ← expr (at + 1)
      next ← expect_symbol tokens s.RightParen inner.next
      Ok (record { tree = e.Paren inner.tree (cover tokens at next); height = inner.height; next = next })

  -- `operand` reads the factor after `not`
  unfoldable pub negation : Reader Expr → Reader Expr
  negation operand at = do
    inner ← operand (at + 1)
    Ok (record { tree = e.Not inner.tree (cover tokens at inner.next); height = inner.height + 1; next = inner.next })

  unfoldable pub factor_by : Reader Expr → Reader Expr → ℕ → Option TokenKind → Outcome (Measured Expr)
  factor_by expr operand at (Some (kind.Number value)) = Ok (record { tree = e.Number value (span_at tokens at); height = 0; next = at + 1 })
  factor_by expr operand at (Some kind.Ident) = named expr at
  factor_by expr operand at (Some (kind.Symbol s.LeftParen)) = parenthesized expr at
  factor_by expr operand at (Some (kind.Word w.WNot)) = negation operand at
  factor_by expr operand at _ = Err (NoRule at)

-- what is read with a number of levels left
pub record Level : Type 0 where
  pub factor : ℕ → Outcome (Measured Expr)
  pub term : ℕ → Outcome (Measured Expr)
  pub simple : ℕ → Outcome (Measured Expr)

module _ (tokens : List Token) where
  -- with fewer than no levels
  unfoldable pub none : Level
  none = record {
    factor = λ at. Err (refusal (begins_factor (kind_at tokens at)) at);
    term = λ at. Err (refusal (begins_factor (kind_at tokens at)) at);
    simple = λ at. Err (refusal (begins_expr (kind_at tokens at)) at);
  }

  unfoldable pub expr_over : Level → ℕ → Outcome (Measured Expr)
  expr_over below at = do
    found ← comparison tokens below.simple at
    Ok (deeper found)

  unfoldable pub factor_over : Level → ℕ → Outcome (Measured Expr)
  factor_over below at = factor_by tokens (expr_over below) below.factor at (kind_at tokens at)

  unfoldable pub term_over : ℕ → Level → ℕ → Outcome (Measured Expr)
  term_over levels below at = do
    left ← factor_over below at
    operations tokens multiplying levels at below.factor left

  unfoldable pub simple_over : ℕ → Level → ℕ → Outcome (Measured Expr)
  simple_over levels below at = do
    left ← signed tokens (term_over levels below) at
    operations tokens adding levels at below.term left

  -- Each level stands on the one below, which the right operands, the factor after `not` and the parts of an
  -- expression have.
  unfoldable pub up_to : ℕ → Level
  up_to zero = none
  up_to (suc levels) = record {
    factor = factor_over (up_to levels);
    term = term_over levels (up_to levels);
    simple = simple_over levels (up_to levels);
  }

  unfoldable pub expr : ℕ → ℕ → Outcome (Measured Expr)
  expr levels = expr_over (up_to levels)

  unfoldable pub factor : ℕ → ℕ → Outcome (Measured Expr)
  factor levels = factor_over (up_to levels)

  unfoldable pub term : ℕ → ℕ → Outcome (Measured Expr)
  term levels = term_over levels (up_to levels)

  unfoldable pub simple : ℕ → ℕ → Outcome (Measured Expr)
  simple levels = simple_over levels (up_to levels)
