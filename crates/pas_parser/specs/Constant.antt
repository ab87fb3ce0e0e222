-- Constants (ISO 7185, 6.3), labels and lists of identifiers.
use Rattle.std.specs.Prelude.{ℕ, ◌+◌, List, Option, Some, None, Ok, Err}
use Rattle.px_base.specs.declared.place.Span.{Span}
use Rattle.pas_lexer.specs.declared.token.Token.{Token}
use Rattle.pas_lexer.specs.declared.token.TokenKind.{TokenKind}
use Rattle.pas_lexer.specs.declared.token.TokenKind.TheVariants as kind
use Rattle.pas_lexer.specs.declared.token.Symbol.TheVariants as s
use Rattle.pas_tree.specs.declared.block.Label.{Label}
use Rattle.pas_tree.specs.declared.constant.Sign.{Sign}
use Rattle.pas_tree.specs.declared.constant.Constant.{Constant}
use Rattle.pas_tree.specs.declared.constant.ConstantValue.{ConstantValue}
use Rattle.pas_tree.specs.declared.constant.ConstantValue.TheVariants as value_of
use Rattle.pas_parser.specs.declared.fault.ParseFault.TheVariants.{NoRule}
use Rattle.pas_parser.specs.declared.reading.Read.{Read}
use Rattle.pas_parser.specs.Look.{kind_at, span_at, cover, expect_ident}
use Rattle.pas_parser.specs.Loop.{separated}
use Rattle.pas_parser.specs.Operator.{sign}
use Rattle.pas_parser.specs.Outcome.{Outcome, ◌>>=◌}

module _ (tokens : List Token) where
  unfoldable pub label_by : ℕ → Option TokenKind → Outcome (Read Label)
  label_by at (Some (kind.Number value)) = Ok (record { tree = record { value = value; at = span_at tokens at }; next = at + 1 })
  label_by at _ = Err (NoRule at)

  -- the one token of a label
  unfoldable pub label : ℕ → Outcome (Read Label)
  label at = label_by at (kind_at tokens at)

  unfoldable pub constant_value_by : ℕ → Option TokenKind → Outcome (Read ConstantValue)
  constant_value_by at (Some (kind.Number value)) = Ok (record { tree = value_of.Number value; next = at + 1 })
  constant_value_by at (Some kind.Ident) = Ok (record { tree = value_of.Name (span_at tokens at); next = at + 1 })
  constant_value_by at _ = Err (NoRule at)

  -- `number | ident`
  unfoldable pub constant_value : ℕ → Outcome (Read ConstantValue)
  constant_value at = constant_value_by at (kind_at tokens at)

  unfoldable pub constant_by : ℕ → Option Sign → Outcome (Read Constant)
  constant_by at None = do
    found ← constant_value at
    Ok (record { tree = record { sign = None; value = found.tree; span = cover tokens at found.next }; next = found.next })
  constant_by at (Some sign) = do
    found ← constant_value (at + 1)
    Ok (record { tree = record { sign = Some sign; value = found.tree; span = cover tokens at found.next }; next = found.next })

  -- `[sign] (number | ident)`
  unfoldable pub constant : ℕ → Outcome (Read Constant)
  constant at = constant_by at (sign (kind_at tokens at))

  unfoldable pub ident : ℕ → Outcome (Read Span)
  ident at = do
    next ← expect_ident tokens at
    Ok (record { tree = span_at tokens at; next = next })

  unfoldable pub idents : ℕ → Outcome (Read (List Span))
  idents = separated tokens s.Comma ident

  unfoldable pub labels : ℕ → Outcome (Read (List Label))
  labels = separated tokens s.Comma label

  unfoldable pub constants : ℕ → Outcome (Read (List Constant))
  constants = separated tokens s.Comma constant
