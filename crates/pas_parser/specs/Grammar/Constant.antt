-- Constants (ISO 7185, 6.3), labels and lists of identifiers.
use Rattle.std.specs.Prelude.{ℕ, List, Some, None}
use Rattle.px_base.specs.declared.place.Span.{Span}
use Rattle.pas_lexer.specs.declared.token.Token.{Token}
use Rattle.pas_lexer.specs.declared.token.TokenKind.TheVariants as kind
use Rattle.pas_lexer.specs.declared.token.Symbol.TheVariants as s
use Rattle.pas_tree.specs.declared.block.Label.{Label}
use Rattle.pas_tree.specs.declared.constant.Sign.{Sign}
use Rattle.pas_tree.specs.declared.constant.Constant.{Constant}
use Rattle.pas_tree.specs.declared.constant.ConstantValue.{ConstantValue}
use Rattle.pas_tree.specs.declared.constant.ConstantValue.TheVariants as value_of
use Rattle.pas_parser.specs.Look.{span_at, cover}
use Rattle.pas_parser.specs.Operator.{sign}
use Rattle.pas_parser.specs.Grammar.Word.{IsToken, IsSymbol, IsIdent, IsListed, IsName, Separated}

module _ (tokens : List Token) where
  -- label = number
  pub data IsLabel : Label → ℕ → ℕ → Type 0 where
    label : {i j value : ℕ} → IsToken tokens (kind.Number value) i j → IsLabel (record { value = value; at = span_at tokens i }) i j

  -- number | ident
  pub data IsConstantValue : ConstantValue → ℕ → ℕ → Type 0 where
    number : {i j value : ℕ} → IsToken tokens (kind.Number value) i j → IsConstantValue (value_of.Number value) i j
    named : {i j : ℕ} → IsIdent tokens i j → IsConstantValue (value_of.Name (span_at tokens i)) i j

  -- constant = [sign] (number | ident)
  pub data IsConstant : Constant → ℕ → ℕ → Type 0 where
    plain : {i j : ℕ} {value : ConstantValue} → IsConstantValue value i j → IsConstant (record { sign = None; value = value; span = cover tokens i j }) i j
    signed : {i j k : ℕ} {value : ConstantValue} {before : Sign} → IsListed tokens sign before i j → IsConstantValue value j k →
        IsConstant (record { sign = Some before; value = value; span = cover tokens i k }) i k

  -- ident {"," ident}
  abbrev pub IsNames : List Span → ℕ → ℕ → Type 0
  IsNames = Separated (IsSymbol tokens s.Comma) (IsName tokens)

  -- number {"," number}
  abbrev pub IsLabels : List Label → ℕ → ℕ → Type 0
  IsLabels = Separated (IsSymbol tokens s.Comma) IsLabel

  -- constant {"," constant}
  abbrev pub IsConstants : List Constant → ℕ → ℕ → Type 0
  IsConstants = Separated (IsSymbol tokens s.Comma) IsConstant
