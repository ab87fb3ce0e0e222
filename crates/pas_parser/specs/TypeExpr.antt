-- Types (ISO 7185, 6.4).
use Rattle.std.specs.Prelude.{ℕ, zero, suc, ◌+◌, Bool, true, false, not, ◌||◌, if◌then◌else◌, List, Option, Some, Ok, Err}
use Rattle.pas_lexer.specs.declared.token.Token.{Token}
use Rattle.pas_lexer.specs.declared.token.TokenKind.{TokenKind}
use Rattle.pas_lexer.specs.declared.token.TokenKind.TheVariants as kind
use Rattle.pas_lexer.specs.declared.token.Symbol.TheVariants as s
use Rattle.pas_lexer.specs.declared.word.Word.TheVariants as w
use Rattle.pas_tree.specs.declared.type_expr.TypeExpr.{TypeExpr}
use Rattle.pas_tree.specs.declared.type_expr.TypeExpr.TheVariants as t
use Rattle.pas_parser.specs.declared.reading.Read.{Read}
use Rattle.pas_parser.specs.Constant.{constant}
use Rattle.pas_parser.specs.Expr.{refusal}
use Rattle.pas_parser.specs.Look.{kind_at, span_at, cover, is_ident, is_symbol, is_word, expect_symbol, expect_word}
use Rattle.pas_parser.specs.Loop.{separated}
use Rattle.pas_parser.specs.Outcome.{Outcome, ◌>>=◌}

unfoldable pub begins_type : Option TokenKind → Bool
begins_type (Some kind.Ident) = true
begins_type (Some (kind.Number value)) = true
begins_type (Some (kind.Symbol s.Plus)) = true
begins_type (Some (kind.Symbol s.Minus)) = true
begins_type (Some (kind.Word w.WArray)) = true
begins_type _ = false

module _ (tokens : List Token) where
  -- `constant ".." constant`
  unfoldable pub range : ℕ → Outcome (Read TypeExpr)
  range at = do
    lo ← constant tokens at
    from ← expect_symbol tokens s.DotDot lo.next
    hi ← constant tokens from
    Ok (record { tree = t.Range lo.tree hi.tree (cover tokens at hi.next); next = hi.next })

  -- `ident [".." constant] | range`
  unfoldable pub index : ℕ → Outcome (Read TypeExpr)
  index at =
      if not (is_ident (kind_at tokens at)) || is_symbol s.DotDot (kind_at tokens (at + 1))
      then range at
      else Ok (record { tree = t.Name (span_at tokens at); next = at + 1 })

  unfoldable pub indexes : ℕ → Outcome (Read (List TypeExpr))
  indexes = separated tokens s.Comma index

  -- `"array" "[" indexes "]" "of" type`
  unfoldable pub array : (ℕ → Outcome (Read TypeExpr)) → ℕ → Outcome (Read TypeExpr)
  array type_of at = do
    first ← expect_symbol tokens s.LeftBracket (at + 1)
    found ← indexes first
    close ← expect_symbol tokens s.RightBracket found.next
    from ← expect_word tokens w.WOf close
    element ← type_of from
    Ok (record { tree = t.Array found.tree element.tree (cover tokens at element.next); next = element.next })

  -- a type, which is a level of its own
  unfoldable pub type_expr : ℕ → ℕ → Outcome (Read TypeExpr)
  type_expr zero at = Err (refusal (begins_type (kind_at tokens at)) at)
  type_expr (suc levels) at =
      if is_word w.WArray (kind_at tokens at) then array (type_expr levels) at else index at
