-- What the layers above use of a token list.
use Rattle.std.specs.Prelude.{◌≤◌, ◌<◌, ℕ}
use Rattle.std.specs.List.{All, AllPairs}
use Rattle.std.specs.Prelude.{List}
use Rattle.pas_lexer.specs.declared.token.Token.{Token}
use Rattle.pas_lexer.specs.declared.token.TokenKind.{TokenKind}
use Rattle.pas_lexer.specs.declared.token.TokenKind.TheVariants as kind

-- Each token has at least one byte and ends within the first `len` bytes, and each ends no later than a later one starts.
pub record SpansRise (len : ℕ) (tokens : List Token) : Type 0 where
  pub within : All (λ token. (token.span.start < token.span.end) × (token.span.end ≤ len)) tokens
  pub apart : AllPairs (λ before after. before.span.end ≤ after.span.start) tokens

-- a number is at most 2147483647
abbrev pub NumberFits : TokenKind → Type 0
NumberFits (kind.Number value) = value ≤ 2147483647
NumberFits _ = Unit {0}

abbrev pub NumbersFit : List Token → Type 0
NumbersFit = All (λ token. NumberFits token.kind)
