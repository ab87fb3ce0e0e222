-- Programs (ISO 7185, 6.10).
use Rattle.std.specs.Prelude.{ℕ, ◌+◌, ◌≤◌, if◌then◌else◌, List, length, Option, Some, None, Ok, Err}
use Rattle.pas_lexer.specs.declared.token.Token.{Token}
use Rattle.pas_lexer.specs.declared.token.TokenKind.{TokenKind}
use Rattle.pas_lexer.specs.declared.token.Symbol.TheVariants as s
use Rattle.pas_lexer.specs.declared.word.Word.TheVariants as w
use Rattle.pas_tree.specs.declared.block.Tree.{Tree}
use Rattle.pas_parser.specs.declared.fault.ParseFault.TheVariants.{NoRule}
use Rattle.pas_parser.specs.Block.{block}
use Rattle.pas_parser.specs.Constant.{idents}
use Rattle.pas_parser.specs.Look.{kind_at, span_at, is_symbol, expect_ident, expect_symbol, expect_word}
use Rattle.pas_parser.specs.Outcome.{Outcome, ◌>>=◌, IsWithin}

-- the greatest depth of a measured construct
abbrev pub max_depth : ℕ
max_depth = 200

-- a place that may be the same
abbrev pub StaysAt : List Token → ℕ → Outcome ℕ → Type 0
StaysAt tokens at (Ok next) = (at ≤ next) × (next ≤ length tokens)
StaysAt tokens at (Err e) = IsWithin tokens e

-- a fault is at a token or at the end
abbrev pub Faults : List Token → Outcome Tree → Type 0
Faults tokens (Ok tree) = Unit {0}
Faults tokens (Err e) = IsWithin tokens e

module _ (tokens : List Token) where
  -- `["(" idents ")"]`: the place after it
  unfoldable pub parameters : ℕ → Outcome ℕ
  parameters at =
      if is_symbol s.LeftParen (kind_at tokens at)
      then (do
        found ← idents tokens (at + 1)
        expect_symbol tokens s.RightParen found.next)
      else Ok at

  unfoldable pub nothing_at : ℕ → Tree → Option TokenKind → Outcome Tree
  nothing_at at tree None = Ok tree
  nothing_at at tree (Some more) = Err (NoRule at)

  -- `"program" ident ["(" idents ")"] ";" block "."`, and then the end
  unfoldable pub program : Outcome Tree
  program = do
    name ← expect_word tokens w.WProgram 0
    from ← expect_ident tokens name
    semicolon ← parameters from
    first ← expect_symbol tokens s.Semicolon semicolon
    found ← block tokens max_depth first
    last ← expect_symbol tokens s.Dot found.next
    nothing_at last (record { name = span_at tokens name; block = found.tree }) (kind_at tokens last)
