-- Programs (ISO 7185, 6.10).
use Rattle.std.specs.Prelude.{ℕ, List, length}
use Rattle.px_base.specs.declared.place.Span.{Span}
use Rattle.pas_lexer.specs.declared.token.Token.{Token}
use Rattle.pas_lexer.specs.declared.token.Symbol.TheVariants as s
use Rattle.pas_lexer.specs.declared.word.Word.TheVariants as w
use Rattle.pas_tree.specs.declared.block.Block.{Block}
use Rattle.pas_tree.specs.declared.block.Tree.{Tree}
use Rattle.pas_parser.specs.Look.{span_at}
use Rattle.pas_parser.specs.Grammar.Word.{IsSymbol, IsWord, IsIdent}
use Rattle.pas_parser.specs.Grammar.Constant.{IsNames}
use Rattle.pas_parser.specs.Grammar.Block.{IsBlock}

module _ (tokens : List Token) where
  -- ["(" ident {"," ident} ")"]
  pub data IsParameters : ℕ → ℕ → Type 0 where
    no_parameters : {i : ℕ} → IsParameters i i
    parameters : {i j k l : ℕ} {names : List Span} → IsSymbol tokens s.LeftParen i j → IsNames tokens names j k → IsSymbol tokens s.RightParen k l → IsParameters i l

  -- program = "program" ident ["(" ident {"," ident} ")"] ";" block "."
  pub data IsProgramFrom : Tree → ℕ → ℕ → Type 0 where
    program : {i j k l m n o : ℕ} {block : Block} → IsWord tokens w.WProgram i j → IsIdent tokens j k → IsParameters k l → IsSymbol tokens s.Semicolon l m → IsBlock tokens block m n → IsSymbol tokens s.Dot n o →
        IsProgramFrom (record { name = span_at tokens j; block = block }) i o

  -- all the tokens are the program of this tree
  abbrev pub IsProgram : Tree → Type 0
  IsProgram tree = IsProgramFrom tree 0 (length tokens)
