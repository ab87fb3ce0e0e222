-- Types (ISO 7185, 6.4).
use Rattle.std.specs.Prelude.{ℕ, List}
use Rattle.pas_lexer.specs.declared.token.Token.{Token}
use Rattle.pas_lexer.specs.declared.token.Symbol.TheVariants as s
use Rattle.pas_lexer.specs.declared.word.Word.TheVariants as w
use Rattle.pas_tree.specs.declared.constant.Constant.{Constant}
use Rattle.pas_tree.specs.declared.type_expr.TypeExpr.{TypeExpr}
use Rattle.pas_tree.specs.declared.type_expr.TypeExpr.TheVariants as t
use Rattle.pas_parser.specs.Look.{span_at, cover}
use Rattle.pas_parser.specs.Grammar.Word.{IsSymbol, IsWord, IsIdent, Separated}
use Rattle.pas_parser.specs.Grammar.Constant.{IsConstant}

module _ (tokens : List Token) where
  -- index = ident | constant ".." constant
  pub data IsIndex : TypeExpr → ℕ → ℕ → Type 0 where
    named : {i j : ℕ} → IsIdent tokens i j → IsIndex (t.Name (span_at tokens i)) i j
    range : {i j k l : ℕ} {lo hi : Constant} → IsConstant tokens lo i j → IsSymbol tokens s.DotDot j k → IsConstant tokens hi k l → IsIndex (t.Range lo hi (cover tokens i l)) i l

  -- type = index | "array" "[" index {"," index} "]" "of" type
  pub data IsType : TypeExpr → ℕ → ℕ → Type 0 where
    simple : {i j : ℕ} {of_type : TypeExpr} → IsIndex of_type i j → IsType of_type i j
    array : {i j k l m n o : ℕ} {indexes : List TypeExpr} {element : TypeExpr} →
        IsWord tokens w.WArray i j → IsSymbol tokens s.LeftBracket j k → Separated (IsSymbol tokens s.Comma) IsIndex indexes k l → IsSymbol tokens s.RightBracket l m →
        IsWord tokens w.WOf m n → IsType element n o → IsType (t.Array indexes element (cover tokens i o)) i o
