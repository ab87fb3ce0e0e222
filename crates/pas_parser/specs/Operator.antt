-- The operators by their precedence (ISO 7185, 6.7.1), and the signs.
use Rattle.std.specs.Prelude.{Option, Some, None}
use Rattle.px_base.specs.declared.operator.BinOp.{BinOp}
use Rattle.px_base.specs.declared.operator.BinOp.TheVariants as op
use Rattle.pas_tree.specs.declared.constant.Sign.{Sign}
use Rattle.pas_tree.specs.declared.constant.Sign.TheVariants as sign_of
use Rattle.pas_lexer.specs.declared.token.TokenKind.{TokenKind}
use Rattle.pas_lexer.specs.declared.token.TokenKind.TheVariants.{Symbol, Word}
use Rattle.pas_lexer.specs.declared.token.Symbol.TheVariants as s
use Rattle.pas_lexer.specs.declared.word.Word.TheVariants as w

unfoldable pub relation : Option TokenKind → Option BinOp
relation (Some (Symbol s.Equal)) = Some op.Eq
relation (Some (Symbol s.NotEqual)) = Some op.Ne
relation (Some (Symbol s.Less)) = Some op.Lt
relation (Some (Symbol s.LessEqual)) = Some op.Le
relation (Some (Symbol s.Greater)) = Some op.Gt
relation (Some (Symbol s.GreaterEqual)) = Some op.Ge
relation _ = None

unfoldable pub adding : Option TokenKind → Option BinOp
adding (Some (Symbol s.Plus)) = Some op.Add
adding (Some (Symbol s.Minus)) = Some op.Sub
adding (Some (Word w.WOr)) = Some op.Or
adding _ = None

unfoldable pub multiplying : Option TokenKind → Option BinOp
multiplying (Some (Symbol s.Star)) = Some op.Mul
multiplying (Some (Word w.WDiv)) = Some op.Div
multiplying (Some (Word w.WMod)) = Some op.Mod
multiplying (Some (Word w.WAnd)) = Some op.And
multiplying _ = None

unfoldable pub sign : Option TokenKind → Option Sign
sign (Some (Symbol s.Plus)) = Some sign_of.Plus
sign (Some (Symbol s.Minus)) = Some sign_of.Minus
sign _ = None
