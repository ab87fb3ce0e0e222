-- Expressions (ISO 7185, 6.7) and variables with subscripts (6.5).
use Rattle.std.specs.Prelude.{ℕ, ◌+◌, List, [], ◌∷◌, ◌++◌, Some, None}
use Rattle.px_base.specs.declared.operator.BinOp.{BinOp}
use Rattle.pas_lexer.specs.declared.token.Token.{Token}
use Rattle.pas_lexer.specs.declared.token.TokenKind.TheVariants as kind
use Rattle.pas_lexer.specs.declared.token.Symbol.TheVariants as s
use Rattle.pas_lexer.specs.declared.word.Word.TheVariants as w
use Rattle.pas_tree.specs.declared.constant.Sign.{Sign}
use Rattle.pas_tree.specs.declared.expr.Expr.{Expr}
use Rattle.pas_tree.specs.declared.expr.Expr.TheVariants as e
use Rattle.pas_tree.specs.declared.expr.Access.{Access, roll-Access}
use Rattle.pas_tree.specs.declared.expr.Actual.{Actual, roll-Actual}
use Rattle.pas_tree.specs.declared.expr.ActualValue.{ActualValue}
use Rattle.pas_tree.specs.declared.expr.ActualValue.TheVariants as actual_of
use Rattle.pas_parser.specs.Look.{span_at, cover}
use Rattle.pas_parser.specs.Operator.{sign, relation, adding, multiplying}
use Rattle.pas_parser.specs.Grammar.Word.{IsToken, IsSymbol, IsWord, IsIdent, IsListed}

module _ (tokens : List Token) where
  mutual
    -- expr = simple [relation simple]
    pub data IsExpr : Expr → ℕ → ℕ → Type 0 where
      uncompared : {i j : ℕ} {x : Expr} → IsSimple x i j → IsExpr x i j
      compared : {i j k l : ℕ} {x y : Expr} {op : BinOp} → IsSimple x i j → IsListed tokens relation op j k → IsSimple y k l →
          IsExpr (e.Binary op x y (span_at tokens j) (cover tokens i l)) i l

    -- simple = [sign] term {adding term}, from left to right
    pub data IsSimple : Expr → ℕ → ℕ → Type 0 where
      unsigned : {i j : ℕ} {x : Expr} → IsTerm x i j → IsSimple x i j
      signed : {i j k : ℕ} {x : Expr} {before : Sign} → IsListed tokens sign before i j → IsTerm x j k → IsSimple (e.Signed before x (cover tokens i k)) i k
      added : {i j k l : ℕ} {x y : Expr} {op : BinOp} → IsSimple x i j → IsListed tokens adding op j k → IsTerm y k l →
          IsSimple (e.Binary op x y (span_at tokens j) (cover tokens i l)) i l

    -- term = factor {multiplying factor}, from left to right
    pub data IsTerm : Expr → ℕ → ℕ → Type 0 where
      alone : {i j : ℕ} {x : Expr} → IsFactor x i j → IsTerm x i j
      multiplied : {i j k l : ℕ} {x y : Expr} {op : BinOp} → IsTerm x i j → IsListed tokens multiplying op j k → IsFactor y k l →
          IsTerm (e.Binary op x y (span_at tokens j) (cover tokens i l)) i l

    -- factor = number | "(" expr ")" | "not" factor | ident arguments | ident "[" exprs "]" {"[" exprs "]"}
    pub data IsFactor : Expr → ℕ → ℕ → Type 0 where
      number : {i j value : ℕ} → IsToken tokens (kind.Number value) i j → IsFactor (e.Number value (span_at tokens i)) i j
      parenthesized : {i j k l : ℕ} {x : Expr} → IsSymbol tokens s.LeftParen i j → IsExpr x j k → IsSymbol tokens s.RightParen k l → IsFactor (e.Paren x (cover tokens i l)) i l
      negated : {i j k : ℕ} {x : Expr} → IsWord tokens w.WNot i j → IsFactor x j k → IsFactor (e.Not x (cover tokens i k)) i k
      named : {i j k : ℕ} {actuals : List Actual} → IsIdent tokens i j → IsArguments actuals j k → IsFactor (e.Name (span_at tokens i) actuals (cover tokens i k)) i k
      indexed : {i j k : ℕ} {to : Access} → IsAccess to i j → IsSymbol tokens s.LeftBracket (i + 1) k → IsFactor (e.Indexed to (cover tokens i j)) i j

    -- access = ident {"[" exprs "]"}
    pub data IsAccess : Access → ℕ → ℕ → Type 0 where
      access : {i j k : ℕ} {xs : List Expr} → IsIdent tokens i j → IsSubscripts xs j k → IsAccess (roll-Access (record { name = span_at tokens i; subscripts = xs; span = cover tokens i k })) i k

    -- {"[" exprs "]"}, as one list
    pub data IsSubscripts : List Expr → ℕ → ℕ → Type 0 where
      no_subscript : {i : ℕ} → IsSubscripts [] i i
      subscripts : {i j k l m : ℕ} {xs ys : List Expr} → IsSymbol tokens s.LeftBracket i j → IsExprs xs j k → IsSymbol tokens s.RightBracket k l → IsSubscripts ys l m → IsSubscripts (xs ++ ys) i m

    -- exprs = expr {"," expr}
    pub data IsExprs : List Expr → ℕ → ℕ → Type 0 where
      one_expr : {i j : ℕ} {x : Expr} → IsExpr x i j → IsExprs (x ∷ []) i j
      more_exprs : {i j k l : ℕ} {x : Expr} {xs : List Expr} → IsExpr x i j → IsSymbol tokens s.Comma j k → IsExprs xs k l → IsExprs (x ∷ xs) i l

    -- arguments = ["(" actual {"," actual} ")"]
    pub data IsArguments : List Actual → ℕ → ℕ → Type 0 where
      no_argument : {i : ℕ} → IsArguments [] i i
      arguments : {i j k l : ℕ} {actuals : List Actual} → IsSymbol tokens s.LeftParen i j → IsActuals actuals j k → IsSymbol tokens s.RightParen k l → IsArguments actuals i l

    pub data IsActuals : List Actual → ℕ → ℕ → Type 0 where
      one_actual : {i j : ℕ} {x : Actual} → IsActual x i j → IsActuals (x ∷ []) i j
      more_actuals : {i j k l : ℕ} {x : Actual} {xs : List Actual} → IsActual x i j → IsSymbol tokens s.Comma j k → IsActuals xs k l → IsActuals (x ∷ xs) i l

    -- actual = (expr | string) [":" expr]
    pub data IsActual : Actual → ℕ → ℕ → Type 0 where
      narrow : {i j : ℕ} {value : ActualValue} → IsActualValue value i j → IsActual (roll-Actual (record { value = value; width = None })) i j
      wide : {i j k l : ℕ} {value : ActualValue} {x : Expr} → IsActualValue value i j → IsSymbol tokens s.Colon j k → IsExpr x k l → IsActual (roll-Actual (record { value = value; width = Some x })) i l

    pub data IsActualValue : ActualValue → ℕ → ℕ → Type 0 where
      value : {i j : ℕ} {x : Expr} → IsExpr x i j → IsActualValue (actual_of.Value x) i j
      string : {i j : ℕ} → IsToken tokens kind.«Text» i j → IsActualValue (actual_of.«Text» (span_at tokens i)) i j
