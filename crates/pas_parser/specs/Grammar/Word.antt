-- The productions as relations: a relation of the places i and j says that the tokens from i up to j, without j, are the
-- construct, and which tree it has. This file has single tokens and lists.
use Rattle.std.specs.Prelude.{◌≡◌, ℕ, ◌+◌, List, [], ◌∷◌, Option, Some}
use Rattle.px_base.specs.declared.place.Span.{Span}
use Rattle.pas_lexer.specs.declared.token.Token.{Token}
use Rattle.pas_lexer.specs.declared.token.TokenKind.{TokenKind}
use Rattle.pas_lexer.specs.declared.token.TokenKind.TheVariants as kind
use Rattle.pas_lexer.specs.declared.token.Symbol.{Symbol}
use Rattle.pas_lexer.specs.declared.word.Word.{Word}
use Rattle.pas_parser.specs.Look.{kind_at, span_at}

module _ (tokens : List Token) where
  -- one token of this kind
  pub record IsToken (kind : TokenKind) (i j : ℕ) : Type 0 where
    pub here : kind_at tokens i ≡ Some kind
    pub next : j ≡ i + 1

  abbrev pub IsSymbol : Symbol → ℕ → ℕ → Type 0
  IsSymbol symbol = IsToken (kind.Symbol symbol)

  abbrev pub IsWord : Word → ℕ → ℕ → Type 0
  IsWord word = IsToken (kind.Word word)

  abbrev pub IsIdent : ℕ → ℕ → Type 0
  IsIdent = IsToken kind.Ident

  -- one token that a table has, as an operator or a sign
  pub record IsListed {A : Type 0} (table : Option TokenKind → Option A) (a : A) (i j : ℕ) : Type 0 where
    pub here : table (kind_at tokens i) ≡ Some a
    pub next : j ≡ i + 1

  -- an identifier by its place
  pub record IsName (name : Span) (i j : ℕ) : Type 0 where
    pub token : IsIdent i j
    pub place : name ≡ span_at tokens i

-- the parts of a list, one after the other
pub data Many {T : Type 0} (Item : T → ℕ → ℕ → Type 0) : List T → ℕ → ℕ → Type 0 where
  no_more : {i : ℕ} → Many Item [] i i
  one_more : {x : T} {xs : List T} {i j k : ℕ} → Item x i j → Many Item xs j k → Many Item (x ∷ xs) i k

-- one or more
pub data OneOrMore {T : Type 0} (Item : T → ℕ → ℕ → Type 0) : List T → ℕ → ℕ → Type 0 where
  only : {x : T} {i j : ℕ} → Item x i j → OneOrMore Item (x ∷ []) i j
  and_then : {x : T} {xs : List T} {i j k : ℕ} → Item x i j → OneOrMore Item xs j k → OneOrMore Item (x ∷ xs) i k

-- one or more, with a separator between them
pub data Separated {T : Type 0} (Separator : ℕ → ℕ → Type 0) (Item : T → ℕ → ℕ → Type 0) : List T → ℕ → ℕ → Type 0 where
  last_one : {x : T} {i j : ℕ} → Item x i j → Separated Separator Item (x ∷ []) i j
  and_more : {x : T} {xs : List T} {i j k l : ℕ} → Item x i j → Separator j k → Separated Separator Item xs k l → Separated Separator Item (x ∷ xs) i l
