-- Which bytes are a lexeme, a separator or a comment, each taken as a whole (ISO 7185, 6.1).
use Rattle.std.specs.Prelude.{◌≡◌, ◌≢◌, ◌⊎◌, ℕ, ◌+◌, ◌-◌, ◌*◌, ◌<◌, Bool, true, false, ◌||◌, not, ◌==◌, if◌then◌else◌, List, [], ◌∷◌, ◌++◌, length, take, slice_index, Option, Some, None, IsTrue, codes, fold}
use Rattle.std.specs.Char.{is_ascii_alphabetic, is_ascii_digit}
use Rattle.std.specs.List.{list_all}
use Rattle.std.specs.Str.{byte, bytes_eq, str_to_ascii_lowercase}
use Rattle.pas_lexer.specs.declared.token.Symbol.{Symbol}
use Rattle.pas_lexer.specs.declared.token.Symbol.TheVariants.{Plus, Minus, Star, Equal, Less, Greater, NotEqual, LessEqual, GreaterEqual, Assign, Colon, Semicolon, Comma, Dot, DotDot, LeftParen, RightParen, LeftBracket, RightBracket}
use Rattle.pas_lexer.specs.declared.token.TokenKind.{TokenKind}
use Rattle.pas_lexer.specs.declared.token.TokenKind.TheVariants as kind
use Rattle.pas_lexer.specs.declared.word.Word.{Word}
use Rattle.pas_lexer.specs.declared.word.Word.TheVariants.{WAnd, WArray, WBegin, WCase, WConst, WDiv, WDo, WDownto, WElse, WEnd, WFile, WFor, WFunction, WGoto, WIf, WIn, WLabel, WMod, WNil, WNot, WOf, WOr, WPacked, WProcedure, WProgram, WRecord, WRepeat, WSet, WThen, WTo, WType, WUntil, WVar, WWhile, WWith}

abbrev pub Text : Type 0
Text = List ℕ

-- the first row of a table with this spelling
abbrev pub lookup : {A : Type 0} → List (Text × A) → Text → Option A
lookup [] bytes = None
lookup (row ∷ rows) bytes = if bytes_eq row.0 bytes then Some row.1 else lookup rows bytes

-- ---- separators and comments

-- a space, tab, carriage return, line feed or form feed
abbrev pub is_separator : ℕ → Bool
is_separator b = b == 32 || b == 9 || b == 13 || b == 10 || b == 12

abbrev pub IsSeparator : Text → Type 0
IsSeparator [] = ⊥
IsSeparator (b ∷ []) = IsTrue (is_separator b)
IsSeparator (b ∷ c ∷ bytes) = ⊥

-- the bytes end with a mark that closes comments
abbrev pub Closes : Text → Type 0
Closes bytes = (body : Text) × ((bytes ≡ body ++ codes "}") ⊎ (bytes ≡ body ++ codes "*)"))

-- One of the two opening marks, and then bytes up to the first closing mark of either kind. `{%` opens no comment.
pub record IsComment (bytes : Text) : Type 0 where
  pub opening : Text
  pub rest : Text
  pub whole : bytes ≡ opening ++ rest
  pub opens : ((opening ≡ codes "{") × (slice_index rest 0 ≢ byte "%")) ⊎ (opening ≡ codes "(*")
  pub closes : Closes rest
  pub first : (m : ℕ) → m < length rest → ¬ Closes (take m rest)

-- ---- names, word symbols and numbers

abbrev pub is_name_byte : ℕ → Bool
is_name_byte b = is_ascii_alphabetic b || is_ascii_digit b || b == byte "_"

-- a letter, and then letters, digits and underscores
abbrev pub IsName : Text → Type 0
IsName [] = ⊥
IsName (b ∷ bytes) = IsTrue (is_ascii_alphabetic b) × IsTrue (list_all is_name_byte bytes)

abbrev pub words : List (Text × Word)
words = (codes "and", WAnd) ∷ (codes "array", WArray) ∷ (codes "begin", WBegin) ∷ (codes "case", WCase) ∷ (codes "const", WConst)
    ∷ (codes "div", WDiv) ∷ (codes "do", WDo) ∷ (codes "downto", WDownto) ∷ (codes "else", WElse) ∷ (codes "end", WEnd)
    ∷ (codes "file", WFile) ∷ (codes "for", WFor) ∷ (codes "function", WFunction) ∷ (codes "goto", WGoto) ∷ (codes "if", WIf)
    ∷ (codes "in", WIn) ∷ (codes "label", WLabel) ∷ (codes "mod", WMod) ∷ (codes "nil", WNil) ∷ (codes "not", WNot)
    ∷ (codes "of", WOf) ∷ (codes "or", WOr) ∷ (codes "packed", WPacked) ∷ (codes "procedure", WProcedure) ∷ (codes "program", WProgram)
    ∷ (codes "record", WRecord) ∷ (codes "repeat", WRepeat) ∷ (codes "set", WSet) ∷ (codes "then", WThen) ∷ (codes "to", WTo)
    ∷ (codes "type", WType) ∷ (codes "until", WUntil) ∷ (codes "var", WVar) ∷ (codes "while", WWhile) ∷ (codes "with", WWith) ∷ []

-- the word symbol that is spelt so, in letters of either case
unfoldable pub word_of : Text → Option Word
word_of name = lookup words (str_to_ascii_lowercase name)

abbrev pub IsNumber : Text → Type 0
IsNumber digits = (digits ≢ []) × IsTrue (list_all is_ascii_digit digits)

-- the number that digits write after others whose value is given
abbrev pub decimal_after : ℕ → Text → ℕ
decimal_after = fold (λ value digit. value * 10 + (digit - byte "0"))

abbrev pub decimal : Text → ℕ
decimal = decimal_after 0

-- ---- strings

-- no byte of a string is a line feed or a carriage return
abbrev pub is_line_end : ℕ → Bool
is_line_end b = b == 10 || b == 13

-- how a string writes its bytes: a quote stands twice
abbrev pub doubled : Text → Text
doubled [] = []
doubled (b ∷ bytes) = if b == byte "'" then b ∷ b ∷ doubled bytes else b ∷ doubled bytes

-- what a string that stands for `value` looks like
abbrev pub quoted : Text → Text
quoted value = codes "'" ++ doubled value ++ codes "'"

abbrev pub IsString : Text → Type 0
IsString bytes = (value : Text) × IsTrue (list_all (λ b. not (is_line_end b)) value) × (bytes ≡ quoted value)

-- ---- special symbols

abbrev pub symbols : List (Text × Symbol)
symbols = (codes "+", Plus) ∷ (codes "-", Minus) ∷ (codes "*", Star) ∷ (codes "=", Equal) ∷ (codes "<", Less) ∷ (codes ">", Greater) ∷ (codes "<>", NotEqual)
    ∷ (codes "<=", LessEqual) ∷ (codes ">=", GreaterEqual) ∷ (codes ":=", Assign) ∷ (codes ":", Colon) ∷ (codes ";", Semicolon) ∷ (codes ",", Comma) ∷ (codes ".", Dot)
    ∷ (codes "..", DotDot) ∷ (codes "(", LeftParen) ∷ (codes ")", RightParen) ∷ (codes "[", LeftBracket) ∷ (codes "]", RightBracket) ∷ (codes "(.", LeftBracket) ∷ (codes ".)", RightBracket) ∷ []

unfoldable pub symbol_of : Text → Option Symbol
symbol_of = lookup symbols

-- ---- all of them

-- The bytes are the lexeme of this kind or, where the kind is `None`, a separator or a comment. Inside an assertion
-- there are no comments, and only there `%}` and `?` are lexemes.
abbrev pub IsForm : Bool → Option TokenKind → Text → Type 0
IsForm inside None bytes = IsSeparator bytes ⊎ ((inside ≡ false) × IsComment bytes)
IsForm inside (Some kind.Ident) bytes = IsName bytes × (word_of bytes ≡ None)
IsForm inside (Some (kind.Word word)) bytes = IsName bytes × (word_of bytes ≡ Some word)
IsForm inside (Some (kind.Number value)) bytes = IsNumber bytes × (decimal bytes ≡ value)
IsForm inside (Some kind.Text) bytes = IsString bytes
IsForm inside (Some (kind.Symbol symbol)) bytes = symbol_of bytes ≡ Some symbol
IsForm inside (Some kind.AssertStart) bytes = (inside ≡ false) × (bytes ≡ codes "{%")
IsForm inside (Some kind.AssertEnd) bytes = (inside ≡ true) × (bytes ≡ codes "%}")
IsForm inside (Some kind.Query) bytes = (inside ≡ true) × (bytes ≡ codes "?")
