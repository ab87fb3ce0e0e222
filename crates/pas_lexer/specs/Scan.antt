-- How the piece at the front of a text is found from its first byte on. `proofs/Found.antt` proves that it is the piece of `Covering`.
use Rattle.std.specs.Prelude.{ℕ, ◌+◌, Bool, false, not, ◌&&◌, ◌||◌, ◌==◌, nat_le, if◌then◌else◌, List, [], ◌∷◌, take, drop, slice_index, Option, Some, None}
use Rattle.std.specs.Char.{is_ascii_alphabetic, is_ascii_digit}
use Rattle.std.specs.List.{filter, prefix_len}
use Rattle.std.specs.Option.{option_map, option_map_or}
use Rattle.std.specs.Str.{byte}
use Rattle.pas_lexer.specs.Covering.{opens_comment}
use Rattle.pas_lexer.specs.Lexeme.{Text, is_separator, is_name_byte, is_line_end, words, word_of, decimal, symbol_of}
use Rattle.pas_lexer.specs.declared.piece.Piece.{Piece}
use Rattle.pas_lexer.specs.declared.word.Word.{Word}
use Rattle.pas_lexer.specs.declared.token.TokenKind.{TokenKind}
use Rattle.pas_lexer.specs.declared.token.TokenKind.TheVariants as kind

abbrev pub piece : Option TokenKind → ℕ → Piece
piece token len = record { token = token; len = len }

-- how many bytes from `at` on there are up to and with the first mark that closes a comment
abbrev pub comment_end : ℕ → Text → Option ℕ
comment_end at [] = None
comment_end at (b ∷ rest) =
    if b == byte "}" then Some (at + 1)
    else (if b == byte "*" && slice_index rest 0 == byte ")" then Some (at + 2) else comment_end (at + 1) rest)

unfoldable pub comment : Text → Option Piece
comment rest =
    let opening = if slice_index rest 0 == byte "{" then 1 else 2 in
    option_map (λ len. piece None len) (comment_end opening (drop opening rest))

-- Past the opening quote: the place after the last quote that can close the string, or `closed` where there is none.
-- After a quote comes another one, or the string ends.
abbrev pub string_end : Bool → ℕ → ℕ → Text → ℕ
string_end after_quote closed at [] = closed
string_end after_quote closed at (b ∷ rest) =
    if b == byte "'" then string_end (not after_quote) (if after_quote then closed else at + 1) (at + 1) rest
    else (if after_quote || is_line_end b then closed else string_end false closed (at + 1) rest)

unfoldable pub string : Text → Option Piece
string rest = let len = string_end false 0 1 (drop 1 rest) in if len == 0 then None else Some (piece (Some kind.Text) len)

-- the word symbols with this first letter
unfoldable pub words_of : ℕ → List (Text × Word)
words_of letter = filter (λ row. slice_index row.0 0 == letter) words

abbrev pub name_kind : Text → TokenKind
name_kind name = option_map_or kind.Word (word_of name) kind.Ident

unfoldable pub name : Text → Piece
name rest = let len = prefix_len is_name_byte rest in piece (Some (name_kind (take len rest))) len

unfoldable pub number : Text → Option Piece
number rest =
    let len = prefix_len is_ascii_digit rest in
    let value = decimal (take len rest) in
    if nat_le value 2147483647 then Some (piece (Some (kind.Number value)) len) else None

-- the special symbol of two bytes, or else that of one
unfoldable pub symbol : ℕ → ℕ → Option Piece
symbol first second =
    let one = option_map (λ s. piece (Some (kind.Symbol s)) 1) (symbol_of (first ∷ [])) in
    option_map_or (λ s. Some (piece (Some (kind.Symbol s)) 2)) (symbol_of (first ∷ second ∷ [])) one

unfoldable pub mark : Bool → ℕ → ℕ → Option Piece
mark inside first second =
    if first == byte "{" && second == byte "%" && not inside then Some (piece (Some kind.AssertStart) 2)
    else (if first == byte "%" && second == byte "}" && inside then Some (piece (Some kind.AssertEnd) 2)
    else (if first == byte "?" && inside then Some (piece (Some kind.Query) 1)
    else symbol first second))

unfoldable pub next_piece : Bool → Text → Option Piece
next_piece inside rest =
    let first = slice_index rest 0 in
    if is_ascii_alphabetic first then Some (name rest)
    else (if is_separator first then Some (piece None 1)
    else (if is_ascii_digit first then number rest
    else (if first == byte "'" then string rest
    else (if opens_comment inside rest then comment rest
    else mark inside first (slice_index rest 1)))))
