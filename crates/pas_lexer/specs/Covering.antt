-- The coverings of a text by pieces, the tokens of a covering, and the fault of a text that has none.
use Rattle.std.specs.Prelude.{◌≡◌, ℕ, ◌+◌, ◌≤◌, ◌<◌, Bool, true, false, not, ◌&&◌, ◌||◌, ◌==◌, if◌then◌else◌, List, [], ◌∷◌, length, take, drop, slice_index, Option, Some, None, is_some, IsTrue, fold}
use Rattle.std.specs.Char.{is_ascii_digit}
use Rattle.std.specs.List.{filter_map}
use Rattle.std.specs.Option.{option_map, ForSome}
use Rattle.std.specs.Str.{byte}
use Rattle.px_base.specs.declared.place.Span.{Span}
use Rattle.pas_lexer.specs.Lexeme.{Text, IsForm}
use Rattle.pas_lexer.specs.Spans.{NumberFits}
use Rattle.pas_lexer.specs.declared.fault.LexFault.{LexFault}
use Rattle.pas_lexer.specs.declared.fault.LexFault.TheVariants.{BadByte, Unclosed, TooBig, OpenAssertion, Memory}
use Rattle.pas_lexer.specs.declared.token.Token.{Token}
use Rattle.pas_lexer.specs.declared.token.TokenKind.{TokenKind}
use Rattle.pas_lexer.specs.declared.token.TokenKind.TheVariants.{AssertStart, AssertEnd}

-- A comment opens here: outside an assertion, at `{` without `%` after it, and at `(*`.
abbrev pub opens_comment : Bool → Text → Bool
opens_comment inside rest =
    let first = slice_index rest 0 in
    let second = slice_index rest 1 in
    ((first == byte "{" && not (second == byte "%")) || (first == byte "(" && second == byte "*")) && not inside

-- The first `len` bytes are a piece of a text that goes on with `rest`: a lexeme, a separator or a comment, and no more
-- bytes are one. Where a comment opens, nothing else is a piece, and a number is at most 2147483647.
pub record IsPiece (inside : Bool) (rest : Text) (token : Option TokenKind) (len : ℕ) : Type 0 where
  pub within : len ≤ length rest
  pub form : IsForm inside token (take len rest)
  pub longest : (more : ℕ) (other : Option TokenKind) → len < more → more ≤ length rest → ¬ IsForm inside other (take more rest)
  pub no_symbol : IsTrue (opens_comment inside rest) → token ≡ None
  pub no_larger : ForSome token NumberFits

-- ---- coverings

-- a piece of a text: the kind of its token, if it is one, and its place
pub record Piece : Type 0 where
  pub token : Option TokenKind
  pub span : Span

-- a place between two pieces, and the mark that opens the assertion around it, if there is one
pub record Place : Type 0 where
  pub at : ℕ
  pub opened : Option ℕ

abbrev pub start : Place
start = record { at = 0; opened = None }

-- the opening mark of the assertion that is open after a piece
abbrev pub opened_after : Option ℕ → Option TokenKind → ℕ → Option ℕ
opened_after opened (Some AssertStart) at = Some at
opened_after opened (Some AssertEnd) at = None
opened_after opened _ at = opened

abbrev pub past : Place → Piece → Place
past place piece = record { at = piece.span.end; opened = opened_after place.opened piece.token piece.span.start }

-- the piece begins at the place, and is one there
pub record Stands (text : Text) (place : Place) (piece : Piece) : Type 0 where
  pub begins : piece.span.start ≡ place.at
  pub len : ℕ
  pub ends : piece.span.end ≡ place.at + len
  pub is_piece : IsPiece (is_some place.opened) (drop place.at text) piece.token len

-- pieces that touch, the first of which begins at the place
abbrev pub Touch : Text → Place → List Piece → Type 0
Touch text place [] = Unit {0}
Touch text place (piece ∷ pieces) = Stands text place piece × Touch text (past place piece) pieces

-- where pieces lead that begin at the start of a text
abbrev pub end_of : List Piece → Place
end_of = fold past start

-- pieces that touch and make the whole text
abbrev pub IsCovering : Text → List Piece → Type 0
IsCovering text pieces = Touch text start pieces × ((end_of pieces).at ≡ length text)

-- ---- tokens

abbrev pub token_of : Piece → Option Token
token_of piece = option_map (λ kind. record { kind = kind; span = piece.span }) piece.token

-- the pieces that are neither separators nor comments
abbrev pub tokens_of : List Piece → List Token
tokens_of = filter_map token_of

-- the tokens of a text: those of its covering, which leaves no assertion open
pub record HasTokens (text : Text) (tokens : List Token) : Type 0 where
  pub pieces : List Piece
  pub covers : IsCovering text pieces
  pub closed : (end_of pieces).opened ≡ None
  pub are : tokens ≡ tokens_of pieces

-- ---- faults

-- the fault at a place where no piece begins: it is told by the bytes that stand there
abbrev pub fault_at : Bool → Text → ℕ → LexFault
fault_at inside rest at =
    if opens_comment inside rest then Unclosed at true
    else (if slice_index rest 0 == byte "'" then Unclosed at false
    else (if is_ascii_digit (slice_index rest 0) then TooBig at else BadByte at))

-- The text has no covering, and the fault is at the end of the longest list of touching pieces from its start.
pub record Breaks (text : Text) (fault : LexFault) : Type 0 where
  pub pieces : List Piece
  pub touch : Touch text start pieces
  pub longest : (others : List Piece) → Touch text start others → length others ≤ length pieces
  pub no_covering : (others : List Piece) → ¬ IsCovering text others
  pub is : let place = end_of pieces in fault ≡ fault_at (is_some place.opened) (drop place.at text) place.at

-- The text has a covering, and at its end the assertion is open that begins at `at`.
pub record LeavesOpen (text : Text) (at : ℕ) : Type 0 where
  pub pieces : List Piece
  pub covers : IsCovering text pieces
  pub opened : (end_of pieces).opened ≡ Some at

-- the fault of a text
abbrev pub HasFault : Text → LexFault → Type 0
HasFault text (OpenAssertion at) = LeavesOpen text at
HasFault text (Memory _) = ⊥
HasFault text fault = Breaks text fault

-- why a text is refused: for its fault, or for want of memory, which may come at any text
abbrev pub Refuses : Text → LexFault → Type 0
Refuses text (Memory _) = Unit {0}
Refuses text fault = HasFault text fault
