-- The line that tells of a fault of a source.
use Rattle.std.specs.Prelude.{ℕ, ◌-◌, ◌≤◌, ◌==◌, Bool, true, false, List, [], ◌∷◌, ◌++◌, length, slice_get, unwrap_or, decimal, codes, if◌then◌else◌}
use Rattle.px_base.specs.Place.{place_at}
use Rattle.px_base.specs.declared.place.Pos.{Pos}
use Rattle.pas_lexer.specs.Lexeme.{Text}
use Rattle.pas_lexer.specs.declared.fault.LexFault.{LexFault}
use Rattle.pas_lexer.specs.declared.fault.LexFault.TheVariants as lexical
use Rattle.pas_parser.specs.declared.fault.ParseFault.{ParseFault}
use Rattle.pas_parser.specs.declared.fault.ParseFault.TheVariants as syntax
use Rattle.pas_check.specs.declared.fault.CheckFault.TheVariants as checked
use Rattle.report.specs.declared.fault.SourceFault.{SourceFault}
use Rattle.report.specs.declared.fault.SourceFault.TheVariants.{TooLarge, Lex, Parse, Check, Cells}

-- ---- messages

abbrev pub lexical_message : LexFault → Text
lexical_message (lexical.BadByte at) = codes "bad byte"
lexical_message (lexical.Unclosed at true) = codes "unclosed comment"
lexical_message (lexical.Unclosed at false) = codes "unclosed string"
lexical_message (lexical.TooBig at) = codes "number too large"
lexical_message (lexical.OpenAssertion at) = codes "unclosed assertion"
lexical_message (lexical.Memory e) = []

-- a fault at a token, or at the end of the text
abbrev pub syntax_message : ParseFault → Bool → Text
syntax_message (syntax.NoRule token) at_end = if at_end then codes "unexpected end" else codes "unexpected token"
syntax_message (syntax.TooDeep token) at_end = codes "nesting too deep"
syntax_message (syntax.Memory e) at_end = []

-- the rules of names, types, labels and control variables, by their numbers from 1
abbrev pub check_messages : List Text
check_messages = codes "unknown name" ∷ codes "declared twice" ∷ codes "used before its declaration"
    ∷ codes "wrong kind of name" ∷ codes "wrong type" ∷ codes "wrong number of actuals"
    ∷ codes "not a variable of the formal type" ∷ codes "empty range" ∷ codes "label not declared and placed once"
    ∷ codes "goto not allowed" ∷ codes "control variable not allowed" ∷ codes "double case constant"
    ∷ codes "function without assignment to its name" ∷ codes "forward without body" ∷ codes "call in an assertion"
    ∷ codes "too many elements" ∷ codes "procedures nested too deep" ∷ codes "label above 9999" ∷ []

abbrev pub check_message : ℕ → Text
check_message code = unwrap_or (slice_get check_messages (code - 1)) []

-- ---- lines

-- `NAME:line:col: message`
abbrev pub placed_line : Text → Pos → Text → Text
placed_line name place message =
    name ++ codes ":" ++ decimal place.line ++ codes ":" ++ decimal place.col ++ codes ": " ++ message ++ codes "\n"

-- `NAME: too many cells: N`
abbrev pub cells_line : Text → ℕ → Text
cells_line name cells = name ++ codes ": too many cells: " ++ decimal cells ++ codes "\n"

-- the place of a lexical fault
abbrev pub lexical_place : LexFault → ℕ
lexical_place (lexical.BadByte at) = at
lexical_place (lexical.Unclosed at comment) = at
lexical_place (lexical.TooBig at) = at
lexical_place (lexical.OpenAssertion at) = at
lexical_place (lexical.Memory e) = 0

abbrev pub lexical_line : Text → Text → LexFault → Text
lexical_line name text fault = placed_line name (place_at text (lexical_place fault)) (lexical_message fault)

-- The line of a fault of a text, under the name of its file. No token begins at the end of the text.
abbrev pub fault_line : Text → Text → SourceFault → Text
fault_line name text TooLarge = name ++ codes ": too large\n"
fault_line name text (Lex fault) = lexical_line name text fault
fault_line name text (Parse fault at) = placed_line name (place_at text at) (syntax_message fault (at == length text))
fault_line name text (Check (checked.Wrong code at)) = placed_line name (place_at text at) (check_message code)
fault_line name text (Check (checked.Memory e)) = []
fault_line name text (Cells cells) = cells_line name cells

-- ---- what can be told

-- want of memory is no fault of a source
abbrev pub IsLexical : LexFault → Type 0
IsLexical (lexical.Memory e) = ⊥
IsLexical _ = Unit {0}

abbrev pub IsSyntax : ParseFault → Type 0
IsSyntax (syntax.Memory e) = ⊥
IsSyntax _ = Unit {0}

abbrev pub CanTellLexical : ℕ → LexFault → Type 0
CanTellLexical len fault = IsLexical fault × (lexical_place fault ≤ len)

-- The fault is one of a source of this length: its place is in the source or at its end, and its rule is one of the
-- eighteen.
abbrev pub CanTell : ℕ → SourceFault → Type 0
CanTell len TooLarge = Unit {0}
CanTell len (Lex fault) = CanTellLexical len fault
CanTell len (Parse fault at) = IsSyntax fault × (at ≤ len)
CanTell len (Check (checked.Wrong code at)) = (1 ≤ code) × (code ≤ 18) × (at ≤ len)
CanTell len (Check (checked.Memory e)) = ⊥
CanTell len (Cells cells) = Unit {0}
