-- Faults of a source, and that they can be told.
use Rattle.std.proofs.Common.{◌≡◌, ◌⊎◌, inl, inr, ℕ, zero, suc, ◌≤◌, ◌<◌, Bool, true, false, cond, List, [], ◌∷◌, length, get_or, Option, Some, Ok, Err, refl, sym, ap, subst, ◌∙◌, fold, arith, length-drop}
use Rattle.std.specs.declared.alloc.AllocError.{AllocError}
use Rattle.pas_lexer.specs.Covering.{Breaks, HasFault, HasTokens, LeavesOpen, Piece, Place, Stands, Touch, end_of, opened_after, past, start}
use Rattle.pas_lexer.specs.Covering as covering
use Rattle.pas_lexer.specs.Lexeme.{Text}
use Rattle.pas_lexer.specs.Spans.{SpansRise}
use Rattle.pas_lexer.specs.declared.fault.LexFault.{LexFault}
use Rattle.pas_lexer.specs.declared.fault.LexFault.TheVariants as lexical
use Rattle.pas_lexer.specs.declared.token.Token.{Token}
use Rattle.pas_lexer.specs.declared.token.TokenKind.{TokenKind}
use Rattle.pas_lexer.specs.declared.token.TokenKind.TheVariants as kind
use Rattle.pas_parser.specs.Grammar.Program.{IsProgram}
use Rattle.pas_parser.specs.Outcome.{Gives, IsOwn}
use Rattle.pas_parser.specs.Program.{program}
use Rattle.pas_parser.specs.declared.fault.ParseFault.{ParseFault}
use Rattle.pas_parser.specs.declared.fault.ParseFault.TheVariants.{NoRule, TooDeep}
use Rattle.pas_tree.specs.declared.block.Tree.{Tree}
use Rattle.report.specs.Wording.{CanTellLexical, IsSyntax, lexical_place}
use Rattle.report.specs.declared.fault.SourceFault.TheVariants.{Parse}
use Rattle.syntox.specs.Source.{HasSourceFault, IsTreeOf, token_of, token_place}
use Rattle.syntox.specs.Source as source

-- ---- lexical faults

-- a place of a text, and the mark before it that opens an assertion
record InText (n : ℕ) (place : Place) : Type 0 where
  at : place.at ≤ n
  opened : (m : ℕ) → place.opened ≡ Some m → m ≤ n

opened_in : (token : Option TokenKind) (opened : Option ℕ) (at n : ℕ) → at ≤ n → ((m : ℕ) → opened ≡ Some m → m ≤ n)
    → (m : ℕ) → opened_after opened token at ≡ Some m → m ≤ n
opened_in (Some kind.AssertStart) opened at n here before m e = let same : at ≡ m = cc in omega arith
opened_in (Some kind.AssertEnd) opened at n here before m e = grind arith
opened_in _ opened at n here before m e = before m e

piece_in : (text : Text) (place : Place) (piece : Piece) → Stands text place piece → InText (length text) place → InText (length text) (past place piece)
piece_in text place piece s i = record {
  at = omega (arith, s.ends, s.is_piece.within, length-drop place.at text, i.at);
  opened = opened_in piece.token place.opened piece.span.start (length text) (omega (arith, s.begins, i.at)) i.opened;
}

pieces_in : (text : Text) (pieces : List Piece) (place : Place) → Touch text place pieces → InText (length text) place → InText (length text) (fold past place pieces)
pieces_in text [] place t i = i
pieces_in text (piece ∷ pieces) place t i = pieces_in text pieces (past place piece) t.1 (piece_in text place piece t.0 i)

end_in : (text : Text) (pieces : List Piece) → Touch text start pieces → InText (length text) (end_of pieces)
end_in text pieces t = pieces_in text pieces start t (record { at = omega arith; opened = λ m e. grind arith })

fault_place : (a b c : Bool) (at : ℕ)
    → lexical_place (cond a (lexical.Unclosed at true) (cond b (lexical.Unclosed at false) (cond c (lexical.TooBig at) (lexical.BadByte at)))) ≡ at
fault_place true b c at = refl
fault_place false true c at = refl
fault_place false false true at = refl
fault_place false false false at = refl

breaks_in : (text : Text) (fault : LexFault) → Breaks text fault → lexical_place fault ≤ length text
breaks_in text fault b =
    let place = end_of b.pieces in
    let same : lexical_place fault ≡ place.at = ap lexical_place b.is ∙ fault_place _ _ _ place.at in
    omega (arith, same, (end_in text b.pieces b.touch).at)

pub lexical_in : (text : Text) (fault : LexFault) → HasFault text fault → CanTellLexical (length text) fault
lexical_in text (lexical.BadByte at) b = (tt, breaks_in text (lexical.BadByte at) b)
lexical_in text (lexical.Unclosed at comment) b = (tt, breaks_in text (lexical.Unclosed at comment) b)
lexical_in text (lexical.TooBig at) b = (tt, breaks_in text (lexical.TooBig at) b)
lexical_in text (lexical.OpenAssertion at) l = (tt, (end_in text l.pieces l.covers.0).opened at l.opened)
lexical_in text (lexical.Memory e) b = absurd b

pub lexical_fault : (text : Text) (fault : LexFault) → ((e : AllocError) → fault ≡ lexical.Memory e → ⊥) → covering.Refuses text fault → HasFault text fault
lexical_fault text (lexical.BadByte at) other r = r
lexical_fault text (lexical.Unclosed at comment) other r = r
lexical_fault text (lexical.TooBig at) other r = r
lexical_fault text (lexical.OpenAssertion at) other r = r
lexical_fault text (lexical.Memory e) other r = absurd (other e refl)

-- ---- faults of the syntax

token_in : (tokens : List Token) (len token : ℕ) → ((k : ℕ) (d : Token) → k < length tokens → (get_or tokens k d).span.start ≤ len) → token_place len tokens token ≤ len
token_in [] len token starts = omega arith
token_in (t ∷ ts) len zero starts = starts 0 t (omega arith)
token_in (t ∷ ts) len (suc n) starts = token_in ts len n (λ k d less. starts (suc k) d (omega arith))

pub place_in : (tokens : List Token) (len token : ℕ) → SpansRise len tokens → token_place len tokens token ≤ len
place_in tokens len token rise = token_in tokens len token (λ k d less. let w = rise.within k d less in omega (arith, w.0, w.1))

abbrev pub IsAt : ℕ → ParseFault → Type 0
IsAt token fault = (fault ≡ NoRule token) ⊎ (fault ≡ TooDeep token)

abbrev pub Own : ℕ → ParseFault → Type 0
Own token fault = IsOwn fault × (token_of fault ≡ token) × IsSyntax fault

pub own : (token : ℕ) (fault : ParseFault) → IsAt token fault → Own token fault
own token fault (inl e) = subst (Own token) (sym e) (tt, refl, tt)
own token fault (inr e) = subst (Own token) (sym e) (tt, refl, tt)

pub syntax_fault : (text : Text) (tokens : List Token) (fault : ParseFault) (end token place : ℕ) → IsAt token fault → place ≡ token_place end tokens token
    → length text ≡ end → HasTokens text tokens → Gives (program tokens) (Err fault) → HasSourceFault text (Parse fault place)
syntax_fault text tokens fault end token place is place_is ends has gives =
    let o = own token fault is in
    let same : token_place (length text) tokens (token_of fault) ≡ place =
    ap (λ n. token_place n tokens (token_of fault)) ends ∙ ap (λ t. token_place end tokens t) o.1 ∙ sym place_is in
    subst (λ p. HasSourceFault text (Parse fault p)) same (source.syntax has (gives o.0))

-- ---- trees

pub tree_of : (text : Text) (given tokens : List Token) (tree : Tree) → given ≡ tokens → HasTokens text tokens → program given ≡ Ok tree → IsProgram given tree
    → IsTreeOf text tree
tree_of text given tokens tree same has read is = record { tokens = given; has_tokens = subst (HasTokens text) (sym same) has; is_read = read; is_program = is }
