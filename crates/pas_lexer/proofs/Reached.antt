-- How far the pieces of a text lead that were found so far.
use Rattle.std.proofs.Common.{◌≡◌, ℕ, ◌<◌, ◌+◌, ◌==◌, Bool, true, false, cond, List, [], ◌∷◌, ◌++◌, length, drop, fold, Option, Some, None, refl, ap, sym, ◌∙◌, arith, subst}
use Rattle.std.proofs.lemmas.Bool.{cond_both}
use Rattle.std.specs.Char.{is_ascii_digit}
use Rattle.std.specs.Prelude.{slice_index}
use Rattle.std.specs.List.{cons_option}
use Rattle.std.proofs.lemmas.List.Elements.{filter_map-append}
use Rattle.std.specs.Option.{is_some, option_to_list}
use Rattle.pas_lexer.specs.Covering.{Piece, Place, IsPiece, Stands, Touch, HasTokens, Breaks, Refuses, opens_comment, LeavesOpen, past, start, end_of, token_of, tokens_of, opened_after, fault_at}
use Rattle.pas_lexer.specs.Lexeme.{Text}
use Rattle.pas_lexer.specs.declared.fault.LexFault.{LexFault}
use Rattle.pas_lexer.specs.declared.fault.LexFault.TheVariants.{BadByte, Unclosed, TooBig}
use Rattle.pas_lexer.specs.declared.token.Token.{Token}
use Rattle.pas_lexer.specs.declared.token.TokenKind.{TokenKind}
use Rattle.pas_lexer.proofs.Coverings.{Stuck, no-longer, no-covering}

abbrev pub place : ℕ → Option ℕ → Place
place at opened = record { at = at; opened = opened }

abbrev pub piece : Option TokenKind → ℕ → ℕ → Piece
piece token from to = record { token = token; span = record { start = from; end = to } }

-- touching pieces with these tokens lead from the start of the text to a place
pub record Reached (text : Text) (at : ℕ) (opened : Option ℕ) (tokens : List Token) : Type 0 where
  pub pieces : List Piece
  pub touch : Touch text start pieces
  pub end : end_of pieces ≡ place at opened
  pub are : tokens ≡ tokens_of pieces

pub reached-start : (text : Text) → Reached text 0 None []
reached-start text = record { pieces = []; touch = tt; end = refl; are = refl }

touch-more : (text : Text) (from : Place) (xs : List Piece) (x : Piece) → Touch text from xs → Stands text (fold past from xs) x → Touch text from (xs ++ x ∷ [])
touch-more text from [] x touch stands = (stands, tt)
touch-more text from (y ∷ xs) x touch stands = (touch.0, touch-more text (past from y) xs x touch.1 stands)

end-more : (from : Place) (xs : List Piece) (x : Piece) → fold past from (xs ++ x ∷ []) ≡ past (fold past from xs) x
end-more from [] x = refl
end-more from (y ∷ xs) x = end-more (past from y) xs x

one-token : (token : Option Token) → cons_option token [] ≡ option_to_list token
one-token None = refl
one-token (Some token) = refl

pub reached-more : (text : Text) (at len : ℕ) (opened : Option ℕ) (tokens : List Token) (token : Option TokenKind)
    → Reached text at opened tokens → IsPiece (is_some opened) (drop at text) token len
    → Reached text (at + len) (opened_after opened token at) (tokens ++ option_to_list (token_of (piece token at (at + len))))
reached-more text at len opened tokens token reached is_piece =
    let x = piece token at (at + len) in
    let stands : Stands text (place at opened) x = record { begins = refl; len = len; ends = refl; is_piece = is_piece } in
    let stands_there : Stands text (end_of reached.pieces) x = subst (λ (p : Place). Stands text p x) (sym reached.end) stands in
    record {
      pieces = reached.pieces ++ x ∷ [];
      touch = touch-more text start reached.pieces x reached.touch stands_there;
      end = end-more start reached.pieces x ∙ ap (λ p. past p x) reached.end;
      are = ap (λ ts. ts ++ option_to_list (token_of x)) reached.are ∙ ap (λ ts. tokens_of reached.pieces ++ ts) (sym (one-token (token_of x)))
          ∙ sym (filter_map-append token_of reached.pieces (x ∷ []));
    }

pub all-tokens : (text : Text) (tokens : List Token) → Reached text (length text) None tokens → HasTokens text tokens
all-tokens text tokens reached = record {
  pieces = reached.pieces;
  covers = (reached.touch, ap (λ p. p.at) reached.end);
  closed = ap (λ p. p.opened) reached.end;
  are = reached.are;
}

pub left-open : (text : Text) (at : ℕ) (tokens : List Token) → Reached text (length text) (Some at) tokens → LeavesOpen text at
left-open text at tokens reached = record {
  pieces = reached.pieces;
  covers = (reached.touch, ap (λ p. p.at) reached.end);
  opened = ap (λ p. p.opened) reached.end;
}

pub breaks : (text : Text) (at : ℕ) (opened : Option ℕ) (tokens : List Token) → at < length text → Reached text at opened tokens
    → ((token : Option TokenKind) (len : ℕ) → IsPiece (is_some opened) (drop at text) token len → ⊥)
    → Breaks text (fault_at (is_some opened) (drop at text) at)
breaks text at opened tokens before reached none =
    let stuck_here : Stuck text (place at opened) = record { none = none } in
    let stuck : Stuck text (end_of reached.pieces) = subst (λ (p : Place). Stuck text p) (sym reached.end) stuck_here in
    let at_is : (end_of reached.pieces).at ≡ at = ap (λ p. p.at) reached.end in
    let before_end : (end_of reached.pieces).at < length text = omega (arith, at_is) in
    record {
      pieces = reached.pieces;
      touch = reached.touch;
      longest = λ others touch. no-longer text start others reached.pieces touch reached.touch stuck;
      no_covering = λ others covering. no-covering text start others reached.pieces covering.0 reached.touch covering.1 stuck before_end;
      is = rw reached.end refl;
    }

pub broken-refuses : (text : Text) (inside : Bool) (rest : Text) (at : ℕ) → Breaks text (fault_at inside rest at) → Refuses text (fault_at inside rest at)
broken-refuses text inside rest at =
    let refuses = λ (fault : LexFault). Breaks text fault → Refuses text fault in
    let first = slice_index rest 0 in
    let digit = cond (is_ascii_digit first) (TooBig at) (BadByte at) in
    let quote = cond (first == 39) (Unclosed at false) digit in
    cond_both (opens_comment inside rest) (Unclosed at true) quote refuses (λ _ is. is)
    (λ _. cond_both (first == 39) (Unclosed at false) digit refuses (λ _ is. is)
    (λ _. cond_both (is_ascii_digit first) (TooBig at) (BadByte at) refuses (λ _ is. is) (λ _ is. is)))
