-- The tokens of touching pieces rise, and there are no more of them than bytes.
use Rattle.std.proofs.Common.{ℕ, ◌<◌, ◌≤◌, ◌+◌, List, [], ◌∷◌, length, drop, Option, Some, None, arith, length-drop, refl}
use Rattle.std.proofs.lemmas.List.Elements.{All-cons, All-nil}
use Rattle.std.proofs.lemmas.List.Kept.{AllPairs-cons}
use Rattle.std.specs.List.{All, cons_option}
use Rattle.std.specs.Option.{is_some, option_map, ForSome}
use Rattle.px_base.specs.declared.place.Span.{Span}
use Rattle.pas_lexer.specs.Covering.{Piece, Place, Touch, HasTokens, past, start, tokens_of}
use Rattle.pas_lexer.specs.Lexeme.{Text}
use Rattle.pas_lexer.specs.Spans.{SpansRise, NumberFits, NumbersFit}
use Rattle.pas_lexer.specs.declared.token.Token.{Token}
use Rattle.pas_lexer.specs.declared.token.TokenKind.{TokenKind}
use Rattle.pas_lexer.proofs.Forms.{piece-advances}

-- the tokens begin at `low` at the earliest
record Rising (low : ℕ) (len : ℕ) (tokens : List Token) : Type 0 where
  after : All (λ token. low ≤ token.span.start) tokens
  rise : SpansRise len tokens
  numbers : NumbersFit tokens
  few : low + length tokens ≤ len

token : TokenKind → Span → Token
token kind span = record { kind = kind; span = span }

rising-cons : (kind : Option TokenKind) (span : Span) (len : ℕ) (tokens : List Token) → span.start < span.end → span.end ≤ len
    → ForSome kind NumberFits → Rising span.end len tokens → Rising span.start len (cons_option (option_map (λ kind. token kind span) kind) tokens)
unfolding token
rising-cons None span len tokens long ends fits rising = record {
  after = λ k d before. let here = rising.after k d before in omega (arith, here, long);
  rise = rising.rise;
  numbers = rising.numbers;
  few = omega (arith, long, rising.few);
}
rising-cons (Some kind) span len tokens long ends fits rising =
    let first = token kind span in
    record {
      after = All-cons (λ token. span.start ≤ token.span.start) first tokens (omega arith)
          (λ k d before. let here = rising.after k d before in omega (arith, here, long));
      rise = record {
        within = All-cons (λ token. (token.span.start < token.span.end) × (token.span.end ≤ len)) first tokens (long, ends) rising.rise.within;
        apart = AllPairs-cons (λ before after. before.span.end ≤ after.span.start) first tokens rising.after rising.rise.apart;
      };
      numbers = All-cons (λ token. NumberFits token.kind) first tokens (fits kind refl) rising.numbers;
      few = omega (arith, long, rising.few);
    }

rising : (text : Text) (from : Place) (pieces : List Piece) → from.at ≤ length text → Touch text from pieces → Rising from.at (length text) (tokens_of pieces)
unfolding token
rising text from [] before touch = record {
  after = All-nil (λ token. from.at ≤ token.span.start);
  rise = record {
    within = All-nil (λ token. (token.span.start < token.span.end) × (token.span.end ≤ length text));
    apart = λ i j d less within. absurd (omega (arith, within));
  };
  numbers = All-nil (λ token. NumberFits token.kind);
  few = omega (arith, before);
}
rising text from (piece ∷ pieces) before touch =
    let stands = touch.0 in
    let advances = piece-advances (is_some from.opened) (drop from.at text) piece.token stands.len stands.is_piece in
    let within = simp length-drop at stands.is_piece.within in
    let begins = stands.begins in
    let ends = stands.ends in
    let inside : piece.span.end ≤ length text = omega (arith, within, ends, before) in
    let long : piece.span.start < piece.span.end = omega (arith, advances, begins, ends) in
    let rest = rising text (past from piece) pieces inside touch.1 in
    let all = rising-cons piece.token piece.span (length text) (tokens_of pieces) long inside stands.is_piece.no_larger rest in
    rw (← begins) all

pub tokens-rise : (text : Text) (tokens : List Token) → HasTokens text tokens → SpansRise (length text) tokens
tokens-rise text tokens has = rw has.are (rising text start has.pieces (omega arith) has.covers.0).rise

pub tokens-fit : (text : Text) (tokens : List Token) → HasTokens text tokens → NumbersFit tokens
tokens-fit text tokens has = rw has.are (rising text start has.pieces (omega arith) has.covers.0).numbers

pub tokens-few : (text : Text) (tokens : List Token) → HasTokens text tokens → length tokens ≤ length text
tokens-few text tokens has = rw has.are (let few = (rising text start has.pieces (omega arith) has.covers.0).few in omega (arith, few))
