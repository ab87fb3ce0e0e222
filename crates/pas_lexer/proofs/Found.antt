-- The piece that is found at the front of a text is its piece, and where none is found there is none.
use Rattle.std.proofs.Common.{◌≡◌, inl, inr, ℕ, ◌<◌, Bool, true, ◌==◌, cond, [], ◌∷◌, length, Option, Some, None, sym, arith, subst}
use Rattle.std.proofs.lemmas.Bool.{cases_Bool, eqb-true}
use Rattle.std.specs.Char.{is_ascii_alphabetic, is_ascii_digit}
use Rattle.std.specs.Prelude.{slice_index}
use Rattle.pas_lexer.specs.Covering.{IsPiece, opens_comment}
use Rattle.pas_lexer.specs.Lexeme.{Text, is_separator}
use Rattle.pas_lexer.specs.Scan.{next_piece, name, comment, mark, piece as piece_of}
use Rattle.pas_lexer.specs.declared.piece.Piece.{Piece}
use Rattle.pas_lexer.specs.declared.token.TokenKind.{TokenKind}
use Rattle.pas_lexer.proofs.Comments.{found-comment, missed-comment}
use Rattle.pas_lexer.proofs.Forms.{Plain, opens-outside}
use Rattle.pas_lexer.proofs.Marks.{found-mark, missed-mark}
use Rattle.pas_lexer.proofs.Names.{found-name, found-separator}
use Rattle.pas_lexer.proofs.Numbers.{found-number, missed-number}
use Rattle.pas_lexer.proofs.Strings.{found-quote, missed-quote}

Some-same : {A : Type 0} (x y : A) → Some x ≡ Some y → x ≡ y
Some-same x y e = cc

-- where no letter, digit, separator or quote begins
abbrev other_piece : Bool → ℕ → Text → Option Piece
other_piece inside b bytes = cond (opens_comment inside (b ∷ bytes)) (comment (b ∷ bytes)) (mark inside b (slice_index bytes 0))

found-other : (inside : Bool) (b : ℕ) (bytes : Text) (piece : Piece) → Plain b → other_piece inside b bytes ≡ Some piece → IsPiece inside (b ∷ bytes) piece.token piece.len
found-other inside b bytes piece plain is =
    elim (cases_Bool (opens_comment inside (b ∷ bytes))) [
      | inl opens ↦
          let outside = opens-outside inside (b ∷ bytes) opens in
          let opened = subst (λ (i : Bool). opens_comment i (b ∷ bytes) ≡ true) outside opens in
          subst (λ (i : Bool). IsPiece i (b ∷ bytes) piece.token piece.len) (sym outside) (found-comment b bytes piece opened (rw opens at is))
      | inr no_comment ↦ found-mark inside b bytes piece plain no_comment (rw no_comment at is)
    ]

missed-other : (inside : Bool) (b : ℕ) (bytes : Text) (token : Option TokenKind) (len : ℕ) → Plain b → other_piece inside b bytes ≡ None → IsPiece inside (b ∷ bytes) token len → ⊥
missed-other inside b bytes token len plain is piece =
    elim (cases_Bool (opens_comment inside (b ∷ bytes))) [
      | inl opens ↦
          let outside = opens-outside inside (b ∷ bytes) opens in
          let opened = subst (λ (i : Bool). opens_comment i (b ∷ bytes) ≡ true) outside opens in
          missed-comment b bytes token len opened (rw opens at is) (subst (λ (i : Bool). IsPiece i (b ∷ bytes) token len) outside piece)
      | inr no_comment ↦ missed-mark inside b bytes token len plain no_comment (rw no_comment at is) piece
    ]

pub found : (inside : Bool) (rest : Text) (piece : Piece) → 0 < length rest → next_piece inside rest ≡ Some piece → IsPiece inside rest piece.token piece.len
unfolding next_piece
found inside [] piece some is = absurd (omega (arith, some))
found inside (b ∷ bytes) piece some is =
    let is_piece = λ (p : Piece). IsPiece inside (b ∷ bytes) p.token p.len in
    elim (cases_Bool (is_ascii_alphabetic b)) [
      | inl letter ↦ subst is_piece (Some-same (name (b ∷ bytes)) piece (rw letter at is)) (found-name inside b bytes letter)
      | inr no_letter ↦ elim (cases_Bool (is_separator b)) [
        | inl separator ↦ subst is_piece (Some-same (piece_of None 1) piece (rw (no_letter, separator) at is)) (found-separator inside b bytes separator)
        | inr no_separator ↦ elim (cases_Bool (is_ascii_digit b)) [
          | inl digit ↦ found-number inside b bytes piece digit (rw (no_letter, no_separator, digit) at is)
          | inr no_digit ↦ elim (cases_Bool (b == 39)) [
            | inl quote ↦ found-quote inside b bytes piece (eqb-true b 39 quote) (rw (no_letter, no_separator, no_digit, quote) at is)
            | inr no_quote ↦
                found-other inside b bytes piece (record { no_letter = no_letter; no_separator = no_separator; no_digit = no_digit; no_quote = no_quote })
                (rw (no_letter, no_separator, no_digit, no_quote) at is)
          ]
        ]
      ]
    ]

pub missed : (inside : Bool) (rest : Text) (token : Option TokenKind) (len : ℕ) → 0 < length rest → next_piece inside rest ≡ None → IsPiece inside rest token len → ⊥
unfolding next_piece
missed inside [] token len some is piece = absurd (omega (arith, some))
missed inside (b ∷ bytes) token len some is piece =
    elim (cases_Bool (is_ascii_alphabetic b)) [
      | inl letter ↦ let found : Some (name (b ∷ bytes)) ≡ None = rw letter at is in cc
      | inr no_letter ↦ elim (cases_Bool (is_separator b)) [
        | inl separator ↦ let found : Some (piece_of None 1) ≡ None = rw (no_letter, separator) at is in cc
        | inr no_separator ↦ elim (cases_Bool (is_ascii_digit b)) [
          | inl digit ↦ missed-number inside b bytes token len digit (rw (no_letter, no_separator, digit) at is) piece
          | inr no_digit ↦ elim (cases_Bool (b == 39)) [
            | inl quote ↦ missed-quote inside b bytes token len (eqb-true b 39 quote) (rw (no_letter, no_separator, no_digit, quote) at is) piece
            | inr no_quote ↦
                missed-other inside b bytes token len (record { no_letter = no_letter; no_separator = no_separator; no_digit = no_digit; no_quote = no_quote })
                (rw (no_letter, no_separator, no_digit, no_quote) at is) piece
          ]
        ]
      ]
    ]
