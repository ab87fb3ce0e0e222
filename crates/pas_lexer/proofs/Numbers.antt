-- The number at the front of a text.
use Rattle.std.proofs.Common.{◌≡◌, ◌≢◌, inl, inr, ℕ, zero, suc, ◌<◌, ◌≤◌, Bool, true, [], ◌∷◌, length, take, Option, Some, None, refl, sym, ◌∙◌, arith, subst}
use Rattle.std.proofs.lemmas.Bool.{and_parts, cases_Bool, cases_order, false≢true, leb-true, le-leb}
use Rattle.std.proofs.lemmas.List.Sums.{prefix_len-le-length}
use Rattle.std.specs.Char.{is_ascii_digit}
use Rattle.std.specs.List.{list_all, prefix_len}
use Rattle.std.specs.Prelude.{nat_le}
use Rattle.pas_lexer.specs.Covering.{IsPiece}
use Rattle.pas_lexer.specs.Lexeme.{Text, IsForm, decimal}
use Rattle.pas_lexer.specs.Scan.{number, piece as piece_of}
use Rattle.pas_lexer.specs.declared.piece.Piece.{Piece}
use Rattle.pas_lexer.specs.declared.token.TokenKind.{TokenKind}
use Rattle.pas_lexer.specs.declared.token.TokenKind.TheVariants as kind
use Rattle.pas_lexer.proofs.Forms.{fits-some, form-of, form-kind, kind_of, opens-plain, digit-first, piece-advances}
use Rattle.pas_lexer.proofs.Digits.{prefix-most, prefix-cons, list_all-prefix}

digits-most : (inside : Bool) (b : ℕ) (bytes : Text) (m : ℕ) (other : Option TokenKind) → is_ascii_digit b ≡ true → m ≤ length bytes
    → IsForm inside other (b ∷ take m bytes) → (other ≡ Some (kind.Number (decimal (b ∷ take m bytes)))) × (m ≤ prefix_len is_ascii_digit bytes)
digits-most inside b bytes m other digit within form =
    let all = b ∷ take m bytes in
    let first = digit-first b digit in
    let is : kind_of inside all ≡ Some (kind.Number (decimal all)) = rw (first.0, first.1, digit) refl in
    let number = form-of inside other (Some (kind.Number (decimal all))) all form is in
    let parts = and_parts (is_ascii_digit b) (list_all is_ascii_digit (take m bytes)) number.0.1 in
    (form-kind inside other all form ∙ is, prefix-most is_ascii_digit bytes m within parts.1)

number-longest : (inside : Bool) (b : ℕ) (bytes : Text) (more : ℕ) (other : Option TokenKind) → is_ascii_digit b ≡ true → suc (prefix_len is_ascii_digit bytes) < more
    → more ≤ length (b ∷ bytes) → IsForm inside other (take more (b ∷ bytes)) → ⊥
number-longest inside b bytes zero other digit less within form = absurd (omega (arith, less))
number-longest inside b bytes (suc m) other digit less within form =
    let most = (digits-most inside b bytes m other digit (omega (arith, within)) form).1 in
    absurd (omega (arith, less, most))

number-form : (inside : Bool) (b : ℕ) (bytes : Text) → is_ascii_digit b ≡ true
    → let all = b ∷ take (prefix_len is_ascii_digit bytes) bytes in IsForm inside (Some (kind.Number (decimal all))) all
number-form inside b bytes digit =
    let n = prefix_len is_ascii_digit bytes in
    let some : ◌≢◌ {A = Text} (b ∷ take n bytes) [] = λ e. cc in
    let passes : list_all is_ascii_digit (b ∷ take n bytes) ≡ true = rw digit (list_all-prefix is_ascii_digit bytes) in
    ((some, passes), refl)

number-piece : (inside : Bool) (b : ℕ) (bytes : Text) → is_ascii_digit b ≡ true
    → let all = b ∷ take (prefix_len is_ascii_digit bytes) bytes in
    decimal all ≤ 2147483647 → IsPiece inside (b ∷ bytes) (Some (kind.Number (decimal all))) (suc (prefix_len is_ascii_digit bytes))
number-piece inside b bytes digit small =
    let n = prefix_len is_ascii_digit bytes in
    let all = b ∷ take n bytes in
    let within = prefix_len-le-length is_ascii_digit bytes in
    record {
      within = omega (arith, within);
      form = number-form inside b bytes digit;
      longest = λ more other less within form. number-longest inside b bytes more other digit less within form;
      no_symbol = λ opens. absurd (false≢true (sym (opens-plain inside b bytes opens).no_digit ∙ digit));
      no_larger = fits-some (kind.Number (decimal all)) small;
    }

pub found-number : (inside : Bool) (b : ℕ) (bytes : Text) (piece : Piece) → is_ascii_digit b ≡ true → number (b ∷ bytes) ≡ Some piece → IsPiece inside (b ∷ bytes) piece.token piece.len
unfolding number
found-number inside b bytes piece digit found =
    let n = prefix_len is_ascii_digit bytes in
    let value = decimal (b ∷ take n bytes) in
    let len = prefix-cons is_ascii_digit b bytes digit in
    elim (cases_Bool (nat_le value 2147483647)) [
      | inl small ↦
          let is : Some (piece_of (Some (kind.Number value)) (suc n)) ≡ Some piece = rw (len, small) at found in
          let same : piece_of (Some (kind.Number value)) (suc n) ≡ piece = cc in
          subst (λ (p : Piece). IsPiece inside (b ∷ bytes) p.token p.len) same (number-piece inside b bytes digit (leb-true value 2147483647 small))
      | inr large ↦ let is : None ≡ Some piece = rw (len, large) at found in cc
    ]

pub missed-number : (inside : Bool) (b : ℕ) (bytes : Text) (token : Option TokenKind) (len : ℕ) → is_ascii_digit b ≡ true → number (b ∷ bytes) ≡ None
    → IsPiece inside (b ∷ bytes) token len → ⊥
unfolding number
missed-number inside b bytes token zero digit none piece = absurd (omega (arith, piece-advances inside (b ∷ bytes) token zero piece))
missed-number inside b bytes token (suc m) digit none piece =
    let n = prefix_len is_ascii_digit bytes in
    let value = decimal (b ∷ take n bytes) in
    let len = prefix-cons is_ascii_digit b bytes digit in
    let within = piece.within in
    let all_digits = prefix_len-le-length is_ascii_digit bytes in
    let most = digits-most inside b bytes m token digit (omega (arith, within)) piece.form in
    elim (cases_Bool (nat_le value 2147483647)) [
      | inl small ↦ let is : Some (piece_of (Some (kind.Number value)) (suc n)) ≡ None = rw (len, small) at none in cc
      | inr large ↦ elim (cases_order m n) [
        | inl same ↦
            let fits : decimal (b ∷ take m bytes) ≤ 2147483647 = piece.no_larger (kind.Number (decimal (b ∷ take m bytes))) most.0 in
            let small : value ≤ 2147483647 = subst (λ (k : ℕ). decimal (b ∷ take k bytes) ≤ 2147483647) same fits in
            false≢true (sym large ∙ le-leb value 2147483647 small)
        | inr (inl less) ↦ piece.longest (suc n) (Some (kind.Number value)) (omega (arith, less)) (omega (arith, all_digits)) (number-form inside b bytes digit)
        | inr (inr more) ↦ absurd (omega (arith, more, most.1))
      ]
    ]
