-- The name or the separator at the front of a text.
use Rattle.std.proofs.Common.{◌≡◌, inl, inr, ℕ, zero, suc, ◌<◌, ◌≤◌, Bool, true, false, [], ◌∷◌, length, take, Option, Some, None, refl, sym, ◌∙◌, arith}
use Rattle.std.proofs.lemmas.Bool.{false≢true}
use Rattle.std.proofs.lemmas.List.{length-take-le}
use Rattle.std.proofs.lemmas.List.Sums.{prefix_len-le-length}
use Rattle.std.specs.Char.{is_ascii_alphabetic}
use Rattle.std.specs.List.{prefix_len}
use Rattle.std.specs.Option.{option_map_or}
use Rattle.pas_lexer.specs.Covering.{IsPiece}
use Rattle.pas_lexer.specs.Lexeme.{Text, IsForm, IsName, is_name_byte, is_separator, word_of}
use Rattle.pas_lexer.specs.Scan.{name, name_kind, comment}
use Rattle.pas_lexer.specs.Spans.{NumberFits}
use Rattle.pas_lexer.specs.declared.token.TokenKind.{TokenKind}
use Rattle.pas_lexer.specs.declared.token.TokenKind.TheVariants as kind
use Rattle.pas_lexer.specs.declared.word.Word.{Word}
use Rattle.pas_lexer.proofs.Forms.{fits-some, fits-none, form-of, kind_of, opens-plain, separator-first, comment-opens}
use Rattle.pas_lexer.proofs.Digits.{prefix-most, prefix-cons, list_all-prefix}

-- ---- names

named : (inside : Bool) (symbol : Option Word) (bytes : Text) → word_of bytes ≡ symbol → IsName bytes → IsForm inside (Some (option_map_or kind.Word symbol kind.Ident)) bytes
named inside None bytes is name = (name, is)
named inside (Some symbol) bytes is name = (name, is)

is-name : (inside : Bool) (symbol : Option Word) (bytes : Text) → IsForm inside (Some (option_map_or kind.Word symbol kind.Ident)) bytes → IsName bytes
is-name inside None bytes form = form.0
is-name inside (Some symbol) bytes form = form.0

no-number : (symbol : Option Word) → NumberFits (option_map_or kind.Word symbol kind.Ident)
no-number None = tt
no-number (Some symbol) = tt

name-most : (inside : Bool) (b : ℕ) (bytes : Text) (more : ℕ) (other : Option TokenKind) → is_ascii_alphabetic b ≡ true → more ≤ length (b ∷ bytes)
    → IsForm inside other (take more (b ∷ bytes)) → more ≤ suc (prefix_len is_name_byte bytes)
name-most inside b bytes zero other letter within form = omega arith
name-most inside b bytes (suc m) other letter within form =
    let all = b ∷ take m bytes in
    let is : kind_of inside all ≡ Some (name_kind all) = rw letter refl in
    let name = is-name inside (word_of all) all (form-of inside other (Some (name_kind all)) all form is) in
    let most = prefix-most is_name_byte bytes m (omega (arith, within)) name.1 in
    omega (arith, most)

pub found-name : (inside : Bool) (b : ℕ) (bytes : Text) → is_ascii_alphabetic b ≡ true → IsPiece inside (b ∷ bytes) (name (b ∷ bytes)).token (name (b ∷ bytes)).len
unfolding name
found-name inside b bytes letter =
    let n = prefix_len is_name_byte bytes in
    let all = b ∷ take n bytes in
    let name_byte : is_name_byte b ≡ true = rw letter refl in
    let within = prefix_len-le-length is_name_byte bytes in
    let piece : IsPiece inside (b ∷ bytes) (Some (name_kind all)) (suc n) = record {
      within = omega (arith, within);
      form = named inside (word_of all) all refl (letter, list_all-prefix is_name_byte bytes);
      longest = λ more other less within form. let most = name-most inside b bytes more other letter within form in omega (arith, less, most);
      no_symbol = λ opens. absurd (false≢true (sym (opens-plain inside b bytes opens).no_letter ∙ letter));
      no_larger = fits-some (name_kind all) (no-number (word_of all));
    } in
    rw (prefix-cons is_name_byte b bytes name_byte) piece

-- ---- separators

separator-alone : (inside : Bool) (b : ℕ) (bytes : Text) (other : Option TokenKind) → is_separator b ≡ true → IsForm inside other (b ∷ bytes) → length bytes ≡ 0
separator-alone inside b [] other separator form = refl
separator-alone inside b (c ∷ bytes) other separator form =
    let all = b ∷ c ∷ bytes in
    let is : kind_of inside all ≡ None = rw (separator-first b separator, separator) refl in
    elim (form-of inside other None all form is) [
      | inl alone ↦ absurd alone
      | inr comment ↦ absurd (false≢true (sym (opens-plain false b (c ∷ bytes) (comment-opens all comment.1)).no_separator ∙ separator))
    ]

separator-longest : (inside : Bool) (b : ℕ) (bytes : Text) (more : ℕ) (other : Option TokenKind) → is_separator b ≡ true → 1 < more → more ≤ length (b ∷ bytes)
    → IsForm inside other (take more (b ∷ bytes)) → ⊥
separator-longest inside b bytes zero other separator less within form = absurd (omega (arith, less))
separator-longest inside b bytes (suc m) other separator less within form =
    let alone = separator-alone inside b (take m bytes) other separator form in
    let fits : m ≤ length bytes = omega (arith, within) in
    absurd (omega (arith, less, alone, length-take-le m bytes fits))

pub found-separator : (inside : Bool) (b : ℕ) (bytes : Text) → is_separator b ≡ true → IsPiece inside (b ∷ bytes) None 1
found-separator inside b bytes separator = record {
  within = omega arith;
  form = inl separator;
  longest = λ more other less within form. separator-longest inside b bytes more other separator less within form;
  no_symbol = λ opens. refl;
  no_larger = fits-none;
}
