-- Special symbols and the marks of assertions.
use Rattle.std.proofs.Common.{◌≡◌, ◌≢◌, inl, inr, ℕ, zero, suc, ◌<◌, ◌≤◌, Bool, true, false, not, ◌&&◌, ◌==◌, [], ◌∷◌, length, take, Option, Some, None, refl, sym, ◌∙◌, arith, subst, rules}
use Rattle.std.proofs.lemmas.Bool.{and_parts, cases_Bool, eqb-true, false≢true}
use Rattle.std.specs.Option.{option_map, option_map_or}
use Rattle.std.specs.Prelude.{slice_index, codes}
use Rattle.std.specs.Str.{bytes_eq}
use Rattle.pas_lexer.specs.Covering.{IsPiece, opens_comment}
use Rattle.pas_lexer.specs.Lexeme.{Text, IsForm, symbol_of, symbols}
use Rattle.pas_lexer.specs.Scan.{mark, symbol, piece}
use Rattle.pas_lexer.specs.Spans.{NumberFits}
use Rattle.pas_lexer.specs.declared.piece.Piece.{Piece}
use Rattle.pas_lexer.specs.declared.token.Symbol.{Symbol}
use Rattle.pas_lexer.specs.declared.token.TokenKind.{TokenKind}
use Rattle.pas_lexer.specs.declared.token.TokenKind.TheVariants as kind
use Rattle.pas_lexer.proofs.Comments.{alone-no-comment}
use Rattle.pas_lexer.proofs.Forms.{no-separator, fits-some, mark_kind, kind_of, form-kind, form-of, found-row, bytes-same, Plain, comment-opens, piece-advances}

-- ---- the scan takes a mark of two bytes, or else of one

abbrev longer : Option TokenKind → Option TokenKind → Option Piece
longer two one = option_map_or (λ kind. Some (piece (Some kind) 2)) two (option_map (λ kind. piece (Some kind) 1) one)

symbol-longer : (two one : Option Symbol) → option_map_or (λ s. Some (piece (Some (kind.Symbol s)) 2)) two (option_map (λ s. piece (Some (kind.Symbol s)) 1) one)
    ≡ longer (option_map kind.Symbol two) (option_map kind.Symbol one)
symbol-longer None None = refl
symbol-longer None (Some one) = refl
symbol-longer (Some two) None = refl
symbol-longer (Some two) (Some one) = refl

mark-brace : (inside : Bool) (second : ℕ) → mark inside 123 second ≡ longer (mark_kind inside (123 ∷ second ∷ [])) (mark_kind inside (123 ∷ []))
unfolding mark symbol symbol_of
mark-brace inside second =
    elim (cases_Bool (second == 37)) [
      | inl percent ↦ rw percent (elim inside as (λ i. mark i 123 37 ≡ longer (mark_kind i (123 ∷ 37 ∷ [])) (mark_kind i (123 ∷ []))) [ true ↦ refl | false ↦ refl ])
      | inr other ↦ rw other refl
    ]

mark-percent : (inside : Bool) (second : ℕ) → mark inside 37 second ≡ longer (mark_kind inside (37 ∷ second ∷ [])) (mark_kind inside (37 ∷ []))
unfolding mark symbol symbol_of
mark-percent inside second =
    elim (cases_Bool (second == 125)) [
      | inl brace ↦ rw brace (elim inside as (λ i. mark i 37 125 ≡ longer (mark_kind i (37 ∷ 125 ∷ [])) (mark_kind i (37 ∷ []))) [ true ↦ refl | false ↦ refl ])
      | inr other ↦ rw other refl
    ]

mark-query : (inside : Bool) (second : ℕ) → mark inside 63 second ≡ longer (mark_kind inside (63 ∷ second ∷ [])) (mark_kind inside (63 ∷ []))
unfolding mark symbol symbol_of
mark-query true second = refl
mark-query false second = refl

pub mark-longer : (inside : Bool) (first second : ℕ) → mark inside first second ≡ longer (mark_kind inside (first ∷ second ∷ [])) (mark_kind inside (first ∷ []))
unfolding mark symbol
mark-longer inside first second =
    elim (cases_Bool (first == 123)) [
      | inl brace ↦ rw (eqb-true first 123 brace) (mark-brace inside second)
      | inr no_brace ↦ elim (cases_Bool (first == 37)) [
        | inl percent ↦ rw (eqb-true first 37 percent) (mark-percent inside second)
        | inr no_percent ↦ elim (cases_Bool (first == 63)) [
          | inl query ↦ rw (eqb-true first 63 query) (mark-query inside second)
          | inr no_query ↦ rw (no_brace, no_percent, no_query) (symbol-longer (symbol_of (first ∷ second ∷ [])) (symbol_of (first ∷ [])))
        ]
      ]
    ]

-- ---- marks are forms

pub record IsMark (inside : Bool) (bytes : Text) (token : TokenKind) : Type 0 where
  pub form : IsForm inside (Some token) bytes
  pub fits : NumberFits token
  pub short : length bytes ≤ 2
  pub second : length bytes ≡ 2 → slice_index bytes 1 ≢ 0

short-symbol : (bytes : Text) (symbol : Symbol) → symbol_of bytes ≡ Some symbol → (length bytes ≤ 2) × (length bytes ≡ 2 → slice_index bytes 1 ≢ 0)
unfolding symbol_of
short-symbol bytes symbol found = found-row (λ bytes symbol. (length bytes ≤ 2) × (length bytes ≡ 2 → slice_index bytes 1 ≢ 0)) symbols bytes symbol (search rules) found

symbol-mark : (inside : Bool) (bytes : Text) (token : TokenKind) (symbol : Option Symbol) → symbol_of bytes ≡ symbol → option_map kind.Symbol symbol ≡ Some token → IsMark inside bytes token
symbol-mark inside bytes token None is e = cc
symbol-mark inside bytes token (Some symbol) is e =
    let same : kind.Symbol symbol ≡ token = cc in
    let short = short-symbol bytes symbol is in
    subst (λ (t : TokenKind). IsMark inside bytes t) same (record { form = is; fits = tt; short = short.0; second = short.1 })

not-outside : (inside : Bool) → not inside ≡ true → inside ≡ false
not-outside false e = refl
not-outside true e = absurd (false≢true e)

start-mark : (inside : Bool) (bytes : Text) → inside ≡ false → bytes ≡ codes "{%" → IsMark inside bytes kind.AssertStart
start-mark inside bytes outside is = record { form = (outside, is); fits = tt; short = rw is (omega arith); second = rw is (λ two zero. omega (arith, zero)) }

end-mark : (inside : Bool) (bytes : Text) → inside ≡ true → bytes ≡ codes "%}" → IsMark inside bytes kind.AssertEnd
end-mark inside bytes within is = record { form = (within, is); fits = tt; short = rw is (omega arith); second = rw is (λ two zero. omega (arith, zero)) }

query-mark : (inside : Bool) (bytes : Text) → inside ≡ true → bytes ≡ codes "?" → IsMark inside bytes kind.Query
query-mark inside bytes within is = record { form = (within, is); fits = tt; short = rw is (omega arith); second = rw is (λ one zero. omega (arith, one)) }

pub mark-is : (inside : Bool) (bytes : Text) (token : TokenKind) → mark_kind inside bytes ≡ Some token → IsMark inside bytes token
mark-is inside bytes token is =
    let marks = λ (t : TokenKind). IsMark inside bytes t in
    elim (cases_Bool (bytes_eq bytes (codes "{%") && not inside)) [
      | inl opens ↦
          let parts = and_parts (bytes_eq bytes (codes "{%")) (not inside) opens in
          let same : Some kind.AssertStart ≡ Some token = rw opens at is in
          let token_is : kind.AssertStart ≡ token = cc in
          subst marks token_is (start-mark inside bytes (not-outside inside parts.1) (bytes-same bytes (codes "{%") parts.0))
      | inr no_start ↦ elim (cases_Bool (bytes_eq bytes (codes "%}") && inside)) [
        | inl closes ↦
            let parts = and_parts (bytes_eq bytes (codes "%}")) inside closes in
            let same : Some kind.AssertEnd ≡ Some token = rw (no_start, closes) at is in
            let token_is : kind.AssertEnd ≡ token = cc in
            subst marks token_is (end-mark inside bytes parts.1 (bytes-same bytes (codes "%}") parts.0))
        | inr no_end ↦ elim (cases_Bool (bytes_eq bytes (codes "?") && inside)) [
          | inl query ↦
              let parts = and_parts (bytes_eq bytes (codes "?")) inside query in
              let same : Some kind.Query ≡ Some token = rw (no_start, no_end, query) at is in
              let token_is : kind.Query ≡ token = cc in
              subst marks token_is (query-mark inside bytes parts.1 (bytes-same bytes (codes "?") parts.0))
          | inr no_query ↦ symbol-mark inside bytes token (symbol_of bytes) refl (rw (no_start, no_end, no_query) at is)
        ]
      ]
    ]

-- ---- forms that no letter, digit, quote or comment begins are marks

form-mark : (inside : Bool) (b : ℕ) (bytes : Text) (other : Option TokenKind) → Plain b → opens_comment inside (b ∷ bytes) ≡ false → IsForm inside other (b ∷ bytes)
    → (token : TokenKind) × (mark_kind inside (b ∷ bytes) ≡ Some token)
form-mark inside b bytes None plain no_comment form =
    elim form [
      | inl separator ↦ absurd (no-separator b bytes plain separator)
      | inr comment ↦ absurd (false≢true (sym no_comment ∙ rw comment.0 (comment-opens (b ∷ bytes) comment.1)))
    ]
form-mark inside b bytes (Some token) plain no_comment form =
    let is : kind_of inside (b ∷ bytes) ≡ mark_kind inside (b ∷ bytes) = rw (plain.no_letter, plain.no_separator, plain.no_digit, plain.no_quote, no_comment) refl in
    (token, sym is ∙ sym (form-kind inside (Some token) (b ∷ bytes) form))

too-long : (inside : Bool) (b c d : ℕ) (bytes : Text) (other : Option TokenKind) → Plain b → opens_comment inside (b ∷ c ∷ d ∷ bytes) ≡ false
    → IsForm inside other (b ∷ c ∷ d ∷ bytes) → ⊥
too-long inside b c d bytes other plain no_comment form =
    let is = form-mark inside b (c ∷ d ∷ bytes) other plain no_comment form in
    let short = (mark-is inside (b ∷ c ∷ d ∷ bytes) is.0 is.1).short in
    absurd (omega (arith, short))

two-longest : (inside : Bool) (b c : ℕ) (bytes : Text) → Plain b → opens_comment inside (b ∷ c ∷ bytes) ≡ false
    → (more : ℕ) (other : Option TokenKind) → 2 < more → more ≤ length (b ∷ c ∷ bytes) → IsForm inside other (take more (b ∷ c ∷ bytes)) → ⊥
two-longest inside b c bytes plain no_comment zero other less within form = absurd (omega (arith, less))
two-longest inside b c bytes plain no_comment (suc zero) other less within form = absurd (omega (arith, less))
two-longest inside b c bytes plain no_comment (suc (suc zero)) other less within form = absurd (omega (arith, less))
two-longest inside b c [] plain no_comment (suc (suc (suc m))) other less within form = absurd (omega (arith, within))
two-longest inside b c (d ∷ bytes) plain no_comment (suc (suc (suc m))) other less within form = too-long inside b c d (take m bytes) other plain no_comment form

one-longest : (inside : Bool) (b : ℕ) (bytes : Text) → Plain b → opens_comment inside (b ∷ bytes) ≡ false → mark_kind inside (b ∷ slice_index bytes 0 ∷ []) ≡ None
    → (more : ℕ) (other : Option TokenKind) → 1 < more → more ≤ length (b ∷ bytes) → IsForm inside other (take more (b ∷ bytes)) → ⊥
one-longest inside b bytes plain no_comment none zero other less within form = absurd (omega (arith, less))
one-longest inside b bytes plain no_comment none (suc zero) other less within form = absurd (omega (arith, less))
one-longest inside b [] plain no_comment none (suc (suc m)) other less within form = absurd (omega (arith, within))
one-longest inside b (c ∷ bytes) plain no_comment none (suc (suc zero)) other less within form =
    let is = form-mark inside b (c ∷ []) other plain no_comment form in
    let both : None ≡ Some is.0 = sym none ∙ is.1 in
    cc
one-longest inside b (c ∷ []) plain no_comment none (suc (suc (suc m))) other less within form = absurd (omega (arith, within))
one-longest inside b (c ∷ d ∷ bytes) plain no_comment none (suc (suc (suc m))) other less within form = too-long inside b c d (take m bytes) other plain no_comment form

two-piece : (inside : Bool) (b : ℕ) (bytes : Text) (token : TokenKind) → Plain b → opens_comment inside (b ∷ bytes) ≡ false
    → mark_kind inside (b ∷ slice_index bytes 0 ∷ []) ≡ Some token → IsPiece inside (b ∷ bytes) (Some token) 2
two-piece inside b [] token plain no_comment is = absurd ((mark-is inside (b ∷ 0 ∷ []) token is).second refl refl)
two-piece inside b (c ∷ bytes) token plain no_comment is =
    let mark = mark-is inside (b ∷ c ∷ []) token is in
    record {
      within = omega arith;
      form = mark.form;
      longest = two-longest inside b c bytes plain no_comment;
      no_symbol = λ opens. absurd (false≢true (sym no_comment ∙ opens));
      no_larger = fits-some token mark.fits;
    }

one-piece : (inside : Bool) (b : ℕ) (bytes : Text) (token : TokenKind) → Plain b → opens_comment inside (b ∷ bytes) ≡ false
    → mark_kind inside (b ∷ slice_index bytes 0 ∷ []) ≡ None → mark_kind inside (b ∷ []) ≡ Some token → IsPiece inside (b ∷ bytes) (Some token) 1
one-piece inside b bytes token plain no_comment none is =
    let mark = mark-is inside (b ∷ []) token is in
    record {
      within = omega arith;
      form = mark.form;
      longest = one-longest inside b bytes plain no_comment none;
      no_symbol = λ opens. absurd (false≢true (sym no_comment ∙ opens));
      no_larger = fits-some token mark.fits;
    }

longer-piece : (inside : Bool) (b : ℕ) (bytes : Text) (found : Piece) (two one : Option TokenKind) → Plain b → opens_comment inside (b ∷ bytes) ≡ false
    → mark_kind inside (b ∷ slice_index bytes 0 ∷ []) ≡ two → mark_kind inside (b ∷ []) ≡ one → longer two one ≡ Some found → IsPiece inside (b ∷ bytes) found.token found.len
longer-piece inside b bytes found (Some token) one plain no_comment two_is one_is is =
    let same : piece (Some token) 2 ≡ found = cc in
    subst (λ (p : Piece). IsPiece inside (b ∷ bytes) p.token p.len) same (two-piece inside b bytes token plain no_comment two_is)
longer-piece inside b bytes found None (Some token) plain no_comment two_is one_is is =
    let same : piece (Some token) 1 ≡ found = cc in
    subst (λ (p : Piece). IsPiece inside (b ∷ bytes) p.token p.len) same (one-piece inside b bytes token plain no_comment two_is one_is)
longer-piece inside b bytes found None None plain no_comment two_is one_is is = cc

pub found-mark : (inside : Bool) (b : ℕ) (bytes : Text) (found : Piece) → Plain b → opens_comment inside (b ∷ bytes) ≡ false
    → mark inside b (slice_index bytes 0) ≡ Some found → IsPiece inside (b ∷ bytes) found.token found.len
found-mark inside b bytes found plain no_comment is =
    let second = slice_index bytes 0 in
    longer-piece inside b bytes found (mark_kind inside (b ∷ second ∷ [])) (mark_kind inside (b ∷ [])) plain no_comment refl refl (sym (mark-longer inside b second) ∙ is)

no-longer : (two one : Option TokenKind) → longer two one ≡ None → (two ≡ None) × (one ≡ None)
no-longer None None e = (refl, refl)
no-longer None (Some one) e = cc
no-longer (Some two) one e = cc

alone-no-form : (inside : Bool) (b : ℕ) (other : Option TokenKind) → Plain b → mark_kind inside (b ∷ []) ≡ None → IsForm inside other (b ∷ []) → ⊥
alone-no-form inside b other plain none form =
    elim (cases_Bool (opens_comment inside (b ∷ []))) [
      | inl opens ↦
          let is : kind_of inside (b ∷ []) ≡ None = rw (plain.no_letter, plain.no_separator, plain.no_digit, plain.no_quote, opens) refl in
          elim (form-of inside other None (b ∷ []) form is) [
            | inl separator ↦ no-separator b [] plain separator
            | inr comment ↦ alone-no-comment b comment.1
          ]
      | inr no_comment ↦
          let is = form-mark inside b [] other plain no_comment form in
          let both : None ≡ Some is.0 = sym none ∙ is.1 in
          cc
    ]

pub missed-mark : (inside : Bool) (b : ℕ) (bytes : Text) (token : Option TokenKind) (len : ℕ) → Plain b → opens_comment inside (b ∷ bytes) ≡ false
    → mark inside b (slice_index bytes 0) ≡ None → IsPiece inside (b ∷ bytes) token len → ⊥
missed-mark inside b bytes token zero plain no_comment is piece = absurd (omega (arith, piece-advances inside (b ∷ bytes) token zero piece))
missed-mark inside b bytes token (suc zero) plain no_comment is piece =
    let second = slice_index bytes 0 in
    let none = no-longer (mark_kind inside (b ∷ second ∷ [])) (mark_kind inside (b ∷ [])) (sym (mark-longer inside b second) ∙ is) in
    alone-no-form inside b token plain none.1 piece.form
missed-mark inside b bytes token (suc (suc m)) plain no_comment is piece =
    let second = slice_index bytes 0 in
    let none = no-longer (mark_kind inside (b ∷ second ∷ [])) (mark_kind inside (b ∷ [])) (sym (mark-longer inside b second) ∙ is) in
    one-longest inside b bytes plain no_comment none.0 (suc (suc m)) token (omega arith) piece.within piece.form
