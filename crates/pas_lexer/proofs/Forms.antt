-- What the bytes of a lexeme say about its kind.
use Rattle.std.proofs.Common.{◌≡◌, ◌≢◌, ◌⊎◌, ℕ, ◌<◌, suc, zero, Bool, true, false, not, ◌&&◌, ◌==◌, cond, List, [], ◌∷◌, take, Option, Some, None, refl, sym, ◌∙◌, inl, inr, arith, subst, rules}
use Rattle.std.proofs.lemmas.Bool.{cases_Bool, cases_order, eqb-true, eq-eqb, and_parts, false≢true}
use Rattle.std.proofs.lemmas.Bool.Decides.{nat_tests}
use Rattle.std.proofs.lemmas.Slice.Eq.{bytes_eq-Decides}
use Rattle.std.specs.Char.{is_ascii_alphabetic, is_ascii_digit}
use Rattle.std.specs.List.{list_all}
use Rattle.std.specs.Option.{option_map, ForSome}
use Rattle.std.specs.Prelude.{slice_index, codes}
use Rattle.std.specs.Str.{bytes_eq}
use Rattle.pas_lexer.specs.Covering.{IsPiece, opens_comment}
use Rattle.pas_lexer.specs.Lexeme.{Text, IsForm, IsComment, IsSeparator, is_separator, quoted, decimal, lookup, symbols, symbol_of}
use Rattle.pas_lexer.specs.Scan.{name_kind}
use Rattle.pas_lexer.specs.Spans.{NumberFits}
use Rattle.pas_lexer.specs.declared.token.Symbol.{Symbol}
use Rattle.pas_lexer.specs.declared.token.TokenKind.{TokenKind}
use Rattle.pas_lexer.specs.declared.token.TokenKind.TheVariants as kind

-- the kind of a symbol, or of a mark of an assertion, that is spelt so
abbrev pub mark_kind : Bool → Text → Option TokenKind
mark_kind inside bytes =
    cond (bytes_eq bytes (codes "{%") && not inside) (Some kind.AssertStart)
    (cond (bytes_eq bytes (codes "%}") && inside) (Some kind.AssertEnd)
    (cond (bytes_eq bytes (codes "?") && inside) (Some kind.Query)
    (option_map kind.Symbol (symbol_of bytes))))

-- the kind of the lexeme that the bytes are, if they are one
abbrev pub kind_of : Bool → Text → Option TokenKind
kind_of inside bytes =
    let first = slice_index bytes 0 in
    cond (is_ascii_alphabetic first) (Some (name_kind bytes))
    (cond (is_separator first) None
    (cond (is_ascii_digit first) (Some (kind.Number (decimal bytes)))
    (cond (first == 39) (Some kind.Text)
    (cond (opens_comment inside bytes) None (mark_kind inside bytes)))))

pub separator-first : (b : ℕ) → is_separator b ≡ true → is_ascii_alphabetic b ≡ false
separator-first b h = grind (arith, nat_tests)

pub digit-first : (b : ℕ) → is_ascii_digit b ≡ true → (is_ascii_alphabetic b ≡ false) × (is_separator b ≡ false)
digit-first b h = (grind (arith, nat_tests), grind (arith, nat_tests))

-- what holds of each row of a table
abbrev pub EachRow : {A : Type 0} → (Text → A → Type 0) → List (Text × A) → Type 0
EachRow P [] = Unit {0}
EachRow P (row ∷ rows) = P row.0 row.1 × EachRow P rows

pub bytes-same : (a b : Text) → bytes_eq a b ≡ true → a ≡ b
bytes-same a b h = (bytes_eq-Decides a b).0 h

pub found-row : {A : Type 0} (P : Text → A → Type 0) (rows : List (Text × A)) (bytes : Text) (value : A) → EachRow P rows → lookup rows bytes ≡ Some value → P bytes value
found-row P [] bytes value each found = cc
found-row {A} P (row ∷ rows) bytes value each found =
    elim (cases_Bool (bytes_eq row.0 bytes)) [
      | inl alike ↦
          let same = bytes-same row.0 bytes alike in
          let is : Some row.1 ≡ Some value = rw alike at found in
          let row_is : row.1 ≡ value = cc in
          subst (λ (v : A). P bytes v) row_is (subst (λ (b : Text). P b row.1) same each.0)
      | inr unlike ↦ found-row P rows bytes value each.1 (rw unlike at found)
    ]

symbol-kind : (inside : Bool) (bytes : Text) (symbol : Symbol) → symbol_of bytes ≡ Some symbol → Some (kind.Symbol symbol) ≡ kind_of inside bytes
unfolding symbol_of
symbol-kind inside bytes symbol found =
    found-row (λ bytes symbol. Some (kind.Symbol symbol) ≡ kind_of inside bytes) symbols bytes symbol
    (search rules) found

separator-kind : (inside : Bool) (bytes : Text) → IsSeparator bytes → None ≡ kind_of inside bytes
separator-kind inside [] separator = absurd separator
separator-kind inside (b ∷ []) separator = rw (separator-first b separator, separator) refl
separator-kind inside (b ∷ c ∷ bytes) separator = absurd separator

other-byte : (a b : ℕ) → a ≢ b → (a == b) ≡ false
other-byte a b other = grind (arith, nat_tests)

pub comment-opens : (bytes : Text) → IsComment bytes → opens_comment false bytes ≡ true
comment-opens bytes comment =
    elim comment.opens [
      | inl brace ↦ rw (comment.whole, brace.0, other-byte (slice_index comment.rest 0) 37 brace.1) refl
      | inr paren ↦ rw (comment.whole, paren) refl
    ]

comment-kind : (bytes : Text) → IsComment bytes → None ≡ kind_of false bytes
comment-kind bytes comment =
    let opens = comment-opens bytes comment in
    elim comment.opens [
      | inl brace ↦ rw (comment.whole, brace.0, other-byte (slice_index comment.rest 0) 37 brace.1) refl
      | inr paren ↦ rw (comment.whole, paren) refl
    ]

pub form-kind : (inside : Bool) (token : Option TokenKind) (bytes : Text) → IsForm inside token bytes → token ≡ kind_of inside bytes
form-kind inside None bytes form =
    elim form [
      | inl separator ↦ separator-kind inside bytes separator
      | inr comment ↦ rw comment.0 (comment-kind bytes comment.1)
    ]
form-kind inside (Some kind.Ident) [] form = absurd form.0
form-kind inside (Some kind.Ident) (b ∷ bytes) form = rw (form.0.0, form.1) refl
form-kind inside (Some (kind.Word symbol)) [] form = absurd form.0
form-kind inside (Some (kind.Word symbol)) (b ∷ bytes) form = rw (form.0.0, form.1) refl
form-kind inside (Some (kind.Number value)) [] form = absurd (form.0.0 refl)
form-kind inside (Some (kind.Number value)) (b ∷ bytes) form =
    let digit = (and_parts (is_ascii_digit b) (list_all is_ascii_digit bytes) form.0.1).0 in
    let others = digit-first b digit in
    rw (others.0, others.1, digit, form.1) refl
form-kind inside (Some kind.Text) bytes form = rw form.2 refl
form-kind inside (Some (kind.Symbol symbol)) bytes form = symbol-kind inside bytes symbol form
form-kind inside (Some kind.AssertStart) bytes form = rw (form.0, form.1) refl
form-kind inside (Some kind.AssertEnd) bytes form = rw (form.0, form.1) refl
form-kind inside (Some kind.Query) bytes form = rw (form.0, form.1) refl

pub piece-unique : (inside : Bool) (rest : Text) (t u : Option TokenKind) (m n : ℕ) → IsPiece inside rest t m → IsPiece inside rest u n → (m ≡ n) × (t ≡ u)
piece-unique inside rest t u m n p q =
    elim (cases_order m n) [
      | inl same ↦
          let forms = subst (λ (k : ℕ). IsForm inside t (take k rest)) same p.form in
          (same, form-kind inside t (take n rest) forms ∙ sym (form-kind inside u (take n rest) q.form))
      | inr (inl less) ↦ absurd (p.longest n u less q.within q.form)
      | inr (inr more) ↦ absurd (q.longest m t more p.within p.form)
    ]

-- ---- the form of bytes by the first of them

pub form-of : (inside : Bool) (other token : Option TokenKind) (bytes : Text) → IsForm inside other bytes → kind_of inside bytes ≡ token → IsForm inside token bytes
form-of inside other token bytes form is = subst (λ (t : Option TokenKind). IsForm inside t bytes) (form-kind inside other bytes form ∙ is) form

pub opens-outside : (inside : Bool) (bytes : Text) → opens_comment inside bytes ≡ true → inside ≡ false
opens-outside false bytes opens = refl
opens-outside true (b ∷ bytes) opens = absurd (false≢true (and_parts _ false opens).1)
opens-outside true [] opens = absurd (false≢true opens)

-- a comment opens by a brace that no percent sign follows, or by a parenthesis that a star follows
pub opens-parts : (b : ℕ) (bytes : Text) → opens_comment false (b ∷ bytes) ≡ true → ((b ≡ 123) × (slice_index bytes 0 ≢ 37)) ⊎ ((b ≡ 40) × (slice_index bytes 0 ≡ 42))
opens-parts b bytes opens =
    elim (cases_Bool (b == 123)) [
      | inl brace ↦ elim (cases_Bool (slice_index bytes 0 == 37)) [
        | inl percent ↦ absurd (false≢true (rw (eqb-true b 123 brace, percent) at opens))
        | inr no_percent ↦ inl (eqb-true b 123 brace, λ percent. false≢true (sym no_percent ∙ eq-eqb (slice_index bytes 0) 37 percent))
      ]
      | inr no_brace ↦
          let both = and_parts (b == 40 && slice_index bytes 0 == 42) true (rw no_brace at opens) in
          let parts = and_parts (b == 40) (slice_index bytes 0 == 42) both.0 in
          inr (eqb-true b 40 parts.0, eqb-true (slice_index bytes 0) 42 parts.1)
    ]

-- what opens a comment begins no other lexeme but a mark
pub record Plain (b : ℕ) : Type 0 where
  pub no_letter : is_ascii_alphabetic b ≡ false
  pub no_separator : is_separator b ≡ false
  pub no_digit : is_ascii_digit b ≡ false
  pub no_quote : (b == 39) ≡ false

pub opens-plain : (inside : Bool) (b : ℕ) (bytes : Text) → opens_comment inside (b ∷ bytes) ≡ true → Plain b
opens-plain inside b bytes opens =
    let outside = opens-outside inside (b ∷ bytes) opens in
    elim (opens-parts b bytes (subst (λ (i : Bool). opens_comment i (b ∷ bytes) ≡ true) outside opens)) [
      | inl brace ↦ rw brace.0 (record { no_letter = refl; no_separator = refl; no_digit = refl; no_quote = refl })
      | inr paren ↦ rw paren.0 (record { no_letter = refl; no_separator = refl; no_digit = refl; no_quote = refl })
    ]

pub form-nonempty : (inside : Bool) (token : Option TokenKind) → IsForm inside token [] → ⊥
unfolding symbol_of
form-nonempty inside None form =
    elim form [
      | inl separator ↦ absurd separator
      | inr comment ↦
          let c = comment.1 in
          elim c.opens [
            | inl brace ↦ let e : [] ≡ 123 ∷ c.rest = rw brace.0 at c.whole in cc
            | inr paren ↦ let e : [] ≡ 40 ∷ 42 ∷ c.rest = rw paren at c.whole in cc
          ]
    ]
form-nonempty inside (Some kind.Ident) form = absurd form.0
form-nonempty inside (Some (kind.Word symbol)) form = absurd form.0
form-nonempty inside (Some (kind.Number value)) form = form.0.0 refl
form-nonempty inside (Some kind.Text) form = let e : [] ≡ quoted form.0 = form.2 in cc
form-nonempty inside (Some (kind.Symbol symbol)) form = let e : None ≡ Some symbol = form in cc
form-nonempty inside (Some kind.AssertStart) form = let e : [] ≡ codes "{%" = form.1 in cc
form-nonempty inside (Some kind.AssertEnd) form = let e : [] ≡ codes "%}" = form.1 in cc
form-nonempty inside (Some kind.Query) form = let e : [] ≡ codes "?" = form.1 in cc

pub piece-advances : (inside : Bool) (rest : Text) (t : Option TokenKind) (n : ℕ) → IsPiece inside rest t n → 0 < n
piece-advances inside rest t zero p = absurd (form-nonempty inside t p.form)
piece-advances inside rest t (suc n) p = omega arith

pub no-separator : (b : ℕ) (bytes : Text) → Plain b → IsSeparator (b ∷ bytes) → ⊥
no-separator b [] plain separator = false≢true (sym plain.no_separator ∙ separator)
no-separator b (c ∷ bytes) plain separator = separator

-- ---- the limit of numbers

pub fits-some : (token : TokenKind) → NumberFits token → ForSome (Some token) NumberFits
fits-some token fits other is = let same : token ≡ other = cc in subst (λ (k : TokenKind). NumberFits k) same fits

pub fits-none : ForSome None NumberFits
fits-none other is = let no : None ≡ Some other = is in cc
