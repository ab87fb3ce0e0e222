-- The rules that tokens meet: where they rise, and where their numbers are not too large.
use Rattle.std.proofs.Common.{◌≡◌, ℕ, ◌-◌, ◌<◌, ◌≤◌, Bool, List, length, get_or, Option, Some, None, slice_get, nat_eq, nat_lt, nat_le, true, false, refl, ap, subst, ◌∙◌, arith}
use Rattle.std.proofs.lemmas.Bool.{and_from}
use Rattle.std.proofs.lemmas.Bool.Decides.{nat_tests}
use Rattle.std.proofs.lemmas.Option.{none-some, slice_get-get_or, slice_get_within, get_or_from_slice_get}
use Rattle.std.specs.List.{All}
use Rattle.std.specs.Option.{option_map}
use Rattle.px_base.specs.declared.place.Span.{Span}
use Rattle.pas_lexer.specs.declared.token.Token.{Token}
use Rattle.pas_lexer.specs.declared.token.TokenKind.{TokenKind}
use Rattle.pas_lexer.specs.declared.token.TokenKind.TheVariants as kind
use Rattle.pas_lexer.specs.Spans.{SpansRise, NumbersFit, NumberFits}
use Rattle.pas_parser.specs.Look.{kind_at, span_at, span_or, end_of, cover}
use Rattle.pas_parser.specs.Each.{is_within, NumberPasses, NumbersPass}

-- any token, where one is asked for
some_token : Token
some_token = record { kind = kind.Ident; span = record { start = 0; «end» = 0 } }

small : (n : ℕ) → n ≤ 2147483647 → nat_le n 2147483647 ≡ true
small n h = grind (arith, nat_tests)

both_ends : (len : ℕ) (s : Span) → s.start < s.«end» → s.«end» ≤ len → is_within len s ≡ true
both_ends len s h k =
    let first : nat_lt s.start s.«end» ≡ true = grind (arith, nat_tests) in
    let last : nat_le s.«end» len ≡ true = grind (arith, nat_tests) in
    and_from _ _ first last

module _ (tokens : List Token) where
  abbrev at : ℕ → Token
  at i = get_or tokens i some_token

  span_is : (i : ℕ) → i < length tokens → span_at tokens i ≡ (at i).span
  unfolding span_at
  span_is i h = ap (span_or (end_of tokens)) (slice_get-get_or tokens i some_token h)

  module _ (len : ℕ) (rise : SpansRise len tokens) where
    pub one_within : (i : ℕ) → i < length tokens → is_within len (span_at tokens i) ≡ true
    one_within i h =
        let bounds = rise.within i some_token h in
        ap (is_within len) (span_is i h) ∙ both_ends len (at i).span bounds.0 bounds.1

    ends_later : (i j : ℕ) → i < j → j ≤ length tokens → (at i).span.start < (at (j - 1)).span.«end»
    ends_later i j h le =
        let first = rise.within i some_token (omega arith) in
        let last = rise.within (j - 1) some_token (omega arith) in
        elim (nat_eq i (j - 1)) as (λ b. nat_eq i (j - 1) ≡ b → (at i).span.start < (at (j - 1)).span.«end») [
          | true ↦ λ e. let is : i ≡ j - 1 = grind (arith, nat_tests) in omega (arith, first.0, ap (λ k. (at k).span.«end») is)
          | false ↦ λ e. let lt : i < j - 1 = grind (arith, nat_tests) in omega (arith, first.0, last.0, rise.apart i (j - 1) some_token lt (omega arith))
        ] refl

    pub cover_within : (i j : ℕ) → i < j → j ≤ length tokens → is_within len (cover tokens i j) ≡ true
    unfolding cover
    cover_within i j h le =
        let first = span_is i (omega arith) in
        let last = span_is (j - 1) (omega arith) in
        let later : (span_at tokens i).start < (span_at tokens (j - 1)).«end» = omega (arith, ap (λ s. s.start) first, ap (λ s. s.«end») last, ends_later i j h le) in
        let inside : (span_at tokens (j - 1)).«end» ≤ len = omega (arith, ap (λ s. s.«end») last, (rise.within (j - 1) some_token (omega arith)).1) in
        both_ends len (cover tokens i j) later inside

    -- a later token starts later
    pub starts_later : (i j : ℕ) → i < j → j < length tokens → (span_at tokens i).start < (span_at tokens j).start
    starts_later i j h le =
        let first = span_is i (omega arith) in
        let last = span_is j le in
        omega (arith, ap (λ s. s.start) first, ap (λ s. s.start) last, (rise.within i some_token (omega arith)).0, rise.apart i j some_token h le)

  -- the number of a token meets what each number token meets
  number_by : (P : ℕ → Type 0) (Q : TokenKind → Type 0) → ((value : ℕ) → Q (kind.Number value) → P value) → All (λ token. Q token.kind) tokens →
      (i value : ℕ) (o : Option Token) → slice_get tokens i ≡ o → option_map (λ (t : Token). t.kind) o ≡ Some (kind.Number value) → P value
  number_by P Q gives all i value None e h = absurd (none-some _ h)
  number_by P Q gives all i value (Some t) e h =
      let there = all i t (slice_get_within tokens i t e) in
      let here : Q t.kind = subst (λ (u : Token). Q u.kind) (get_or_from_slice_get tokens i t t e) there in
      let same : t.kind ≡ kind.Number value = cc in
      gives value (subst Q same here)

  pub number_fits : NumbersFit tokens → (i value : ℕ) → kind_at tokens i ≡ Some (kind.Number value) → nat_le value 2147483647 ≡ true
  number_fits fit i value h = number_by (λ n. nat_le n 2147483647 ≡ true) NumberFits (λ n le. small n le) fit i value (slice_get tokens i) refl h

  pub number_passes : (passes : ℕ → Bool) → NumbersPass passes tokens → (i value : ℕ) → kind_at tokens i ≡ Some (kind.Number value) → passes value ≡ true
  number_passes passes all i value h = number_by (λ n. passes n ≡ true) (NumberPasses passes) (λ n is. is) all i value (slice_get tokens i) refl h
