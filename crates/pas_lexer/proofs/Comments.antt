-- The comment at the front of a text.
use Rattle.std.proofs.Common.{◌≡◌, ◌≢◌, ◌⊎◌, inl, inr, ℕ, zero, suc, ◌+◌, ◌<◌, ◌≤◌, false, ◌&&◌, ◌==◌, [], ◌∷◌, length, take, Some, None, refl, ap, sym, ◌∙◌, arith, ◌-◌, Bool, true, Option, subst}
use Rattle.std.proofs.lemmas.List.{get_or-take, length-take-le}
use Rattle.std.proofs.lemmas.Bool.{and_parts, cases_Bool, cases_order, eqb-true, eq-eqb, false≢true, cases_lt}
use Rattle.std.specs.Prelude.{codes, slice_index}
use Rattle.pas_lexer.specs.Lexeme.{Text, IsComment, Closes, IsForm}
use Rattle.pas_lexer.specs.Scan.{comment_end, comment, piece as piece_of}
use Rattle.std.specs.Option.{option_map}
use Rattle.pas_lexer.specs.Covering.{IsPiece, opens_comment}
use Rattle.pas_lexer.specs.declared.piece.Piece.{Piece}
use Rattle.pas_lexer.specs.declared.token.TokenKind.{TokenKind}
use Rattle.pas_lexer.proofs.Forms.{no-separator, fits-none, form-of, kind_of, opens-plain, opens-parts, opens-outside, form-nonempty, piece-advances}

pub closes-nothing : Closes [] → ⊥
closes-nothing ([], inl e) = cc
closes-nothing ([], inr e) = cc
closes-nothing (b ∷ body, inl e) = cc
closes-nothing (b ∷ body, inr e) = cc

closes-more : (b : ℕ) (bytes : Text) → Closes bytes → Closes (b ∷ bytes)
closes-more b bytes closes = elim closes.1 [
  | inl e ↦ (b ∷ closes.0, inl (ap (λ rest. b ∷ rest) e))
  | inr e ↦ (b ∷ closes.0, inr (ap (λ rest. b ∷ rest) e))
]

-- a mark that closes begins at the first byte, or later
closes-parts : (b : ℕ) (bytes : Text) → Closes (b ∷ bytes) → ((b ≡ 125) × (bytes ≡ [])) ⊎ (((b ≡ 42) × (bytes ≡ 41 ∷ [])) ⊎ Closes bytes)
closes-parts b bytes ([], inl e) = inl (cc, cc)
closes-parts b bytes ([], inr e) = inr (inl (cc, cc))
closes-parts b bytes (x ∷ body, inl e) = inr (inr (body, inl (cc)))
closes-parts b bytes (x ∷ body, inr e) = inr (inr (body, inr (cc)))

-- the first mark that closes ends `len` bytes on
pub record FirstClose (bytes : Text) (len : ℕ) : Type 0 where
  pub within : len ≤ length bytes
  pub closes : Closes (take len bytes)
  pub first : (k : ℕ) → k < len → Closes (take k bytes) → ⊥

pub one-close : (bytes : Text) (m n : ℕ) → FirstClose bytes m → FirstClose bytes n → m ≡ n
one-close bytes m n f g = elim (cases_order m n) [
  | inl same ↦ same
  | inr (inl less) ↦ absurd (g.first m less f.closes)
  | inr (inr more) ↦ absurd (f.first n more g.closes)
]

brace-first : (bytes : Text) (k : ℕ) → k < 1 → Closes (take k (125 ∷ bytes)) → ⊥
brace-first bytes zero before closes = closes-nothing closes
brace-first bytes (suc k) before closes = absurd (omega (arith, before))

brace-closes : (bytes : Text) → FirstClose (125 ∷ bytes) 1
brace-closes bytes = record { within = omega arith; closes = ([], inl refl); first = brace-first bytes }

paren-first : (bytes : Text) (k : ℕ) → k < 2 → Closes (take k (42 ∷ 41 ∷ bytes)) → ⊥
paren-first bytes zero before closes = closes-nothing closes
paren-first bytes (suc zero) before closes = elim (closes-parts 42 [] closes) [
  | inl brace ↦ absurd (omega (arith, brace.0))
  | inr (inl paren) ↦ let e : ◌≡◌ {A = Text} [] (41 ∷ []) = paren.1 in cc
  | inr (inr nothing) ↦ closes-nothing nothing
]
paren-first bytes (suc (suc k)) before closes = absurd (omega (arith, before))

paren-closes : (bytes : Text) → FirstClose (42 ∷ 41 ∷ bytes) 2
paren-closes bytes = record { within = omega arith; closes = ([], inr refl); first = paren-first bytes }

first-alone : (k : ℕ) (bytes : Text) (b : ℕ) → take k bytes ≡ b ∷ [] → slice_index bytes 0 ≡ b
first-alone zero bytes b e = cc
first-alone (suc k) [] b e = cc
first-alone (suc k) (x ∷ bytes) b e = cc

later-first : (b : ℕ) (bytes : Text) (len : ℕ) → (b == 125) ≡ false → (b == 42 && slice_index bytes 0 == 41) ≡ false → FirstClose bytes len
    → (k : ℕ) → k < suc len → Closes (take k (b ∷ bytes)) → ⊥
later-first b bytes len no_brace no_paren close zero before closes = closes-nothing closes
later-first b bytes len no_brace no_paren close (suc k) before closes = elim (closes-parts b (take k bytes) closes) [
  | inl brace ↦ false≢true (sym no_brace ∙ eq-eqb b 125 brace.0)
  | inr (inl paren) ↦
      let next = first-alone k bytes 41 paren.1 in
      false≢true (sym no_paren ∙ rw (eq-eqb b 42 paren.0, eq-eqb (slice_index bytes 0) 41 next) refl)
  | inr (inr later) ↦ close.first k (omega (arith, before)) later
]

later-closes : (b : ℕ) (bytes : Text) (len : ℕ) → (b == 125) ≡ false → (b == 42 && slice_index bytes 0 == 41) ≡ false → FirstClose bytes len → FirstClose (b ∷ bytes) (suc len)
later-closes b bytes len no_brace no_paren close = record {
  within = omega (arith, close.within);
  closes = closes-more b (take len bytes) close.closes;
  first = later-first b bytes len no_brace no_paren close;
}

-- ---- these marks and the scan

pub record Met (bytes : Text) (at end : ℕ) : Type 0 where
  pub len : ℕ
  pub close : FirstClose bytes len
  pub is : end ≡ at + len

met-paren : (b : ℕ) (bytes : Text) (at end : ℕ) → b ≡ 42 → slice_index bytes 0 ≡ 41 → end ≡ at + 2 → Met (b ∷ bytes) at end
met-paren b [] at end star paren is = absurd (omega (arith, paren))
met-paren b (c ∷ bytes) at end star paren is = record { len = 2; close = rw (star, paren) (paren-closes bytes); is = is }

pub comment_end-met : (at end : ℕ) (bytes : Text) → comment_end at bytes ≡ Some end → Met bytes at end
comment_end-met at end [] e = cc
comment_end-met at end (b ∷ bytes) e =
    elim (cases_Bool (b == 125)) [
      | inl brace ↦
          let is : Some (at + 1) ≡ Some end = rw brace at e in
          let same : at + 1 ≡ end = cc in
          record { len = 1; close = rw (eqb-true b 125 brace) (brace-closes bytes); is = sym same }
      | inr no_brace ↦ elim (cases_Bool (b == 42 && slice_index bytes 0 == 41)) [
        | inl paren ↦
            let is : Some (at + 2) ≡ Some end = rw (no_brace, paren) at e in
            let same : at + 2 ≡ end = cc in
            let parts = and_parts (b == 42) (slice_index bytes 0 == 41) paren in
            met-paren b bytes at end (eqb-true b 42 parts.0) (eqb-true (slice_index bytes 0) 41 parts.1) (sym same)
        | inr no_paren ↦
            let later = comment_end-met (at + 1) end bytes (rw (no_brace, no_paren) at e) in
            record { len = suc later.len; close = later-closes b bytes later.len no_brace no_paren later.close; is = omega (arith, later.is) }
      ]
    ]

pub comment_end-none : (at len : ℕ) (bytes : Text) → comment_end at bytes ≡ None → Closes (take len bytes) → ⊥
comment_end-none at zero bytes e closes = closes-nothing closes
comment_end-none at (suc len) [] e closes = closes-nothing closes
comment_end-none at (suc len) (b ∷ bytes) e closes =
    elim (cases_Bool (b == 125)) [
      | inl brace ↦ let is : Some (at + 1) ≡ None = rw brace at e in cc
      | inr no_brace ↦ elim (cases_Bool (b == 42 && slice_index bytes 0 == 41)) [
        | inl paren ↦ let is : Some (at + 2) ≡ None = rw (no_brace, paren) at e in cc
        | inr no_paren ↦ elim (closes-parts b (take len bytes) closes) [
          | inl here ↦ false≢true (sym no_brace ∙ eq-eqb b 125 here.0)
          | inr (inl here) ↦ false≢true (sym no_paren ∙ rw (eq-eqb b 42 here.0, eq-eqb (slice_index bytes 0) 41 (first-alone len bytes 41 here.1)) refl)
          | inr (inr later) ↦ comment_end-none (at + 1) len bytes (rw (no_brace, no_paren) at e) later
        ]
      ]
    ]

-- ---- these marks and comments

take-less : (k n : ℕ) (bytes : Text) → k ≤ n → take k (take n bytes) ≡ take k bytes
take-less zero n bytes less = refl
take-less (suc k) zero bytes less = absurd (omega (arith, less))
take-less (suc k) (suc n) [] less = refl
take-less (suc k) (suc n) (b ∷ bytes) less = ap (λ rest. b ∷ rest) (take-less k n bytes (omega (arith, less)))

some-close : (bytes : Text) (len : ℕ) → FirstClose bytes len → 0 < len
some-close bytes zero close = absurd (closes-nothing close.closes)
some-close bytes (suc len) close = omega arith

first-taken : (bytes : Text) (len : ℕ) → FirstClose bytes len → (k : ℕ) → k < length (take len bytes) → Closes (take k (take len bytes)) → ⊥
first-taken bytes len close k before closes =
    let within = close.within in
    let less : k < len = omega (arith, before, length-take-le len bytes within) in
    let early : Closes (take k bytes) = rw (← take-less k len bytes (omega (arith, less))) closes in
    close.first k less early

pub brace-comment : (bytes : Text) (len : ℕ) → slice_index bytes 0 ≢ 37 → FirstClose bytes len → IsComment (123 ∷ take len bytes)
brace-comment bytes len no_percent close =
    let some = some-close bytes len close in
    let next : slice_index (take len bytes) 0 ≡ slice_index bytes 0 = get_or-take len bytes 0 0 some in
    record {
      opening = codes "{";
      rest = take len bytes;
      whole = refl;
      opens = inl (refl, λ percent. no_percent (sym next ∙ percent));
      closes = close.closes;
      first = first-taken bytes len close;
    }

pub paren-comment : (bytes : Text) (len : ℕ) → FirstClose bytes len → IsComment (40 ∷ 42 ∷ take len bytes)
paren-comment bytes len close = record {
  opening = codes "(*";
  rest = take len bytes;
  whole = refl;
  opens = inr refl;
  closes = close.closes;
  first = first-taken bytes len close;
}

close-in : (bytes rest : Text) (len : ℕ) → len ≤ length bytes → take len bytes ≡ rest → Closes rest → ((k : ℕ) → k < length rest → Closes (take k rest) → ⊥) → FirstClose bytes len
close-in bytes rest len within same closes first = record {
  within = within;
  closes = rw same closes;
  first = λ k before early.
      let long : length rest ≡ len = rw (← same) (length-take-le len bytes within) in
      first k (omega (arith, long, before)) (rw (← same, take-less k len bytes (omega (arith, before))) early);
}

pub comment-brace : (bytes : Text) (len : ℕ) → len ≤ length bytes → IsComment (123 ∷ take len bytes) → FirstClose bytes len
comment-brace bytes len within comment = elim comment.opens [
  | inl brace ↦
      let whole : 123 ∷ take len bytes ≡ 123 ∷ comment.rest = rw brace.0 at comment.whole in
      let same : take len bytes ≡ comment.rest = cc in
      close-in bytes comment.rest len within same comment.closes comment.first
  | inr paren ↦
      let whole : 123 ∷ take len bytes ≡ 40 ∷ 42 ∷ comment.rest = rw paren at comment.whole in
      let first : ◌≡◌ {A = ℕ} 123 40 = cc in
      absurd (omega (arith, first))
]

pub comment-paren : (bytes : Text) (len : ℕ) → len ≤ length bytes → IsComment (40 ∷ 42 ∷ take len bytes) → FirstClose bytes len
comment-paren bytes len within comment = elim comment.opens [
  | inl brace ↦
      let whole : ◌≡◌ {A = Text} (40 ∷ 42 ∷ take len bytes) (123 ∷ comment.rest) = rw brace.0 at comment.whole in
      let first : ◌≡◌ {A = ℕ} 40 123 = cc in
      absurd (omega (arith, first))
  | inr paren ↦
      let whole : ◌≡◌ {A = Text} (40 ∷ 42 ∷ take len bytes) (40 ∷ 42 ∷ comment.rest) = rw paren at comment.whole in
      let same : take len bytes ≡ comment.rest = cc in
      close-in bytes comment.rest len within same comment.closes comment.first
]

-- what opens a comment alone is no comment
pub alone-no-comment : (b : ℕ) → IsComment (b ∷ []) → ⊥
alone-no-comment b comment =
    elim comment.opens [
      | inl brace ↦
          let whole : b ∷ [] ≡ 123 ∷ comment.rest = rw brace.0 at comment.whole in
          let nothing : [] ≡ comment.rest = cc in
          closes-nothing (subst (λ (t : Text). Closes t) (sym nothing) comment.closes)
      | inr paren ↦ let whole : b ∷ [] ≡ 40 ∷ 42 ∷ comment.rest = rw paren at comment.whole in cc
    ]

-- ---- the piece

comment-form : (inside : Bool) (bytes : Text) (other : Option TokenKind) (b : ℕ) → opens_comment inside (b ∷ bytes) ≡ true → IsForm inside other (b ∷ bytes) → IsComment (b ∷ bytes)
comment-form inside bytes other b opens form =
    let plain = opens-plain inside b bytes opens in
    let is : kind_of inside (b ∷ bytes) ≡ None = rw (plain.no_letter, plain.no_separator, plain.no_digit, plain.no_quote, opens) refl in
    elim (form-of inside other None (b ∷ bytes) form is) [
      | inl separator ↦ absurd (no-separator b bytes plain separator)
      | inr comment ↦ comment.1
    ]

-- a text that begins with a comment's opening mark, as the scan takes it apart
record Opening (rest body : Text) (len : ℕ) : Type 0 where
  pub is_comment : (m : ℕ) → FirstClose body m → IsComment (take (len + m) rest)
  pub is_close : (m : ℕ) → len + m ≤ length rest → IsComment (take (len + m) rest) → FirstClose body m
  pub none_short : (m : ℕ) → m < len → IsComment (take m rest) → ⊥
  pub body_is : length rest ≡ len + length body

brace-short : (bytes : Text) (m : ℕ) → m < 1 → IsComment (take m (123 ∷ bytes)) → ⊥
brace-short bytes zero short comment = form-nonempty false None (inr (refl, comment))
brace-short bytes (suc m) short comment = absurd (omega (arith, short))

brace-opening : (bytes : Text) → slice_index bytes 0 ≢ 37 → Opening (123 ∷ bytes) bytes 1
brace-opening bytes no_percent = record {
  is_comment = λ m close. let e : 1 + m ≡ suc m = omega arith in rw e (brace-comment bytes m no_percent close);
  is_close = λ m within comment. let e : 1 + m ≡ suc m = omega arith in comment-brace bytes m (omega (arith, within)) (rw e at comment);
  none_short = brace-short bytes;
  body_is = omega arith;
}

paren-short : (bytes : Text) (m : ℕ) → m < 2 → IsComment (take m (40 ∷ 42 ∷ bytes)) → ⊥
paren-short bytes zero short comment = form-nonempty false None (inr (refl, comment))
paren-short bytes (suc zero) short comment = alone-no-comment 40 comment
paren-short bytes (suc (suc m)) short comment = absurd (omega (arith, short))

paren-opening : (bytes : Text) → Opening (40 ∷ 42 ∷ bytes) bytes 2
paren-opening bytes = record {
  is_comment = λ m close. let e : 2 + m ≡ suc (suc m) = omega arith in rw e (paren-comment bytes m close);
  is_close = λ m within comment. let e : 2 + m ≡ suc (suc m) = omega arith in comment-paren bytes m (omega (arith, within)) (rw e at comment);
  none_short = paren-short bytes;
  body_is = omega arith;
}

opens-taken : (inside : Bool) (b : ℕ) (bytes : Text) (m : ℕ) → opens_comment inside (b ∷ bytes) ≡ true → opens_comment inside (b ∷ take (suc m) bytes) ≡ true
opens-taken inside b [] m opens = opens
opens-taken inside b (c ∷ bytes) m opens = opens

comment-longest : (inside : Bool) (b : ℕ) (bytes body : Text) (len m : ℕ) → Opening (b ∷ bytes) body len → 0 < len → opens_comment inside (b ∷ bytes) ≡ true → FirstClose body m
    → (more : ℕ) (other : Option TokenKind) → len + m < more → more ≤ length (b ∷ bytes) → IsForm inside other (take more (b ∷ bytes)) → ⊥
comment-longest inside b bytes body len m opening some opens close zero other less within form = absurd (omega (arith, less))
comment-longest inside b bytes body len m opening some opens close (suc zero) other less within form = absurd (omega (arith, less, some))
comment-longest inside b bytes body len m opening some opens close (suc (suc n)) other less within form =
    let comment = comment-form inside (take (suc n) bytes) other b (opens-taken inside b bytes n opens) form in
    let k = suc (suc n) - len in
    let e : suc (suc n) ≡ len + k = omega (arith, less) in
    let there : IsComment (take (len + k) (b ∷ bytes)) = subst (λ (j : ℕ). IsComment (take j (b ∷ bytes))) e comment in
    let again = opening.is_close k (omega (arith, e, within)) there in
    let same = one-close body m k close again in
    absurd (omega (arith, same, e, less))

comment-piece : (inside : Bool) (b : ℕ) (bytes body : Text) (len end : ℕ) → Opening (b ∷ bytes) body len → 0 < len → opens_comment inside (b ∷ bytes) ≡ true
    → comment_end len body ≡ Some end → IsPiece inside (b ∷ bytes) None end
comment-piece inside b bytes body len end opening some opens is =
    let met = comment_end-met len end body is in
    let close = met.close in
    let piece : IsPiece inside (b ∷ bytes) None (len + met.len) = record {
      within = omega (arith, opening.body_is, close.within);
      form = inr (opens-outside inside (b ∷ bytes) opens, opening.is_comment met.len close);
      longest = comment-longest inside b bytes body len met.len opening some opens close;
      no_symbol = λ opens. refl;
      no_larger = fits-none;
    } in
    rw met.is piece

no-comment-piece : (inside : Bool) (b : ℕ) (bytes body : Text) (len : ℕ) (token : Option TokenKind) (n : ℕ) → Opening (b ∷ bytes) body len → opens_comment inside (b ∷ bytes) ≡ true
    → comment_end len body ≡ None → IsPiece inside (b ∷ bytes) token n → ⊥
no-comment-piece inside b bytes body len token zero opening opens is piece = absurd (omega (arith, piece-advances inside (b ∷ bytes) token zero piece))
no-comment-piece inside b bytes body len token (suc n) opening opens is piece =
    let form = subst (λ (t : Option TokenKind). IsForm inside t (b ∷ take n bytes)) (piece.no_symbol opens) piece.form in
    elim form [
      | inl separator ↦ no-separator b (take n bytes) (opens-plain inside b bytes opens) separator
      | inr comment ↦ elim (cases_lt (suc n) len) [
        | inl short ↦ opening.none_short (suc n) short comment.1
        | inr long ↦
            let k = suc n - len in
            let e : suc n ≡ len + k = omega (arith, long) in
            let within = piece.within in
            let there : IsComment (take (len + k) (b ∷ bytes)) = subst (λ (j : ℕ). IsComment (take j (b ∷ bytes))) e comment.1 in
            comment_end-none len k body is (opening.is_close k (omega (arith, e, within)) there).closes
      ]
    ]

mapped : (end : Option ℕ) (piece : Piece) → option_map (λ len. piece_of None len) end ≡ Some piece → (len : ℕ) × (end ≡ Some len) × (piece_of None len ≡ piece)
mapped None piece e = cc
mapped (Some len) piece e = (len, refl, cc)

unmapped : (end : Option ℕ) → option_map (λ len. piece_of None len) end ≡ None → end ≡ None
unmapped None e = refl
unmapped (Some len) e = cc

found-brace : (inside : Bool) (bytes : Text) (piece : Piece) → slice_index bytes 0 ≢ 37 → opens_comment inside (123 ∷ bytes) ≡ true → comment (123 ∷ bytes) ≡ Some piece
    → IsPiece inside (123 ∷ bytes) piece.token piece.len
unfolding comment
found-brace inside bytes piece no_percent opens is =
    let end = mapped (comment_end 1 bytes) piece is in
    subst (λ (p : Piece). IsPiece inside (123 ∷ bytes) p.token p.len) end.2
    (comment-piece inside 123 bytes bytes 1 end.0 (brace-opening bytes no_percent) (omega arith) opens end.1)

found-paren : (inside : Bool) (bytes : Text) (piece : Piece) → opens_comment inside (40 ∷ 42 ∷ bytes) ≡ true → comment (40 ∷ 42 ∷ bytes) ≡ Some piece
    → IsPiece inside (40 ∷ 42 ∷ bytes) piece.token piece.len
unfolding comment
found-paren inside bytes piece opens is =
    let end = mapped (comment_end 2 bytes) piece is in
    subst (λ (p : Piece). IsPiece inside (40 ∷ 42 ∷ bytes) p.token p.len) end.2
    (comment-piece inside 40 (42 ∷ bytes) bytes 2 end.0 (paren-opening bytes) (omega arith) opens end.1)

missed-brace : (inside : Bool) (bytes : Text) (token : Option TokenKind) (len : ℕ) → slice_index bytes 0 ≢ 37 → opens_comment inside (123 ∷ bytes) ≡ true → comment (123 ∷ bytes) ≡ None
    → IsPiece inside (123 ∷ bytes) token len → ⊥
unfolding comment
missed-brace inside bytes token len no_percent opens is =
    no-comment-piece inside 123 bytes bytes 1 token len (brace-opening bytes no_percent) opens (unmapped (comment_end 1 bytes) is)

missed-paren : (inside : Bool) (bytes : Text) (token : Option TokenKind) (len : ℕ) → opens_comment inside (40 ∷ 42 ∷ bytes) ≡ true → comment (40 ∷ 42 ∷ bytes) ≡ None
    → IsPiece inside (40 ∷ 42 ∷ bytes) token len → ⊥
unfolding comment
missed-paren inside bytes token len opens is =
    no-comment-piece inside 40 (42 ∷ bytes) bytes 2 token len (paren-opening bytes) opens (unmapped (comment_end 2 bytes) is)

-- the two ways in which a comment opens
by-opening : (P : Text → Type 0) (b : ℕ) (bytes : Text) → opens_comment false (b ∷ bytes) ≡ true → ((rest : Text) → slice_index rest 0 ≢ 37 → P (123 ∷ rest))
    → ((rest : Text) → P (40 ∷ 42 ∷ rest)) → P (b ∷ bytes)
by-opening P b [] opens brace paren =
    elim (opens-parts b [] opens) [
      | inl opened ↦ rw opened.0 (brace [] opened.1)
      | inr opened ↦ absurd (omega (arith, opened.1))
    ]
by-opening P b (c ∷ bytes) opens brace paren =
    elim (opens-parts b (c ∷ bytes) opens) [
      | inl opened ↦ rw opened.0 (brace (c ∷ bytes) opened.1)
      | inr opened ↦ rw (opened.0, opened.1) (paren bytes)
    ]

pub found-comment : (b : ℕ) (bytes : Text) (piece : Piece) → opens_comment false (b ∷ bytes) ≡ true → comment (b ∷ bytes) ≡ Some piece → IsPiece false (b ∷ bytes) piece.token piece.len
found-comment b bytes piece opens =
    by-opening (λ rest. opens_comment false rest ≡ true → comment rest ≡ Some piece → IsPiece false rest piece.token piece.len) b bytes opens
    (λ rest no_percent. found-brace false rest piece no_percent) (λ rest. found-paren false rest piece) opens

pub missed-comment : (b : ℕ) (bytes : Text) (token : Option TokenKind) (len : ℕ) → opens_comment false (b ∷ bytes) ≡ true → comment (b ∷ bytes) ≡ None
    → IsPiece false (b ∷ bytes) token len → ⊥
missed-comment b bytes token len opens =
    by-opening (λ rest. opens_comment false rest ≡ true → comment rest ≡ None → IsPiece false rest token len → ⊥) b bytes opens
    (λ rest no_percent. missed-brace false rest token len no_percent) (λ rest. missed-paren false rest token len) opens
