-- The string at the front of a text.
use Rattle.std.proofs.Common.{◌≡◌, ◌⊎◌, inl, inr, ℕ, zero, suc, ◌+◌, ◌≤◌, Bool, true, false, not, ◌||◌, ◌==◌, cond, [], ◌∷◌, ◌++◌, length, take, refl, ap, arith, ◌≢◌, ◌<◌, Option, Some, None, sym, ◌∙◌, subst}
use Rattle.std.proofs.lemmas.Bool.{and_parts, cases_Bool, eqb-true, false≢true, eq-eqb}
use Rattle.std.specs.List.{list_all}
use Rattle.std.specs.Prelude.{codes}
use Rattle.pas_lexer.specs.Lexeme.{Text, IsString, is_line_end, doubled, IsForm}
use Rattle.pas_lexer.specs.Scan.{string_end, string, piece as piece_of}
use Rattle.pas_lexer.specs.Covering.{IsPiece}
use Rattle.pas_lexer.specs.declared.piece.Piece.{Piece}
use Rattle.pas_lexer.specs.declared.token.TokenKind.{TokenKind}
use Rattle.pas_lexer.specs.declared.token.TokenKind.TheVariants as kind
use Rattle.pas_lexer.proofs.Forms.{fits-some, form-of, opens-plain, piece-advances}

-- what follows the opening quote is a string up to its end; `after_quote` says that a quote was read that may be its end
abbrev pub ends : Bool → Text → Bool
ends after_quote [] = after_quote
ends after_quote (b ∷ bytes) = cond (b == 39) (ends (not after_quote) bytes) (cond (after_quote || is_line_end b) false (ends false bytes))

-- ---- these bytes and strings

record Inside (bytes : Text) : Type 0 where
  value : Text
  one_line : list_all (λ b. not (is_line_end b)) value ≡ true
  is : bytes ≡ doubled value ++ codes "'"

inside-quote : (bytes : Text) → Inside bytes → Inside (39 ∷ 39 ∷ bytes)
inside-quote bytes inside = record { value = 39 ∷ inside.value; one_line = inside.one_line; is = ap (λ rest. 39 ∷ 39 ∷ rest) inside.is }

inside-other : (b : ℕ) (bytes : Text) → (b == 39) ≡ false → is_line_end b ≡ false → Inside bytes → Inside (b ∷ bytes)
inside-other b bytes other no_end inside = record {
  value = b ∷ inside.value;
  one_line = rw no_end inside.one_line;
  is = rw other (ap (λ rest. b ∷ rest) inside.is);
}

read : (after_quote : Bool) (bytes : Text) → ends after_quote bytes ≡ true → Inside (cond after_quote (39 ∷ bytes) bytes)
read false [] e = absurd (false≢true e)
read true [] e = record { value = []; one_line = refl; is = refl }
read false (b ∷ bytes) e =
    elim (cases_Bool (b == 39)) [
      | inl quote ↦ rw (eqb-true b 39 quote) (read true bytes (rw quote at e))
      | inr other ↦ elim (cases_Bool (is_line_end b)) [
        | inl line_end ↦ absurd (false≢true (rw (other, line_end) at e))
        | inr no_end ↦ inside-other b bytes other no_end (read false bytes (rw (other, no_end) at e))
      ]
    ]
read true (b ∷ bytes) e =
    elim (cases_Bool (b == 39)) [
      | inl quote ↦ rw (eqb-true b 39 quote) (inside-quote bytes (read false bytes (rw quote at e)))
      | inr other ↦ absurd (false≢true (rw other at e))
    ]

pub ends-string : (bytes : Text) → ends false bytes ≡ true → IsString (39 ∷ bytes)
ends-string bytes e = let inside = read false bytes e in (inside.value, inside.one_line, ap (λ rest. 39 ∷ rest) inside.is)

written : (value : Text) → list_all (λ b. not (is_line_end b)) value ≡ true → ends false (doubled value ++ codes "'") ≡ true
written [] one_line = refl
written (b ∷ value) one_line =
    let parts = and_parts (not (is_line_end b)) (list_all (λ b. not (is_line_end b)) value) one_line in
    elim (cases_Bool (b == 39)) [
      | inl quote ↦ rw (quote, quote) (written value parts.1)
      | inr other ↦ elim (cases_Bool (is_line_end b)) [
        | inl line_end ↦ absurd (false≢true (rw line_end at parts.0))
        | inr no_end ↦ rw (other, other, no_end) (written value parts.1)
      ]
    ]

pub string-ends : (bytes : Text) → IsString (39 ∷ bytes) → ends false bytes ≡ true
string-ends bytes string =
    let is : bytes ≡ doubled string.0 ++ codes "'" = let whole : 39 ∷ bytes ≡ 39 ∷ (doubled string.0 ++ codes "'") = string.2 in cc in
    rw is (written string.0 string.1)

-- ---- these bytes and the scan

no-lower : (after_quote : Bool) (closed at : ℕ) (bytes : Text) → closed ≤ at → closed ≤ string_end after_quote closed at bytes
no-lower after_quote closed at [] below = omega arith
no-lower false closed at (b ∷ bytes) below =
    elim (cases_Bool (b == 39)) [
      | inl quote ↦ rw quote (let rest = no-lower true (at + 1) (at + 1) bytes (omega arith) in omega (arith, rest, below))
      | inr other ↦ elim (cases_Bool (is_line_end b)) [
        | inl line_end ↦ rw (other, line_end) (omega arith)
        | inr no_end ↦ rw (other, no_end) (no-lower false closed (at + 1) bytes (omega (arith, below)))
      ]
    ]
no-lower true closed at (b ∷ bytes) below =
    elim (cases_Bool (b == 39)) [
      | inl quote ↦ rw quote (no-lower false closed (at + 1) bytes (omega (arith, below)))
      | inr other ↦ rw other (omega arith)
    ]

pub string_end-most : (after_quote : Bool) (closed at m : ℕ) (bytes : Text) → closed ≤ at → (after_quote ≡ true → closed ≡ at) → m ≤ length bytes
    → ends after_quote (take m bytes) ≡ true → at + m ≤ string_end after_quote closed at bytes
string_end-most false closed at zero bytes below now within e = absurd (false≢true e)
string_end-most true closed at zero bytes below now within e =
    let lower = no-lower true closed at bytes below in
    let same = now refl in
    omega (arith, lower, same)
string_end-most after_quote closed at (suc m) [] below now within e = absurd (omega (arith, within))
string_end-most false closed at (suc m) (b ∷ bytes) below now within e =
    elim (cases_Bool (b == 39)) [
      | inl quote ↦ rw quote (
          let rest = string_end-most true (at + 1) (at + 1) m bytes (omega arith) (λ _. refl) (omega (arith, within)) (rw quote at e) in
          omega (arith, rest))
      | inr other ↦ elim (cases_Bool (is_line_end b)) [
        | inl line_end ↦ absurd (false≢true (rw (other, line_end) at e))
        | inr no_end ↦ rw (other, no_end) (
            let rest = string_end-most false closed (at + 1) m bytes (omega (arith, below)) (λ no. absurd (false≢true no)) (omega (arith, within)) (rw (other, no_end) at e) in
            omega (arith, rest))
      ]
    ]
string_end-most true closed at (suc m) (b ∷ bytes) below now within e =
    elim (cases_Bool (b == 39)) [
      | inl quote ↦ rw quote (
          let rest = string_end-most false closed (at + 1) m bytes (omega (arith, below)) (λ no. absurd (false≢true no)) (omega (arith, within)) (rw quote at e) in
          omega (arith, rest))
      | inr other ↦ absurd (false≢true (rw other at e))
    ]

-- an end of a string, `len` bytes on
pub record Closed (after_quote : Bool) (bytes : Text) (at end : ℕ) : Type 0 where
  pub len : ℕ
  pub within : len ≤ length bytes
  pub ends_there : ends after_quote (take len bytes) ≡ true
  pub is : end ≡ at + len

closed-quote : (after_quote : Bool) (b : ℕ) (bytes : Text) (at end : ℕ) → (b == 39) ≡ true → Closed (not after_quote) bytes (at + 1) end → Closed after_quote (b ∷ bytes) at end
closed-quote after_quote b bytes at end quote closed = record {
  len = suc closed.len;
  within = omega (arith, closed.within);
  ends_there = rw quote closed.ends_there;
  is = omega (arith, closed.is);
}

closed-other : (b : ℕ) (bytes : Text) (at end : ℕ) → (b == 39) ≡ false → is_line_end b ≡ false → Closed false bytes (at + 1) end → Closed false (b ∷ bytes) at end
closed-other b bytes at end other no_end closed = record {
  len = suc closed.len;
  within = omega (arith, closed.within);
  ends_there = rw (other, no_end) closed.ends_there;
  is = omega (arith, closed.is);
}

closed-here : (b : ℕ) (bytes : Text) (at end : ℕ) → (b == 39) ≡ true → end ≡ at + 1 → Closed false (b ∷ bytes) at end
closed-here b bytes at end quote is = record { len = 1; within = omega arith; ends_there = rw quote refl; is = is }

-- the scan ends at an end of the string, or never met one
pub string_end-is : (after_quote : Bool) (closed at : ℕ) (bytes : Text)
    → (string_end after_quote closed at bytes ≡ closed) ⊎ Closed after_quote bytes at (string_end after_quote closed at bytes)
string_end-is after_quote closed at [] = inl refl
string_end-is false closed at (b ∷ bytes) =
    elim (cases_Bool (b == 39)) [
      | inl quote ↦ rw quote (elim (string_end-is true (at + 1) (at + 1) bytes) [
        | inl same ↦ inr (closed-here b bytes at (string_end true (at + 1) (at + 1) bytes) quote same)
        | inr more ↦ inr (closed-quote false b bytes at (string_end true (at + 1) (at + 1) bytes) quote more)
      ])
      | inr other ↦ elim (cases_Bool (is_line_end b)) [
        | inl line_end ↦ rw (other, line_end) (inl refl)
        | inr no_end ↦ rw (other, no_end) (elim (string_end-is false closed (at + 1) bytes) [
          | inl same ↦ inl same
          | inr more ↦ inr (closed-other b bytes at (string_end false closed (at + 1) bytes) other no_end more)
        ])
      ]
    ]
string_end-is true closed at (b ∷ bytes) =
    elim (cases_Bool (b == 39)) [
      | inl quote ↦ rw quote (elim (string_end-is false closed (at + 1) bytes) [
        | inl same ↦ inl same
        | inr more ↦ inr (closed-quote true b bytes at (string_end false closed (at + 1) bytes) quote more)
      ])
      | inr other ↦ rw other (inl refl)
    ]

-- ---- the piece

string-form : (inside : Bool) (bytes : Text) (other : Option TokenKind) → IsForm inside other (39 ∷ bytes) → ends false bytes ≡ true
string-form inside bytes other form = string-ends bytes (form-of inside other (Some kind.Text) (39 ∷ bytes) form refl)

string-most : (inside : Bool) (bytes : Text) (more : ℕ) (other : Option TokenKind) → more ≤ length (39 ∷ bytes) → 0 < more → IsForm inside other (take more (39 ∷ bytes))
    → more ≤ string_end false 0 1 bytes
string-most inside bytes zero other within some form = absurd (omega (arith, some))
string-most inside bytes (suc m) other within some form =
    let most = string_end-most false 0 1 m bytes (omega arith) (λ no. absurd (false≢true no)) (omega (arith, within)) (string-form inside (take m bytes) other form) in
    omega (arith, most)

string-piece : (inside : Bool) (bytes : Text) (end : ℕ) → string_end false 0 1 bytes ≡ end → end ≢ 0 → IsPiece inside (39 ∷ bytes) (Some kind.Text) end
string-piece inside bytes end is some =
    elim (string_end-is false 0 1 bytes) [
      | inl nothing ↦ absurd (some (sym is ∙ nothing))
      | inr closed ↦
          let e : end ≡ suc closed.len = omega (arith, is, closed.is) in
          let within = closed.within in
          record {
            within = omega (arith, e, within);
            form = rw e (ends-string (take closed.len bytes) closed.ends_there);
            longest = λ more other less within form. let most = string-most inside bytes more other within (omega (arith, less)) form in absurd (omega (arith, most, less, is));
            no_symbol = λ opens. absurd (false≢true (sym (opens-plain inside 39 bytes opens).no_quote));
            no_larger = fits-some kind.Text tt;
          }
    ]

found-string : (inside : Bool) (bytes : Text) (piece : Piece) → string (39 ∷ bytes) ≡ Some piece → IsPiece inside (39 ∷ bytes) piece.token piece.len
unfolding string
found-string inside bytes piece found =
    let end = string_end false 0 1 bytes in
    elim (cases_Bool (end == 0)) [
      | inl nothing ↦ let is : None ≡ Some piece = rw nothing at found in cc
      | inr some ↦
          let is : Some (piece_of (Some kind.Text) end) ≡ Some piece = rw some at found in
          let same : piece_of (Some kind.Text) end ≡ piece = cc in
          let no_zero : end ≢ 0 = λ zero. false≢true (sym some ∙ eq-eqb end 0 zero) in
          subst (λ (p : Piece). IsPiece inside (39 ∷ bytes) p.token p.len) same (string-piece inside bytes end refl no_zero)
    ]

missed-string : (inside : Bool) (bytes : Text) (token : Option TokenKind) (len : ℕ) → string (39 ∷ bytes) ≡ None → IsPiece inside (39 ∷ bytes) token len → ⊥
unfolding string
missed-string inside bytes token len none piece =
    let end = string_end false 0 1 bytes in
    let advances = piece-advances inside (39 ∷ bytes) token len piece in
    let most = string-most inside bytes len token piece.within advances piece.form in
    elim (cases_Bool (end == 0)) [
      | inl nothing ↦ absurd (omega (arith, most, advances, eqb-true end 0 nothing))
      | inr some ↦ let is : Some (piece_of (Some kind.Text) end) ≡ None = rw some at none in cc
    ]

pub found-quote : (inside : Bool) (b : ℕ) (bytes : Text) (piece : Piece) → b ≡ 39 → string (b ∷ bytes) ≡ Some piece → IsPiece inside (b ∷ bytes) piece.token piece.len
found-quote inside b bytes piece quote =
    subst (λ (c : ℕ). string (c ∷ bytes) ≡ Some piece → IsPiece inside (c ∷ bytes) piece.token piece.len) (sym quote) (found-string inside bytes piece)

pub missed-quote : (inside : Bool) (b : ℕ) (bytes : Text) (token : Option TokenKind) (len : ℕ) → b ≡ 39 → string (b ∷ bytes) ≡ None → IsPiece inside (b ∷ bytes) token len → ⊥
missed-quote inside b bytes token len quote =
    subst (λ (c : ℕ). string (c ∷ bytes) ≡ None → IsPiece inside (c ∷ bytes) token len → ⊥) (sym quote) (missed-string inside bytes token len)
