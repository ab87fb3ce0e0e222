-- A word symbol can be looked up among those with the same first letter.
use Rattle.std.proofs.Common.{◌≤◌, ◌<◌, suc, None, length, arith, rules, ◌≡◌, ℕ, true, cond, List, [], ◌∷◌, Some, refl, ap, sym, ◌∙◌, inl, inr}
use Rattle.std.proofs.lemmas.Bool.{and_parts, cond_both, eqb-true, eq-eqb, false≢true, cases_Bool}
use Rattle.std.specs.Char.{to_ascii_lowercase}
use Rattle.std.specs.List.{filter}
use Rattle.std.specs.Prelude.{nat_eq, slice_index}
use Rattle.std.specs.Str.{bytes_eq, str_to_ascii_lowercase}
use Rattle.pas_lexer.specs.Lexeme.{Text, lookup, words, word_of}
use Rattle.pas_lexer.specs.Scan.{words_of}
use Rattle.pas_lexer.proofs.Forms.{EachRow, bytes-same}

abbrev with_letter : {A : Type 0} → ℕ → List (Text × A) → List (Text × A)
with_letter letter = filter (λ row. nat_eq (slice_index row.0 0) letter)

same-first : (a b : Text) → bytes_eq a b ≡ true → slice_index a 0 ≡ slice_index b 0
same-first [] [] same = refl
same-first [] (y ∷ b) same = cc
same-first (x ∷ a) [] same = cc
same-first (x ∷ a) (y ∷ b) same = eqb-true x y (and_parts (nat_eq x y) (bytes_eq a b) same).0

-- bytes are found in no row with another first letter
lookup-with_letter : {A : Type 0} (rows : List (Text × A)) (name : Text) → lookup (with_letter (slice_index name 0) rows) name ≡ lookup rows name
lookup-with_letter [] name = refl
lookup-with_letter (row ∷ rows) name =
    let others = lookup-with_letter rows name in
    let letter = slice_index name 0 in
    cond_both (nat_eq (slice_index row.0 0) letter) (row ∷ with_letter letter rows) (with_letter letter rows) (λ kept. lookup kept name ≡ lookup (row ∷ rows) name)
    (λ is. ap (λ rest. cond (bytes_eq row.0 name) (Some row.1) rest) others)
    (λ is_not. elim (cases_Bool (bytes_eq row.0 name)) [
      | inl alike ↦ absurd (false≢true (sym is_not ∙ eq-eqb (slice_index row.0 0) letter (same-first row.0 name alike)))
      | inr unlike ↦ rw unlike others
    ])

pub lookup-words_of : (name : Text) → lookup (words_of (to_ascii_lowercase (slice_index name 0))) (str_to_ascii_lowercase name) ≡ word_of name
unfolding word_of words_of
lookup-words_of [] = lookup-with_letter words []
lookup-words_of (b ∷ name) = lookup-with_letter words (str_to_ascii_lowercase (b ∷ name))

-- a name that is shorter than each spelling is found nowhere
lookup-short : {A : Type 0} (rows : List (Text × A)) (name : Text) → EachRow (λ bytes _. 2 ≤ length bytes) rows → length name < 2 → lookup rows name ≡ None
lookup-short [] name each short = refl
lookup-short (row ∷ rows) name each short =
    elim (cases_Bool (bytes_eq row.0 name)) [
      | inl alike ↦ let same = ap length (bytes-same row.0 name alike) in absurd (omega (arith, same, short, each.0))
      | inr unlike ↦ rw unlike (lookup-short rows name each.1 short)
    ]

length-lowercase : (name : Text) → length (str_to_ascii_lowercase name) ≡ length name
length-lowercase [] = refl
length-lowercase (b ∷ name) = ap suc (length-lowercase name)

pub word_of-short : (name : Text) → length name < 2 → word_of name ≡ None
unfolding word_of
word_of-short name short = lookup-short words (str_to_ascii_lowercase name) (search rules) (omega (arith, short, length-lowercase name))
