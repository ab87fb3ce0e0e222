-- The number of steps that a word asks for.
use Rattle.std.proofs.Common.{◌≡◌, ℕ, ◌^◌, ◌≤◌, ◌<◌, true, cond, List, [], ◌∷◌, length, Some, None, Result, Ok, Err, sym, ap, subst, ◌∙◌, arith, rules}
use Rattle.std.specs.Char.{is_ascii_digit}
use Rattle.std.specs.List.{list_all}
use Rattle.std.specs.Result.{OkIff}
use Rattle.std.specs.Str.Parse.{ParsesUnsigned}
use Rattle.std.proofs.lemmas.Bool.Decides.{nat_tests}
use Rattle.std.proofs.lemmas.Str.Parse.{IsNumeralModel, numerals_by_fold, parse_digits}
use Rattle.syntox.specs.Command.{number_after, steps_of, within_steps}

numeral : IsNumeralModel (λ ds. list_all is_ascii_digit ds ≡ true) (number_after 0)
numeral = numerals_by_fold _ (search rules) number_after (search rules)

of_digits : (bs : List ℕ) → list_all is_ascii_digit bs ≡ true → steps_of bs ≡ within_steps (number_after 0 bs)
of_digits bs digits = ap (λ b. cond b (within_steps (number_after 0 bs)) None) digits

within : (n : ℕ) → 0 < n → n ≤ 1000000000 → within_steps n ≡ Some n
within n low high = grind (arith, nat_tests)

below : (n : ℕ) → n ≤ 0 → within_steps n ≡ None
below n low = grind (arith, nat_tests)

above : (n : ℕ) → 1000000000 < n → within_steps n ≡ None
above n high = grind (arith, nat_tests)

module _ {E : Type 0} (bs : List ℕ) (r : Result ℕ E) (parses : ParsesUnsigned 32 10 bs r) (digits : list_all is_ascii_digit bs ≡ true) where
  value : (n : ℕ) → r ≡ Ok n → number_after 0 bs ≡ n
  value n e = sym (subst (λ x. OkIff x ((0 < length bs) × (number_after 0 bs < 2 ^ 32)) (number_after 0 bs)) e (parse_digits numeral 32 bs r parses digits)).1

  pub taken : (n : ℕ) → r ≡ Ok n → 0 < n → n ≤ 1000000000 → Some n ≡ steps_of bs
  taken n e low high = sym (of_digits bs digits ∙ ap within_steps (value n e) ∙ within n low high)

  pub too_low : (n : ℕ) → r ≡ Ok n → n ≤ 0 → None ≡ steps_of bs
  too_low n e low = sym (of_digits bs digits ∙ ap within_steps (value n e) ∙ below n low)

  pub too_high : (n : ℕ) → r ≡ Ok n → 1000000000 < n → None ≡ steps_of bs
  too_high n e high = sym (of_digits bs digits ∙ ap within_steps (value n e) ∙ above n high)

-- a word of digits that is no number of 32 bits is empty or too large
none_of : (bs : List ℕ) → ¬ ((0 < length bs) × (number_after 0 bs < 2 ^ 32)) → within_steps (number_after 0 bs) ≡ None
none_of [] neither = below 0 (omega arith)
none_of (b ∷ bs) neither =
    let large : ¬ (number_after 0 (b ∷ bs) < 2 ^ 32) = λ less. neither (omega arith, less) in
    above (number_after 0 (b ∷ bs)) (omega (arith, large))

pub no_number : {E : Type 0} (bs : List ℕ) (r : Result ℕ E) → ParsesUnsigned 32 10 bs r → list_all is_ascii_digit bs ≡ true → (e : E) → r ≡ Err e → None ≡ steps_of bs
no_number bs r parses digits e is =
    sym (of_digits bs digits ∙ none_of bs (subst (λ x. OkIff x ((0 < length bs) × (number_after 0 bs < 2 ^ 32)) (number_after 0 bs)) is (parse_digits numeral 32 bs r parses digits)))
