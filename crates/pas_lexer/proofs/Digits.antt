-- Digits, and the longest front of a list that passes a test.
use Rattle.std.proofs.lemmas.Bool.{and_parts}
use Rattle.std.proofs.Common.{zero, length, ◌≡◌, ℕ, suc, ◌+◌, ◌-◌, ◌*◌, ◌≤◌, Bool, true, false, cond, List, [], ◌∷◌, take, refl, arith}
use Rattle.std.specs.List.{list_all, prefix_len}
use Rattle.std.specs.Prelude.{IsTrue}
use Rattle.pas_lexer.specs.Lexeme.{Text, decimal_after}

-- a number only grows by more digits
pub decimal_after-grows : (value : ℕ) (digits : Text) → value ≤ decimal_after value digits
decimal_after-grows value [] = omega arith
decimal_after-grows value (digit ∷ digits) = omega (arith, decimal_after-grows (value * 10 + (digit - 48)) digits)

-- the longest front that passes passes
pub list_all-prefix : {X : Type 0} (p : X → Bool) (xs : List X) → IsTrue (list_all p (take (prefix_len p xs) xs))
list_all-prefix p [] = refl
list_all-prefix p (x ∷ xs) =
    let rest = list_all-prefix p xs in
    let e : 1 + prefix_len p xs ≡ suc (prefix_len p xs) = omega arith in
    (elim (p x) as (λ b. p x ≡ b → IsTrue (list_all p (take (cond b (1 + prefix_len p xs) 0) (x ∷ xs)))) [
      | true ↦ λ passes. rw (e, passes) rest
      | false ↦ λ _. refl
    ]) refl

-- all that pass at the front are in the longest front that passes
pub prefix-most : {X : Type 0} (p : X → Bool) (xs : List X) (m : ℕ) → m ≤ length xs → list_all p (take m xs) ≡ true → m ≤ prefix_len p xs
prefix-most p [] m within passes = omega (arith, within)
prefix-most p (x ∷ xs) zero within passes = omega arith
prefix-most p (x ∷ xs) (suc m) within passes =
    let parts = and_parts (p x) (list_all p (take m xs)) passes in
    let rest = prefix-most p xs m (omega (arith, within)) parts.1 in
    rw parts.0 (omega (arith, rest))

pub prefix-cons : {X : Type 0} (p : X → Bool) (x : X) (xs : List X) → p x ≡ true → prefix_len p (x ∷ xs) ≡ suc (prefix_len p xs)
prefix-cons p x xs passes = rw passes (omega arith)
