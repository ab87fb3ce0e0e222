-- Lists by the numbers of their elements: what holds of each, how many pass a test, and where the only one stands.
use Rattle.std.proofs.Common.{◌≡◌, inl, inr, ℕ, zero, suc, ◌+◌, ◌≤◌, Bool, true, not, cond, List, [], ◌∷◌, ◌++◌, length, refl, ap, subst, ◌∙◌, Some, None, nat_lt, arith}
use Rattle.std.proofs.lemmas.Bool.{cases_Bool, cond-true, lt-ltb}
use Rattle.std.proofs.lemmas.Option.{none-some, slice_get_within}
use Rattle.std.specs.List.{position, position_or_len, slice_get}
use Rattle.control_points.proofs.Blocks.{get_front, get_past}
use Rattle.control_points.proofs.Listed.{same_some}

-- what holds of each element with its number, of which the first is start
pub record EachFrom {A : Type 0} (P : ℕ → A → Type 0) (start : ℕ) (xs : List A) : Type 0 where
  pub each : (k : ℕ) (x : A) → slice_get xs k ≡ Some x → P (start + k) x

module _ {A : Type 0} (P : ℕ → A → Type 0) where
  pub each_front : (n : ℕ) (xs ys : List A) → EachFrom P n (xs ++ ys) → EachFrom P n xs
  each_front n xs ys e = record { each = λ k x h. e.each k x (get_front xs ys k (slice_get_within xs k x h) ∙ h) }

  pub each_past : (n m : ℕ) (xs ys : List A) → m ≡ n + length xs → EachFrom P n (xs ++ ys) → EachFrom P m ys
  each_past n m xs ys is e = record { each = λ k x h. let same : n + (length xs + k) ≡ m + k = omega (arith, is) in subst (λ j. P j x) same (e.each (length xs + k) x (get_past xs ys k ∙ h)) }

  pub each_first : (n : ℕ) (x : A) (xs : List A) → EachFrom P n (x ∷ xs) → P n x
  each_first n x xs e = let same : n + 0 ≡ n = omega arith in subst (λ j. P j x) same (e.each 0 x refl)

  pub each_rest : (n m : ℕ) (x : A) (xs : List A) → m ≡ n + 1 → EachFrom P n (x ∷ xs) → EachFrom P m xs
  each_rest n m x xs is e = each_past n m (x ∷ []) xs is e

-- ---- how many pass a test

abbrev pub bit : Bool → ℕ
bit b = cond b 1 0

abbrev pub times : {A : Type 0} → (A → Bool) → List A → ℕ
times f [] = 0
times f (x ∷ xs) = bit (f x) + times f xs

pub times_both : {A : Type 0} (f : A → Bool) (xs ys : List A) → times f (xs ++ ys) ≡ times f xs + times f ys
times_both f [] ys = omega arith
times_both f (x ∷ xs) ys = omega (arith, times_both f xs ys)

bit_true : (b : Bool) → b ≡ true → bit b ≡ 1
bit_true b h = cond-true b 1 0 h

pub times_found : {A : Type 0} (f : A → Bool) (xs : List A) (k : ℕ) (x : A) → slice_get xs k ≡ Some x → f x ≡ true → 1 ≤ times f xs
times_found f [] k x h p = absurd (none-some x h)
times_found f (y ∷ xs) zero x h p = let one = bit_true (f y) (ap f (same_some h) ∙ p) in omega (arith, one)
times_found f (y ∷ xs) (suc k) x h p = let some = times_found f xs k x h p in omega (arith, some)

-- the only one that passes is the first one
only_place : {A : Type 0} (f : A → Bool) (xs : List A) (k : ℕ) (x : A) → slice_get xs k ≡ Some x → f x ≡ true → times f xs ≤ 1 → position_or_len f xs ≡ k
only_place f [] k x h p few = absurd (none-some x h)
only_place f (y ∷ xs) zero x h p few = ap (λ b. cond (not b) (1 + position_or_len f xs) 0) (ap f (same_some h) ∙ p)
only_place f (y ∷ xs) (suc k) x h p few =
    let some = times_found f xs k x h p in
    elim (cases_Bool (f y)) [
      | inl e ↦ let one = bit_true (f y) e in absurd (omega (arith, one, some, few))
      | inr e ↦
          let less : times f xs ≤ 1 = omega (arith, few) in
          let rest = only_place f xs k x h p less in
          let more : 1 + k ≡ suc k = omega arith in
          ap (λ b. cond (not b) (1 + position_or_len f xs) 0) e ∙ ap (λ n. 1 + n) rest ∙ more
    ]

pub only_position : {A : Type 0} (f : A → Bool) (xs : List A) (k : ℕ) (x : A) → slice_get xs k ≡ Some x → f x ≡ true → times f xs ≤ 1 → position f xs ≡ Some k
only_position f xs k x h p few =
    let place = only_place f xs k x h p few in
    ap (λ n. cond (nat_lt n (length xs)) (Some n) None) place
    ∙ cond-true (nat_lt k (length xs)) (Some k) None (lt-ltb k (length xs) (slice_get_within xs k x h))
