-- What a longer list contains.
use Rattle.std.specs.Prelude.{◌≡◌, ℕ, ◌<◌, List, ◌∷◌, ◌++◌, length, slice_index_or, ◌⊎◌}
use Rattle.std.specs.List.{Contains}
use Rattle.std.proofs.Common.{zero, suc, refl, inl, inr, arith}
use Rattle.std.proofs.lemmas.List.Elements.{Contains-append_left, Contains-append_right}

pub contains_first : (x : ℕ) (xs : List ℕ) → Contains (x ∷ xs) x
contains_first x xs = (0, omega arith, refl)

pub contains_later : (y x : ℕ) (xs : List ℕ) → Contains xs x → Contains (y ∷ xs) x
contains_later y x xs at = (suc at.0, omega (arith, at.1), at.2)

pub contains_cases : (y x : ℕ) (xs : List ℕ) (k : ℕ) → k < length (y ∷ xs) → slice_index_or (y ∷ xs) k x ≡ x → (y ≡ x) ⊎ Contains xs x
contains_cases y x xs zero inside is = inl is
contains_cases y x xs (suc k) inside is = inr (k, omega (arith, inside), is)

pub contains_left : (x : ℕ) (xs ys : List ℕ) (y : ℕ) → Contains xs y → Contains (x ∷ xs ++ ys) y
contains_left x xs ys y at = contains_later x y (xs ++ ys) (Contains-append_left xs ys y at)

pub contains_right : (x : ℕ) (xs ys : List ℕ) (y : ℕ) → Contains ys y → Contains (x ∷ xs ++ ys) y
contains_right x xs ys y at = contains_later x y (xs ++ ys) (Contains-append_right xs ys y at)
