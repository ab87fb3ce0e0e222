-- On lists read by `slice_get`: parts, ends and writes; and the sum before an element.
use Rattle.std.proofs.Common.{◌≡◌, ℕ, zero, suc, ◌+◌, ◌<◌, ◌≤◌, Bool, true, false, cond, List, [], ◌∷◌, ◌++◌, length, take, refl, sym, ap, ◌∙◌, subst, arith, Option, Some, inl, inr, ◌⊎◌}
use Rattle.std.specs.List.{slice_get, sum_by}
use Rattle.std.proofs.lemmas.Option.{none-some, slice_get_within, get_or_from_slice_get}
use Rattle.std.proofs.lemmas.List.Sums.{sum_by_more_le}
use Rattle.std.proofs.lemmas.List.{take-take}

pub slice_get-take : {A : Type 0} (xs : List A) (n k : ℕ) → k < n → slice_get (take n xs) k ≡ slice_get xs k
slice_get-take xs zero k h = absurd (omega arith)
slice_get-take [] (suc n) k h = refl
slice_get-take (x ∷ xs) (suc n) zero h = refl
slice_get-take (x ∷ xs) (suc n) (suc k) h = slice_get-take xs n k (omega arith)

-- the sums of a prefix and of its last element
pub sum_before : {A : Type 0} (f : A → ℕ) (xs : List A) (i : ℕ) (x : A) → slice_get xs i ≡ Some x → sum_by f (take i xs) + f x ≤ sum_by f xs
sum_before f xs i x e = omega (arith, sum_by_more_le f xs i x (slice_get_within xs i x e), ap f (get_or_from_slice_get xs i x x e))

-- what stands before an element, and that element, stands before each later one
pub sum_between : {A : Type 0} (f : A → ℕ) (xs : List A) (j i : ℕ) (x : A) → j < i → slice_get xs j ≡ Some x → sum_by f (take j xs) + f x ≤ sum_by f (take i xs)
sum_between f xs j i x h e =
    subst (λ (ys : List _). sum_by f ys + f x ≤ sum_by f (take i xs)) (take-take j i xs (omega arith)) (sum_before f (take i xs) j x (slice_get-take xs i j h ∙ e))

-- there is an element at each place of a list
pub some_at : {A : Type 0} (xs : List A) (k : ℕ) → k < length xs → (x : A) × (slice_get xs k ≡ Some x)
some_at [] k h = absurd (omega arith)
some_at (x ∷ xs) zero h = (x, refl)
some_at (x ∷ xs) (suc k) h = some_at xs k (omega arith)

pub slice_get-front : {A : Type 0} (xs ys : List A) (k : ℕ) → k < length xs → slice_get (xs ++ ys) k ≡ slice_get xs k
slice_get-front [] ys k h = absurd (omega arith)
slice_get-front (x ∷ xs) ys zero h = refl
slice_get-front (x ∷ xs) ys (suc k) h = slice_get-front xs ys k (omega arith)

pub slice_get-last : {A : Type 0} (xs : List A) (y : A) → slice_get (xs ++ y ∷ []) (length xs) ≡ Some y
slice_get-last [] y = refl
slice_get-last (x ∷ xs) y = slice_get-last xs y

pub same_some : {A : Type 0} (x y : A) → ◌≡◌ {A = Option A} (Some x) (Some y) → x ≡ y
same_some x y e = cc

-- an element of a list with one more at its end
pub slice_get-snoc : {A : Type 0} (xs : List A) (y : A) (k : ℕ) (z : A) → slice_get (xs ++ y ∷ []) k ≡ Some z → ((k < length xs) × (slice_get xs k ≡ Some z)) ⊎ ((k ≡ length xs) × (z ≡ y))
slice_get-snoc [] y zero z e = inr (refl, sym (same_some y z e))
slice_get-snoc [] y (suc k) z e = absurd (none-some z e)
slice_get-snoc (x ∷ xs) y zero z e = inl (omega arith, e)
slice_get-snoc (x ∷ xs) y (suc k) z e =
    elim (slice_get-snoc xs y k z e) [
      | inl w ↦ inl (let h = w.0 in omega arith, w.1)
      | inr w ↦ inr (ap suc w.0, w.1)
    ]

-- what holds of both holds of either
pub one_of : {A : Type 0} (P : A → Type 0) (b : Bool) (x y z : A) → z ≡ cond b x y → P x → P y → P z
one_of P true x y z e h k = subst P (sym e) h
one_of P false x y z e h k = subst P (sym e) k
