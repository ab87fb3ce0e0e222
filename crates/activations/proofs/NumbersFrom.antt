-- The numbers of those that pass a test: each is of one that passes, none is left out, and they rise.
use Rattle.std.proofs.Common.{◌≡◌, ℕ, zero, suc, ◌+◌, Bool, true, false, List, [], ◌∷◌, Some, slice_get, refl, ap, ◌∙◌, arith}
use Rattle.std.specs.Prelude.{if◌then◌else◌}
use Rattle.control_points.specs.Chart.{numbers_from}

-- one that passes, with its number
pub record Passes {A : Type 0} (first : ℕ) (test : A → Bool) (xs : List A) (n : ℕ) : Type 0 where
  pub place : ℕ
  pub one : A
  pub number : n ≡ first + place
  pub is : slice_get xs place ≡ Some one
  pub passes : test one ≡ true

-- the element at a place of a list with one more before it
data Either {A : Type 0} (x : A) (xs : List A) (y : A) : ℕ → Type 0 where
  here : x ≡ y → Either x xs y zero
  there : {k : ℕ} → slice_get xs k ≡ Some y → Either x xs y (suc k)

some_is : {A : Type 0} (x y : A) → Some x ≡ Some y → x ≡ y
some_is x y h = grind arith

either : {A : Type 0} (x : A) (xs : List A) (y : A) (k : ℕ) → slice_get (x ∷ xs) k ≡ Some y → Either x xs y k
either x xs y zero h = here (some_is x y h)
either x xs y (suc k) h = there h

module _ {A : Type 0} (test : A → Bool) where
  later : (n : ℕ) (x : A) (xs : List A) (m : ℕ) → Passes (suc n) test xs m → Passes n test (x ∷ xs) m
  later n x xs m p = record { place = suc p.place; one = p.one; number = omega (arith, p.number); is = p.is; passes = p.passes }

  -- ---- each number is of one that passes

  abbrev pub AllPass : ℕ → List A → Type 0
  AllPass n xs = (k m : ℕ) → slice_get (numbers_from n test xs) k ≡ Some m → Passes n test xs m

  pass_at : (n : ℕ) (x : A) (xs : List A) → AllPass (suc n) xs → test x ≡ true → (m k : ℕ) → Either n (numbers_from (suc n) test xs) m k → Passes n test (x ∷ xs) m
  pass_at n x xs rest passes m zero (here is) = record { place = 0; one = x; number = omega (arith, is); is = refl; passes = passes }
  pass_at n x xs rest passes m (suc k) (there h) = later n x xs m (rest k m h)

  pass_by : (n : ℕ) (x : A) (xs : List A) → AllPass (suc n) xs → (b : Bool) → test x ≡ b → (k m : ℕ)
      → slice_get (if b then n ∷ numbers_from (suc n) test xs else numbers_from (suc n) test xs) k ≡ Some m → Passes n test (x ∷ xs) m
  pass_by n x xs rest true passes k m h = pass_at n x xs rest passes m k (either n (numbers_from (suc n) test xs) m k h)
  pass_by n x xs rest false fails k m h = later n x xs m (rest k m h)

  pub all_pass : (n : ℕ) (xs : List A) → AllPass n xs
  all_pass n [] k m h = absurd (grind arith)
  all_pass n (x ∷ xs) k m h = pass_by n x xs (all_pass (suc n) xs) (test x) refl k m h

  -- ---- none is left out

  abbrev pub NoneMissed : ℕ → List A → Type 0
  NoneMissed n xs = (i : ℕ) (y : A) → slice_get xs i ≡ Some y → test y ≡ true → (k : ℕ) × (slice_get (numbers_from n test xs) k ≡ Some (n + i))

  missed_by : (n : ℕ) (x : A) (xs : List A) → NoneMissed (suc n) xs → (b : Bool) → test x ≡ b → (i : ℕ) (y : A) → Either x xs y i → test y ≡ true
      → (k : ℕ) × (slice_get (if b then n ∷ numbers_from (suc n) test xs else numbers_from (suc n) test xs) k ≡ Some (n + i))
  missed_by n x xs rest true passes zero y (here is) h = (0, grind arith)
  missed_by n x xs rest true passes (suc i) y (there at) h = let found = rest i y at h in (suc found.0, found.1 ∙ ap (λ (m : ℕ). Some m) (omega arith))
  missed_by n x xs rest false fails zero y (here is) h = absurd (grind (arith, is, fails, h))
  missed_by n x xs rest false fails (suc i) y (there at) h = let found = rest i y at h in (found.0, found.1 ∙ ap (λ (m : ℕ). Some m) (omega arith))

  pub none_missed : (n : ℕ) (xs : List A) → NoneMissed n xs
  none_missed n [] i y at h = absurd (grind arith)
  none_missed n (x ∷ xs) i y at h = missed_by n x xs (none_missed (suc n) xs) (test x) refl i y (either x xs y i at) h

  -- ---- no number stands twice

  abbrev pub Once : List ℕ → Type 0
  Once ms = (i j m : ℕ) → slice_get ms i ≡ Some m → slice_get ms j ≡ Some m → i ≡ j

  once_at : (n : ℕ) (xs : List A) → Once (numbers_from (suc n) test xs) → (i j m : ℕ) → Either n (numbers_from (suc n) test xs) m i → Either n (numbers_from (suc n) test xs) m j → i ≡ j
  once_at n xs rest zero zero m (here is) (here same) = refl
  once_at n xs rest zero (suc j) m (here is) (there h) = let p = all_pass (suc n) xs j m h in absurd (omega (arith, p.number, is))
  once_at n xs rest (suc i) zero m (there h) (here is) = let p = all_pass (suc n) xs i m h in absurd (omega (arith, p.number, is))
  once_at n xs rest (suc i) (suc j) m (there g) (there h) = ap suc (rest i j m g h)

  once_by : (n : ℕ) (xs : List A) → Once (numbers_from (suc n) test xs) → (b : Bool) → Once (if b then n ∷ numbers_from (suc n) test xs else numbers_from (suc n) test xs)
  once_by n xs rest true i j m g h = once_at n xs rest i j m (either n (numbers_from (suc n) test xs) m i g) (either n (numbers_from (suc n) test xs) m j h)
  once_by n xs rest false i j m g h = rest i j m g h

  pub numbers_once : (n : ℕ) (xs : List A) → Once (numbers_from n test xs)
  numbers_once n [] i j m g h = absurd (grind arith)
  numbers_once n (x ∷ xs) i j m g h = once_by n xs (numbers_once (suc n) xs) (test x) i j m g h
