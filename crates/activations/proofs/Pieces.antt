-- The elements of a list that is made of one list for each element of another, and those of a list that pass a test.
use Rattle.std.proofs.Common.{◌≡◌, ℕ, zero, suc, ◌+◌, Bool, true, false, List, [], ◌∷◌, ◌++◌, take, length, Some, slice_get, refl, sym, ap, subst, ◌∙◌, inl, inr, arith, length-append, cond}
use Rattle.std.specs.List.{filter, flat_map}
use Rattle.activations.proofs.Blocks.{append_at_left, append_at_right, in_either}

some_same : {A : Type 0} (x y : A) → Some x ≡ Some y → x ≡ y
some_same x y h = grind arith

-- ---- one list for each element

module _ {A B : Type 0} (f : A → List B) where
  -- an element of the lists, by the element that it comes from
  pub record InPiece (xs : List A) (n : ℕ) (y : B) : Type 0 where
    pub place : ℕ
    pub one : A
    pub rank : ℕ
    pub there : slice_get xs place ≡ Some one
    pub number : n ≡ length (flat_map f (take place xs)) + rank
    pub is : slice_get (f one) rank ≡ Some y

  behind : (x : A) (xs : List A) (n m : ℕ) (y : B) → n ≡ length (f x) + m → InPiece xs m y → InPiece (x ∷ xs) n y
  behind x xs n m y is p = record {
    place = suc p.place;
    one = p.one;
    rank = p.rank;
    there = p.there;
    number = omega (arith, is, p.number, length-append (f x) (flat_map f (take p.place xs)));
    is = p.is;
  }

  pub in_piece : (xs : List A) (n : ℕ) (y : B) → slice_get (flat_map f xs) n ≡ Some y → InPiece xs n y
  in_piece [] n y h = absurd (grind arith)
  in_piece (x ∷ xs) n y h = elim (in_either (f x) (flat_map f xs) n y h) [
    | inl at ↦ record { place = 0; one = x; rank = n; there = refl; number = omega arith; is = at }
    | inr at ↦ behind x xs n at.place y at.number (in_piece xs at.place y at.is)
  ]

  pub at_piece : (xs : List A) (m : ℕ) (x : A) (j : ℕ) (y : B) → slice_get xs m ≡ Some x → slice_get (f x) j ≡ Some y → slice_get (flat_map f xs) (length (flat_map f (take m xs)) + j) ≡ Some y
  at_piece [] m x j y there at = absurd (grind arith)
  at_piece (z ∷ xs) zero x j y there at =
      let here : slice_get (f z) j ≡ Some y = subst (λ (w : A). slice_get (f w) j ≡ Some y) (sym (some_same z x there)) at in
      let is : j ≡ 0 + j = omega arith in
      subst (λ (n : ℕ). slice_get (f z ++ flat_map f xs) n ≡ Some y) is (append_at_left (f z) (flat_map f xs) j y here)
  at_piece (z ∷ xs) (suc m) x j y there at =
      let is : length (f z) + (length (flat_map f (take m xs)) + j) ≡ length (f z ++ flat_map f (take m xs)) + j = omega (arith, length-append (f z) (flat_map f (take m xs))) in
      subst (λ (n : ℕ). slice_get (f z ++ flat_map f xs) n ≡ Some y) is (append_at_right (f z) (flat_map f xs) (length (flat_map f (take m xs)) + j) y (at_piece xs m x j y there at))

-- ---- those that pass a test

module _ {A : Type 0} (test : A → Bool) where
  pub record IsPassing (xs : List A) (y : A) : Type 0 where
    pub place : ℕ
    pub there : slice_get xs place ≡ Some y
    pub passes : test y ≡ true

  one_before : (x : A) (xs : List A) (y : A) → IsPassing xs y → IsPassing (x ∷ xs) y
  one_before x xs y p = record { place = suc p.place; there = p.there; passes = p.passes }

  passing_by : (x : A) (xs : List A) → ((k : ℕ) (y : A) → slice_get (filter test xs) k ≡ Some y → IsPassing xs y) → (b : Bool) → test x ≡ b
      → (k : ℕ) (y : A) → slice_get (cond b (x ∷ filter test xs) (filter test xs)) k ≡ Some y → IsPassing (x ∷ xs) y
  passing_by x xs rest true passes zero y h = record { place = 0; there = h; passes = ap test (sym (some_same x y h)) ∙ passes }
  passing_by x xs rest true passes (suc k) y h = one_before x xs y (rest k y h)
  passing_by x xs rest false fails k y h = one_before x xs y (rest k y h)

  pub passing : (xs : List A) (k : ℕ) (y : A) → slice_get (filter test xs) k ≡ Some y → IsPassing xs y
  passing [] k y h = absurd (grind arith)
  passing (x ∷ xs) k y h = passing_by x xs (passing xs) (test x) refl k y h

  -- one stands behind those before it
  stands_by : (x : A) (xs : List A) (i : ℕ) (y : A) → (b : Bool) → test x ≡ b → slice_get (filter test xs) (length (filter test (take i xs))) ≡ Some y
      → slice_get (cond b (x ∷ filter test xs) (filter test xs)) (length (cond b (x ∷ filter test (take i xs)) (filter test (take i xs)))) ≡ Some y
  stands_by x xs i y true passes h = h
  stands_by x xs i y false fails h = h

  first_by : (x : A) (xs : List A) (b : Bool) → b ≡ true → slice_get (cond b (x ∷ filter test xs) (filter test xs)) 0 ≡ Some x
  first_by x xs true passes = refl
  first_by x xs false passes = absurd (grind arith)

  pub stands_at : (xs : List A) (i : ℕ) (y : A) → slice_get xs i ≡ Some y → test y ≡ true → slice_get (filter test xs) (length (filter test (take i xs))) ≡ Some y
  stands_at [] i y h passes = absurd (grind arith)
  stands_at (x ∷ xs) zero y h passes =
      let is = some_same x y h in
      first_by x xs (test x) (ap test is ∙ passes) ∙ ap (λ (z : A). Some z) is
  stands_at (x ∷ xs) (suc i) y h passes = stands_by x xs i y (test x) refl (stands_at xs i y h passes)

  -- where each stands once, so does each that passes
  abbrev pub Once : List A → Type 0
  Once xs = (i j : ℕ) (y : A) → slice_get xs i ≡ Some y → slice_get xs j ≡ Some y → i ≡ j

  once_tail : (x : A) (xs : List A) → Once (x ∷ xs) → Once xs
  once_tail x xs once i j y at_i at_j = let same = once (suc i) (suc j) y at_i at_j in omega (arith, same)

  not_later : (x : A) (xs : List A) (y : A) → Once (x ∷ xs) → x ≡ y → (k : ℕ) → slice_get (filter test xs) k ≡ Some y → ⊥
  not_later x xs y once is k h =
      let p = passing xs k y h in
      let same = once 0 (suc p.place) y (ap (λ (z : A). Some z) is) p.there in
      omega (arith, same)

  filter_once_by : (x : A) (xs : List A) → Once (x ∷ xs) → Once (filter test xs) → (b : Bool) → Once (cond b (x ∷ filter test xs) (filter test xs))
  filter_once_by x xs once rest true zero zero y at_i at_j = refl
  filter_once_by x xs once rest true zero (suc j) y at_i at_j = absurd (not_later x xs y once (some_same x y at_i) j at_j)
  filter_once_by x xs once rest true (suc i) zero y at_i at_j = absurd (not_later x xs y once (some_same x y at_j) i at_i)
  filter_once_by x xs once rest true (suc i) (suc j) y at_i at_j = ap suc (rest i j y at_i at_j)
  filter_once_by x xs once rest false i j y at_i at_j = rest i j y at_i at_j

  pub filter_once : (xs : List A) → Once xs → Once (filter test xs)
  filter_once [] once i j y at_i at_j = absurd (grind arith)
  filter_once (x ∷ xs) once i j y at_i at_j = filter_once_by x xs once (filter_once xs (once_tail x xs once)) (test x) i j y at_i at_j
