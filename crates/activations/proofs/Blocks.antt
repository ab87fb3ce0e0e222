-- Lists that are made of one list for each number, one after another.
use Rattle.std.proofs.Common.{◌≡◌, ℕ, zero, suc, ◌+◌, ◌<◌, ◌≤◌, List, [], ◌∷◌, ◌++◌, map, length, Some, slice_get, refl, sym, ap, subst, ◌∙◌, inl, inr, arith, length-append}
use Rattle.std.specs.Prelude.{◌⊎◌}
use Rattle.std.specs.List.{flat_map, range_with_len}
use Rattle.std.proofs.lemmas.Bool.{cases_lt}
use Rattle.std.proofs.lemmas.Grind.{flat_map-append}
use Rattle.std.proofs.lemmas.List.Folds.{flat_map-map}
use Rattle.std.proofs.lemmas.List.FromFn.{map-range_with_len_more}

pub append_nil : {A : Type 0} (xs : List A) → xs ++ [] ≡ xs
append_nil [] = refl
append_nil (x ∷ xs) = ap (λ ys. x ∷ ys) (append_nil xs)

-- an element behind so many
pub record IsBehind {A : Type 0} (before : ℕ) (ys : List A) (n : ℕ) (x : A) : Type 0 where
  pub place : ℕ
  pub number : n ≡ before + place
  pub is : slice_get ys place ≡ Some x

-- an element of two lists
pub in_either : {A : Type 0} (xs ys : List A) (n : ℕ) (x : A) → slice_get (xs ++ ys) n ≡ Some x → (slice_get xs n ≡ Some x) ⊎ IsBehind (length xs) ys n x
in_either [] ys n x h = inr (record { place = n; number = omega arith; is = h })
in_either (y ∷ xs) ys zero x h = inl h
in_either (y ∷ xs) ys (suc n) x h = elim (in_either xs ys n x h) [
  | inl at ↦ inl at
  | inr at ↦ inr (record { place = at.place; number = omega (arith, at.number); is = at.is })
]

pub append_at_left : {A : Type 0} (xs ys : List A) (n : ℕ) (x : A) → slice_get xs n ≡ Some x → slice_get (xs ++ ys) n ≡ Some x
append_at_left [] ys n x h = absurd (grind arith)
append_at_left (y ∷ xs) ys zero x h = h
append_at_left (y ∷ xs) ys (suc n) x h = append_at_left xs ys n x h

pub append_at_right : {A : Type 0} (xs ys : List A) (n : ℕ) (x : A) → slice_get ys n ≡ Some x → slice_get (xs ++ ys) (length xs + n) ≡ Some x
append_at_right [] ys n x h = let is : n ≡ 0 + n = omega arith in subst (λ (k : ℕ). slice_get ys k ≡ Some x) is h
append_at_right (y ∷ xs) ys n x h =
    let is : suc (length xs + n) ≡ suc (length xs) + n = omega arith in
    subst (λ (k : ℕ). slice_get (y ∷ xs ++ ys) k ≡ Some x) is (append_at_right xs ys n x h)

module _ {B : Type 0} (f : ℕ → List B) where
  -- those of the first numbers
  abbrev pub blocks : ℕ → List B
  blocks c = flat_map f (range_with_len 0 c)

  pub blocks_more : (c : ℕ) → blocks (c + 1) ≡ blocks c ++ f c
  blocks_more c =
      sym (flat_map-map (λ (ys : List B). ys) f (range_with_len 0 (c + 1)))
      ∙ ap (λ (xs : List (List B)). flat_map (λ (ys : List B). ys) xs) (map-range_with_len_more f 0 c c (omega arith))
      ∙ flat_map-append (λ (ys : List B). ys) (map f (range_with_len 0 c)) (f c ∷ [])
      ∙ ap (λ (xs : List B). xs ++ (f c ++ [])) (flat_map-map (λ (ys : List B). ys) f (range_with_len 0 c))
      ∙ ap (λ (xs : List B). blocks c ++ xs) (append_nil (f c))

  blocks_suc : (c : ℕ) → blocks (suc c) ≡ blocks c ++ f c
  blocks_suc c = let is : suc c ≡ c + 1 = omega arith in ap blocks is ∙ blocks_more c

  pub longer_by_one : (c : ℕ) → length (blocks (c + 1)) ≡ length (blocks c) + length (f c)
  longer_by_one c = ap (λ (xs : List B). length xs) (blocks_more c) ∙ length-append (blocks c) (f c)

  pub blocks_longer : (c k : ℕ) → length (blocks c) ≤ length (blocks (c + k))
  blocks_longer c zero = let is : c ≡ c + 0 = omega arith in subst (λ (n : ℕ). length (blocks c) ≤ length (blocks n)) is (omega arith)
  blocks_longer c (suc k) =
      let is : c + k + 1 ≡ c + suc k = omega arith in
      subst (λ (n : ℕ). length (blocks c) ≤ length (blocks n)) is (omega (arith, blocks_longer c k, longer_by_one (c + k)))

  -- an element, by its number
  pub record InBlock (c n : ℕ) (x : B) : Type 0 where
    pub block : ℕ
    pub place : ℕ
    pub known : block < c
    pub number : n ≡ length (blocks block) + place
    pub is : slice_get (f block) place ≡ Some x

  pub in_block : (c n : ℕ) (x : B) → slice_get (blocks c) n ≡ Some x → InBlock c n x
  in_block zero n x h = absurd (grind arith)
  in_block (suc c) n x h = elim (in_either (blocks c) (f c) n x (subst (λ (xs : List B). slice_get xs n ≡ Some x) (blocks_suc c) h)) [
    | inl at ↦ let found = in_block c n x at in record { block = found.block; place = found.place; known = omega (arith, found.known); number = found.number; is = found.is }
    | inr at ↦ record { block = c; place = at.place; known = omega arith; number = at.number; is = at.is }
  ]

  pub at_block : (c i j : ℕ) (x : B) → i < c → slice_get (f i) j ≡ Some x → slice_get (blocks c) (length (blocks i) + j) ≡ Some x
  at_block zero i j x known h = absurd (omega (arith, known))
  at_block (suc c) i j x known h = elim (cases_lt i c) [
    | inl before ↦ subst (λ (xs : List B). slice_get xs (length (blocks i) + j) ≡ Some x) (sym (blocks_suc c)) (append_at_left (blocks c) (f c) (length (blocks i) + j) x (at_block c i j x before h))
    | inr last ↦ let is : c ≡ i = omega (arith, known, last) in
        subst (λ (xs : List B). slice_get xs (length (blocks i) + j) ≡ Some x) (sym (blocks_suc c))
        (subst (λ (k : ℕ). slice_get (blocks c ++ f c) (length (blocks k) + j) ≡ Some x) is (append_at_right (blocks c) (f c) j x (subst (λ (k : ℕ). slice_get (f k) j ≡ Some x) (sym is) h)))
  ]
