-- The first different constants, with more behind them.
use Rattle.std.proofs.Common.{◌≡◌, ℕ, zero, suc, ◌<◌, ◌≤◌, inl, inr, Bool, true, false, not, ◌&&◌, ◌||◌, cond, List, [], ◌∷◌, ◌++◌, ℤ, length, take, refl, sym, ap, subst, ◌∙◌, arith}
use Rattle.std.proofs.lemmas.Bool.{and_from, and_parts, cases_Bool, cases_lt, cond-false, cond-true, true≢false}
use Rattle.std.proofs.lemmas.Bool.Decides.{Decides-int_eq}
use Rattle.std.proofs.lemmas.List.{append-nil, append_assoc, length-append, length-take-le, take-append-le, take_all}
use Rattle.std.proofs.lemmas.List.Elements.{filter-append}
use Rattle.std.proofs.lemmas.Map.Views.{any-filter_same}
use Rattle.std.specs.List.{filter, list_any}
use Rattle.std.specs.Ordering.{int_eq}
use Rattle.control_points.specs.Thresholds.{among, different, first_different, most_constants}

same_of : (x y : ℤ) → int_eq x y ≡ true → x ≡ y
same_of x y h = (Decides-int_eq x y).0 h

int_eq_self : (x : ℤ) → int_eq x x ≡ true
int_eq_self x = (Decides-int_eq x x).1 refl

-- ---- filters

abbrev other : ℤ → ℤ → Bool
other z y = not (int_eq z y)

abbrev outside : List ℤ → List ℤ → List ℤ
outside ks ys = filter (λ y. not (among y ks)) ys

filter_like : (p q : ℤ → Bool) → ((x : ℤ) → p x ≡ q x) → (xs : List ℤ) → filter p xs ≡ filter q xs
filter_like p q h [] = refl
filter_like p q h (x ∷ xs) = ap (λ b. cond b (x ∷ filter p xs) (filter p xs)) (h x) ∙ ap (λ ys. cond (q x) (x ∷ ys) ys) (filter_like p q h xs)

filter_every : (p : ℤ → Bool) → ((x : ℤ) → p x ≡ true) → (xs : List ℤ) → filter p xs ≡ xs
filter_every p h [] = refl
filter_every p h (x ∷ xs) = cond-true (p x) (x ∷ filter p xs) (filter p xs) (h x) ∙ ap (λ ys. x ∷ ys) (filter_every p h xs)

filter_twice : (p q : ℤ → Bool) (xs : List ℤ) → filter p (filter q xs) ≡ filter (λ x. q x && p x) xs
filter_twice p q [] = refl
filter_twice p q (x ∷ xs) =
    let rest = filter_twice p q xs in
    let r = λ (y : ℤ). q y && p y in
    elim (cases_Bool (q x)) [
      | inl e ↦
          ap (filter p) (cond-true (q x) (x ∷ filter q xs) (filter q xs) e)
          ∙ ap (λ ys. cond (p x) (x ∷ ys) ys) rest
          ∙ ap (λ b. cond (b && p x) (x ∷ filter r xs) (filter r xs)) (sym e)
      | inr e ↦
          ap (filter p) (cond-false (q x) (x ∷ filter q xs) (filter q xs) e)
          ∙ rest
          ∙ ap (λ b. cond (b && p x) (x ∷ filter r xs) (filter r xs)) (sym e)
    ]

none_left : (test p : ℤ → Bool) (xs : List ℤ) → list_any test xs ≡ false → list_any test (filter p xs) ≡ false
none_left test p [] h = refl
none_left test p (x ∷ xs) h =
    elim (cases_Bool (test x)) [
      | inl e ↦ absurd (true≢false (sym (ap (λ b. b || list_any test xs) e) ∙ h))
      | inr e ↦
          let rest = none_left test p xs (sym (ap (λ b. b || list_any test xs) e) ∙ h) in
          elim (cases_Bool (p x)) [
            | inl q ↦ ap (list_any test) (cond-true (p x) (x ∷ filter p xs) (filter p xs) q) ∙ ap (λ b. b || list_any test (filter p xs)) e ∙ rest
            | inr q ↦ ap (list_any test) (cond-false (p x) (x ∷ filter p xs) (filter p xs) q) ∙ rest
          ]
    ]

none_taken : (test : ℤ → Bool) (n : ℕ) (xs : List ℤ) → list_any test xs ≡ false → list_any test (take n xs) ≡ false
none_taken test zero xs h = refl
none_taken test (suc n) [] h = refl
none_taken test (suc n) (x ∷ xs) h =
    elim (cases_Bool (test x)) [
      | inl e ↦ absurd (true≢false (sym (ap (λ b. b || list_any test xs) e) ∙ h))
      | inr e ↦ ap (λ b. b || list_any test (take n xs)) e ∙ none_taken test n xs (sym (ap (λ b. b || list_any test xs) e) ∙ h)
    ]

-- ---- members

by_both : (a b : Bool) → (not a && not b) ≡ not (b || a)
by_both true true = refl
by_both true false = refl
by_both false true = refl
by_both false false = refl

not_true : (b : Bool) → b ≡ true → not b ≡ false
not_true b h = ap not h

not_false : (b : Bool) → b ≡ false → not b ≡ true
not_false b h = ap not h

-- another number is not lost with x
among_other : (x y : ℤ) (zs : List ℤ) → int_eq x y ≡ false → among y (filter (other x) zs) ≡ among y zs
among_other x y zs h =
    any-filter_same (λ z. int_eq z y) (other x) true
    (λ z e. not_false (int_eq x z) (ap (int_eq x) (same_of z y e) ∙ h)) zs

-- none is x
among_none : (x : ℤ) (zs : List ℤ) → among x (filter (other x) zs) ≡ false
among_none x zs =
    any-filter_same (λ z. int_eq z x) (other x) false
    (λ z e. not_true (int_eq x z) (ap (int_eq x) (same_of z x e) ∙ int_eq_self x)) zs

among_different : (y : ℤ) (xs : List ℤ) → among y (different xs) ≡ among y xs
among_different y [] = refl
among_different y (x ∷ xs) =
    elim (cases_Bool (int_eq x y)) [
      | inl e ↦ ap (λ b. b || among y (filter (other x) (different xs))) e ∙ sym (ap (λ b. b || among y xs) e)
      | inr e ↦ ap (λ b. int_eq x y || b) (among_other x y (different xs) e ∙ among_different y xs)
    ]

-- ---- lists without repeats

abbrev apart : List ℤ → Bool
apart [] = true
apart (x ∷ xs) = not (among x xs) && apart xs

absent_from : (x : ℤ) (xs : List ℤ) → not (among x xs) ≡ true → among x xs ≡ false
absent_from x xs h = elim (cases_Bool (among x xs)) [ inl e ↦ absurd (true≢false (sym h ∙ ap not e)) | inr e ↦ e ]

apart_filter : (p : ℤ → Bool) (xs : List ℤ) → apart xs ≡ true → apart (filter p xs) ≡ true
apart_filter p [] h = refl
apart_filter p (x ∷ xs) h =
    let parts = and_parts (not (among x xs)) _ h in
    let rest = apart_filter p xs parts.1 in
    elim (cases_Bool (p x)) [
      | inl e ↦ ap apart (cond-true (p x) (x ∷ filter p xs) (filter p xs) e) ∙ and_from _ _ (not_false _ (none_left (λ z. int_eq z x) p xs (absent_from x xs parts.0))) rest
      | inr e ↦ ap apart (cond-false (p x) (x ∷ filter p xs) (filter p xs) e) ∙ rest
    ]

apart_different : (xs : List ℤ) → apart (different xs) ≡ true
apart_different [] = refl
apart_different (x ∷ xs) = and_from _ _ (not_false _ (among_none x (different xs))) (apart_filter (other x) (different xs) (apart_different xs))

apart_take : (n : ℕ) (xs : List ℤ) → apart xs ≡ true → apart (take n xs) ≡ true
apart_take zero xs h = refl
apart_take (suc n) [] h = refl
apart_take (suc n) (x ∷ xs) h =
    let parts = and_parts (not (among x xs)) _ h in
    and_from _ _ (not_false _ (none_taken (λ z. int_eq z x) n xs (absent_from x xs parts.0))) (apart_take n xs parts.1)

-- a number that is absent filters nothing
other_all : (x : ℤ) (ys : List ℤ) → among x ys ≡ false → filter (other x) ys ≡ ys
other_all x [] h = refl
other_all x (y ∷ ys) h =
    elim (cases_Bool (int_eq x y)) [
      | inl e ↦ absurd (true≢false (sym (ap (λ b. b || among x ys) (ap (λ z. int_eq z x) (sym (same_of x y e)) ∙ int_eq_self x)) ∙ h))
      | inr e ↦ elim (cases_Bool (int_eq y x)) [
        | inl g ↦ absurd (true≢false (sym (ap (λ b. b || among x ys) g) ∙ h))
        | inr g ↦
            cond-true (other x y) (y ∷ filter (other x) ys) (filter (other x) ys) (not_false (int_eq x y) e)
            ∙ ap (λ zs. y ∷ zs) (other_all x ys (sym (ap (λ b. b || among x ys) g) ∙ h))
      ]
    ]

apart_same : (xs : List ℤ) → apart xs ≡ true → different xs ≡ xs
apart_same [] h = refl
apart_same (x ∷ xs) h =
    let parts = and_parts (not (among x xs)) _ h in
    ap (λ ys. x ∷ filter (other x) ys) (apart_same xs parts.1) ∙ ap (λ ys. x ∷ ys) (other_all x xs (absent_from x xs parts.0))

-- ---- more behind

outside_more : (x : ℤ) (xs ds : List ℤ) → filter (other x) (outside xs ds) ≡ outside (x ∷ xs) ds
outside_more x xs ds =
    filter_twice (other x) (λ y. not (among y xs)) ds
    ∙ filter_like (λ y. not (among y xs) && not (int_eq x y)) (λ y. not (among y (x ∷ xs))) (λ y. by_both (among y xs) (int_eq x y)) ds

different_append : (xs ys : List ℤ) → different (xs ++ ys) ≡ different xs ++ outside xs (different ys)
different_append [] ys = sym (filter_every (λ y. not (among y [])) (λ y. refl) (different ys))
different_append (x ∷ xs) ys =
    ap (λ zs. x ∷ filter (other x) zs) (different_append xs ys)
    ∙ ap (λ zs. x ∷ zs) (filter-append (other x) (different xs) (outside xs (different ys)))
    ∙ ap (λ zs. x ∷ (filter (other x) (different xs) ++ zs)) (outside_more x xs (different ys))

-- the first n that differ
module _ (n : ℕ) where
  abbrev first : List ℤ → List ℤ
  first xs = take n (different xs)

  first_apart : (xs : List ℤ) → different (first xs) ≡ first xs
  first_apart xs = apart_same (first xs) (apart_take n (different xs) (apart_different xs))

  split : (xs ys : List ℤ) → first (first xs ++ ys) ≡ take n (first xs ++ outside (first xs) (different ys))
  split xs ys = ap (take n) (different_append (first xs) ys ∙ ap (λ zs. zs ++ outside (first xs) (different ys)) (first_apart xs))

  long_first : (xs : List ℤ) → n ≤ length (different xs) → n ≤ length (first xs)
  long_first xs h = omega (arith, length-take-le n (different xs) h)

  first_again : (xs ys : List ℤ) → first (first xs ++ ys) ≡ first (xs ++ ys)
  first_again xs ys =
      let ds = different xs in
      let es = different ys in
      elim (cases_lt n (length ds)) [
        | inl h ↦
            let le : n ≤ length ds = omega arith in
            split xs ys ∙ take-append-le n (first xs) (outside (first xs) es) (long_first xs le) ∙ take_all n (first xs) (omega (arith, length-take-le n ds le))
            ∙ sym (ap (take n) (different_append xs ys) ∙ take-append-le n ds (outside xs es) le)
        | inr h ↦
            let all : first xs ≡ ds = take_all n ds h in
            split xs ys ∙ ap (λ zs. take n (zs ++ outside zs es)) all
            ∙ ap (λ zs. take n (ds ++ zs)) (filter_like (λ y. not (among y ds)) (λ y. not (among y xs)) (λ y. ap not (among_different y xs)) es)
            ∙ sym (ap (take n) (different_append xs ys))
      ]

  -- a list that is its own first different ones
  same_apart : (v : List ℤ) → first v ≡ v → different v ≡ v
  same_apart v h = apart_same v (subst (λ zs. apart zs ≡ true) h (apart_take n (different v) (apart_different v)))

  first_full : (v ys : List ℤ) → first v ≡ v → n ≤ length v → first (v ++ ys) ≡ v
  first_full v ys h le =
      let d = same_apart v h in
      ap (take n) (different_append v ys ∙ ap (λ zs. zs ++ outside v (different ys)) d)
      ∙ take-append-le n v (outside v (different ys)) le
      ∙ ap (take n) (sym d) ∙ h

  first_present : (v : List ℤ) (z : ℤ) → first v ≡ v → among z v ≡ true → first (v ++ z ∷ []) ≡ v
  first_present v z h m =
      let d = same_apart v h in
      ap (take n) (different_append v (z ∷ []) ∙ ap (λ b. different v ++ cond b (z ∷ []) []) (not_true (among z v) m) ∙ append-nil (different v)) ∙ h

  first_fresh : (v : List ℤ) (z : ℤ) → first v ≡ v → among z v ≡ false → length v < n → first (v ++ z ∷ []) ≡ v ++ z ∷ []
  first_fresh v z h m lt =
      let d = same_apart v h in
      ap (take n) (different_append v (z ∷ []) ∙ ap (λ b. different v ++ cond b (z ∷ []) []) (not_false (among z v) m) ∙ ap (λ zs. zs ++ z ∷ []) d)
      ∙ take_all n (v ++ z ∷ []) (omega (arith, length-append v (z ∷ [])))

-- ---- what the walk keeps

pub found_more : (v w xs ys : List ℤ) → w ≡ first_different (v ++ xs) → first_different (w ++ ys) ≡ first_different (v ++ (xs ++ ys))
found_more v w xs ys h = ap (λ u. first_different (u ++ ys)) h ∙ first_again most_constants (v ++ xs) ys ∙ ap first_different (append_assoc v xs ys)

pub found_none : (v : List ℤ) → first_different v ≡ v → v ≡ first_different (v ++ [])
found_none v h = sym (ap first_different (append-nil v) ∙ h)

pub found_full : (v ys : List ℤ) → first_different v ≡ v → most_constants ≤ length v → v ≡ first_different (v ++ ys)
found_full v ys h le = sym (first_full most_constants v ys h le)

pub found_present : (v : List ℤ) (z : ℤ) → first_different v ≡ v → among z v ≡ true → v ≡ first_different (v ++ z ∷ [])
found_present v z h m = sym (first_present most_constants v z h m)

pub found_fresh : (v : List ℤ) (z : ℤ) → first_different v ≡ v → among z v ≡ false → length v < most_constants → v ++ z ∷ [] ≡ first_different (v ++ z ∷ [])
found_fresh v z h m lt = sym (first_fresh most_constants v z h m lt)

-- what is found is its own first different ones
pub found_first : (v w xs : List ℤ) → w ≡ first_different (v ++ xs) → first_different w ≡ w
found_first v w xs h =
    ap first_different h
    ∙ ap first_different (sym (append-nil (first_different (v ++ xs))))
    ∙ first_again most_constants (v ++ xs) []
    ∙ ap first_different (append-nil (v ++ xs))
    ∙ sym h
