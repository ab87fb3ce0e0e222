-- A list that rises stays so when a number is put in its place; and the place is that of the first number that isn't less.
use Rattle.std.proofs.Common.{◌≡◌, ℕ, Less, zero, suc, ◌+◌, ◌<◌, ◌≤◌, inl, inr, Bool, true, false, not, cond, List, [], ◌∷◌, ◌++◌, ℤ, ◌<ℤ◌, ◌≤ℤ◌, int_lt, int_le, length, take, drop, get_or, refl, sym, ap, subst, ◌∙◌, Option, Some, None, nat_lt, arith}
use Rattle.std.proofs.lemmas.Bool.{cases_Bool, false_from_ne_true, ltb-false, ltb-true, cond-false, cond-true, true≢false}
use Rattle.std.proofs.lemmas.Bool.Decides.{Decides-int_eq}
use Rattle.std.proofs.lemmas.Int.{by_lt_z, ints}
use Rattle.std.proofs.lemmas.Grind.{flat_map-append}
use Rattle.std.proofs.lemmas.List.{append-nil, drop_all, take-append-drop, take_all, take_more}
use Rattle.std.proofs.lemmas.List.Elements.{All-cons, All-head, All-nil, All-tail, recursion_from_All}
use Rattle.std.proofs.lemmas.List.Kept.{AllPairs-cons}
use Rattle.std.proofs.lemmas.List.Sums.{fold-append}
use Rattle.std.proofs.lemmas.Option.{none-some}
use Rattle.std.proofs.Math.Seq.{drop-cons}
use Rattle.std.specs.List.{All, AllPairs, flat_map, fold, position, prefix_len}
use Rattle.std.specs.List.Sorted.{IsStrictlySortedBy}
use Rattle.std.specs.Ordering.{int_cmp, int_eq}
use Rattle.control_points.specs.Thresholds.{put_in, rising}
use Rattle.control_points.proofs.Listed.{same_some}

-- each is less than all behind it
abbrev IsRising : List ℤ → Type 0
IsRising steps = AllPairs ◌<ℤ◌ steps

less_than : (y z : ℤ) → int_lt y z ≡ true → y <ℤ z
less_than y z h = grind (arith, ints)

not_less : (y z : ℤ) → int_lt y z ≡ false → z ≤ℤ y
not_less y z h = grind (arith, ints)

differ : (y z : ℤ) → z ≤ℤ y → int_eq y z ≡ false → z <ℤ y
differ y z h e =
    by_lt_z z y (λ lt. lt)
    (λ le. let same : y ≡ z = omega (arith, ints) in absurd (true≢false (sym ((Decides-int_eq y z).1 same) ∙ e)))

below_all : (z y : ℤ) (ys : List ℤ) → z <ℤ y → All (λ x. y <ℤ x) ys → All (λ x. z <ℤ x) ys
below_all z y ys lt h k d within = let low = h k d within in omega (arith, ints)

-- ---- putting in

put_all : (P : ℤ → Type 0) (ys : List ℤ) (z : ℤ) → P z → All P ys → All P (put_in ys z)
put_all P [] z p h = All-cons P z [] p (All-nil P)
put_all P (y ∷ ys) z p h =
    elim (cases_Bool (int_lt y z)) [
      | inl e ↦ subst (All P) (sym (cond-true (int_lt y z) _ _ e)) (All-cons P y (put_in ys z) (All-head P y ys h) (put_all P ys z p (All-tail P y ys h)))
      | inr e ↦ subst (All P) (sym (cond-false (int_lt y z) _ _ e)) (elim (cases_Bool (int_eq y z)) [
        | inl s ↦ subst (All P) (sym (cond-true (int_eq y z) _ _ s)) h
        | inr s ↦ subst (All P) (sym (cond-false (int_eq y z) _ _ s)) (All-cons P z (y ∷ ys) p h)
      ])
    ]

first_below : (y : ℤ) (ys : List ℤ) → IsRising (y ∷ ys) → All (λ x. y <ℤ x) ys
first_below y ys h k d within = h zero (suc k) d (omega arith) (omega arith)

rest_rises : (y : ℤ) (ys : List ℤ) → IsRising (y ∷ ys) → IsRising ys
rest_rises y ys h i j d lt within = h (suc i) (suc j) d (omega arith) (omega arith)

none_rises : IsRising []
none_rises i j d lt within = absurd (omega arith)

put_rises : (ys : List ℤ) (z : ℤ) → IsRising ys → IsRising (put_in ys z)
put_rises [] z h = AllPairs-cons (λ a b. a <ℤ b) z [] (All-nil (λ x. z <ℤ x)) h
put_rises (y ∷ ys) z h =
    let low = first_below y ys h in
    elim (cases_Bool (int_lt y z)) [
      | inl e ↦ subst IsRising (sym (cond-true (int_lt y z) _ _ e)) (AllPairs-cons (λ a b. a <ℤ b) y (put_in ys z) (put_all (λ x. y <ℤ x) ys z (less_than y z e) low) (put_rises ys z (rest_rises y ys h)))
      | inr e ↦ subst IsRising (sym (cond-false (int_lt y z) _ _ e)) (elim (cases_Bool (int_eq y z)) [
        | inl s ↦ subst IsRising (sym (cond-true (int_eq y z) _ _ s)) h
        | inr s ↦
            let before = differ y z (not_less y z e) s in
            subst IsRising (sym (cond-false (int_eq y z) _ _ s)) (AllPairs-cons (λ a b. a <ℤ b) z (y ∷ ys) (All-cons (λ x. z <ℤ x) y ys before (below_all z y ys before low)) h)
      ])
    ]

folded_rise : (ys zs : List ℤ) → IsRising ys → IsRising (fold put_in ys zs)
folded_rise ys [] h = h
folded_rise ys (z ∷ zs) h = folded_rise (put_in ys z) zs (put_rises ys z h)

compares_less : (y z : ℤ) → y <ℤ z → int_cmp y z ≡ Less
compares_less y z h = grind (arith, ints)

sorted_if_rising : (ys : List ℤ) → IsRising ys → IsStrictlySortedBy int_cmp ys
unfolding IsStrictlySortedBy
sorted_if_rising [] h = tt
sorted_if_rising (y ∷ ys) h = (recursion_from_All (λ z. int_cmp y z ≡ Less) ys (λ k d within. compares_less y _ (first_below y ys h k d within)), sorted_if_rising ys (rest_rises y ys h))

pub rising_is_sorted : (zs : List ℤ) → IsStrictlySortedBy int_cmp (rising zs)
rising_is_sorted zs = sorted_if_rising (rising zs) (folded_rise [] zs none_rises)

-- ---- the place

le_not : (y z : ℤ) → y <ℤ z → int_le z y ≡ false
le_not y z h = grind (arith, ints)

le_so : (y z : ℤ) → z ≤ℤ y → int_le z y ≡ true
le_so y z h = grind (arith, ints)

less_by : (y z : ℤ) → int_lt y z ≡ not (int_le z y)
less_by y z =
    elim (cases_Bool (int_lt y z)) [
      | inl e ↦ e ∙ sym (ap not (le_not y z (less_than y z e)))
      | inr e ↦ e ∙ sym (ap not (le_so y z (not_less y z e)))
    ]

-- whether a number comes before the place of z
abbrev earlier : ℤ → ℤ → Bool
earlier z y = not (int_le z y)

-- those that come before the place stay before it
put_behind : (ys : List ℤ) (z : ℤ) → put_in ys z ≡ take (prefix_len (earlier z) ys) ys ++ put_in (drop (prefix_len (earlier z) ys) ys) z
put_behind [] z = refl
put_behind (y ∷ ys) z =
    let k = prefix_len (earlier z) ys in
    elim (cases_Bool (earlier z y)) [
      | inl e ↦
          let n : 1 + k ≡ suc k = omega arith in
          cond-true (int_lt y z) _ _ (less_by y z ∙ e) ∙ ap (λ zs. y ∷ zs) (put_behind ys z)
          ∙ sym (ap (λ m. take m (y ∷ ys) ++ put_in (drop m (y ∷ ys)) z) (cond-true (earlier z y) (1 + k) 0 e ∙ n))
      | inr e ↦ sym (ap (λ m. take m (y ∷ ys) ++ put_in (drop m (y ∷ ys)) z) (cond-false (earlier z y) (1 + k) 0 e))
    ]

-- the first of the others
first_other : (p : ℤ → Bool) (ys : List ℤ) (d : ℤ) → prefix_len p ys < length ys → p (get_or ys (prefix_len p ys) d) ≡ false
first_other p [] d h = absurd (omega arith)
first_other p (y ∷ ys) d h =
    elim (cases_Bool (p y)) [
      | inl e ↦
          let n : 1 + prefix_len p ys ≡ suc (prefix_len p ys) = omega arith in
          let is : prefix_len p (y ∷ ys) ≡ suc (prefix_len p ys) = cond-true (p y) (1 + prefix_len p ys) 0 e ∙ n in
          let within : prefix_len p ys < length ys = omega (arith, h, is) in
          ap (λ k. p (get_or (y ∷ ys) k d)) is ∙ first_other p ys d within
      | inr e ↦ ap (λ k. p (get_or (y ∷ ys) k d)) (cond-false (p y) (1 + prefix_len p ys) 0 e) ∙ e
    ]

place_known : (b : Bool) (m k : ℕ) → cond b (Some m) None ≡ Some k → (b ≡ true) × (m ≡ k)
place_known true m k h = (refl, same_some h)
place_known false m k h = absurd (none-some k h)

no_place : (b : Bool) (m : ℕ) → cond b (Some m) None ≡ None → b ≡ false
no_place true m h = absurd (none-some m (sym h))
no_place false m h = refl

abbrev place : List ℤ → ℤ → Option ℕ
place ys z = position (λ y. int_le z y) ys

pub put_last : (ys : List ℤ) (z : ℤ) → place ys z ≡ None → put_in ys z ≡ ys ++ z ∷ []
put_last ys z h =
    let k = prefix_len (earlier z) ys in
    let past : length ys ≤ k = ltb-false k (length ys) (no_place (nat_lt k (length ys)) k h) in
    put_behind ys z ∙ ap (λ xs. take k ys ++ put_in xs z) (drop_all k ys past) ∙ ap (λ xs. xs ++ z ∷ []) (take_all k ys past)

module _ (ys : List ℤ) (z d : ℤ) (k : ℕ) (h : place ys z ≡ Some k) where
  known : (nat_lt (prefix_len (earlier z) ys) (length ys) ≡ true) × (prefix_len (earlier z) ys ≡ k)
  known = place_known (nat_lt (prefix_len (earlier z) ys) (length ys)) (prefix_len (earlier z) ys) k h

  within : k < length ys
  within = let lt = ltb-true (prefix_len (earlier z) ys) (length ys) known.0 in omega (arith, lt, known.1)

  pub place_within : k < length ys
  place_within = within

  abbrev here : ℤ
  here = get_or ys k d

  not_before : int_lt here z ≡ false
  not_before =
      less_by here z ∙ ap (λ j. earlier z (get_or ys j d)) (sym known.1)
      ∙ first_other (earlier z) ys d (ltb-true (prefix_len (earlier z) ys) (length ys) known.0)

  at_place : put_in ys z ≡ take k ys ++ cond (int_eq here z) (drop k ys) (z ∷ drop k ys)
  at_place =
      let rest = drop-cons ys k d within in
      put_behind ys z ∙ ap (λ j. take j ys ++ put_in (drop j ys) z) known.1
      ∙ ap (λ xs. take k ys ++ put_in xs z) rest
      ∙ ap (λ xs. take k ys ++ xs) (cond-false (int_lt here z) _ _ not_before)
      ∙ ap (λ xs. take k ys ++ cond (int_eq here z) xs (z ∷ xs)) (sym rest)

  pub put_same : here ≡ z → put_in ys z ≡ ys
  put_same e = at_place ∙ ap (λ xs. take k ys ++ xs) (cond-true (int_eq here z) (drop k ys) (z ∷ drop k ys) ((Decides-int_eq here z).1 e)) ∙ take-append-drop k ys

  pub put_before : (here ≡ z → ⊥) → put_in ys z ≡ take k ys ++ z ∷ drop k ys
  put_before e = at_place ∙ ap (λ xs. take k ys ++ xs) (cond-false (int_eq here z) (drop k ys) (z ∷ drop k ys) (false_from_ne_true (int_eq here z) (λ s. e ((Decides-int_eq here z).0 s))))

-- ---- one constant more

pub rising_more : (f : ℤ → List ℤ) (xs : List ℤ) (i : ℕ) (d : ℤ) (old new : List ℤ) → i < length xs → old ≡ rising (flat_map f (take i xs)) → new ≡ fold put_in old (f (get_or xs i d))
    → new ≡ rising (flat_map f (take (i + 1) xs))
rising_more f xs i d old new lt before more =
    let x = get_or xs i d in
    let all : flat_map f (take (i + 1) xs) ≡ flat_map f (take i xs) ++ f x =
    ap (flat_map f) (take_more xs i d lt) ∙ flat_map-append f (take i xs) (x ∷ []) ∙ ap (λ ys. flat_map f (take i xs) ++ ys) (append-nil (f x)) in
    more ∙ ap (λ ys. fold put_in ys (f x)) before ∙ sym (ap rising all ∙ fold-append put_in [] (flat_map f (take i xs)) (f x))
