-- Lists turned round number by number.
use Rattle.std.proofs.Common.{◌≡◌, ℕ, ◌+◌, ◌-◌, ◌<◌, ◌≤◌, Global, List, Vec, map, [], ◌∷◌, ◌++◌, length, get_or, replicate, set, take, refl, sym, ap, subst, ◌∙◌, inl, inr, arith, get_or-set_same, get_or-set_other}
use Rattle.std.specs.Prelude.{◌⊎◌, ◌↔◌, ◌≢◌}
use Rattle.std.specs.List.{Contains}
use Rattle.std.specs.List.Sorted.{IsStrictlyIncreasing}
use Rattle.std.proofs.lemmas.Bool.{cases_eq, cases_lt}
use Rattle.std.proofs.lemmas.List.{get_or-map, get_or_append_left, get_or_past, get_or_push, get_or-replicate, length-replicate, length-set, length_push, take_all, take_more}
use Rattle.std.proofs.lemmas.List.Elements.{Contains-append_cases, Contains-append_left, Contains-get_or, Contains-push}
use Rattle.fixpoint.specs.Members.{contains_cases}
use Rattle.fixpoint.specs.Reversal.{AddsNumber, AddsToEach, IsReversal, IsRisingTo, list_at}

pub push_cases : (xs : List ℕ) (n m : ℕ) → Contains (xs ++ n ∷ []) m → Contains xs m ⊎ (m ≡ n)
push_cases xs n m at = elim (Contains-append_cases xs (n ∷ []) m at) [
  | inl before ↦ inl before
  | inr here ↦ elim (contains_cases n m [] here.0 here.1 here.2) [ inl same ↦ inr (sym same) | inr none ↦ absurd (omega (arith, none.1)) ]
]

pub pushed : (xs : List ℕ) (n m : ℕ) → Contains xs m ⊎ (m ≡ n) → Contains (xs ++ n ∷ []) m
pushed xs n m (inl before) = Contains-append_left xs (n ∷ []) m before
pushed xs n m (inr same) = subst (λ (k : ℕ). Contains (xs ++ n ∷ []) k) (sym same) (Contains-push xs n)

-- a list that ends with the number
pub number_kept : (xs front : List ℕ) (n : ℕ) → xs ≡ front ++ n ∷ [] → AddsNumber n xs xs
number_kept xs front n is = record {
  members = λ m. (
    λ at. inl at,
    λ either. elim either [
      | inl at ↦ at
      | inr same ↦ subst (λ (ys : List ℕ). Contains ys m) (sym is) (pushed front n m (inr same))
    ],
  );
  rising = λ rises. rises;
}

-- one that does not
last_less : (xs : List ℕ) (n : ℕ) → ((front : List ℕ) → xs ≢ front ++ n ∷ []) → IsRisingTo n xs → 0 < length xs → get_or xs (length xs - 1) 0 < n
last_less xs n other rises some =
    let i = length xs - 1 in
    let inside : i < length xs = omega (arith, some) in
    let most = rises.most (get_or xs i 0) (Contains-get_or xs i 0 inside) in
    elim (cases_eq (get_or xs i 0) n) [
      | inl same ↦
          let whole : take (i + 1) xs ≡ xs = take_all (i + 1) xs (omega (arith, some)) in
          let split = sym whole ∙ take_more xs i 0 inside in
          absurd (other (take i xs) (split ∙ ap (λ (k : ℕ). take i xs ++ k ∷ []) same))
      | inr differs ↦ omega (arith, most, differs)
    ]

IsStrictlyIncreasing-push : (xs : List ℕ) (n : ℕ) → IsStrictlyIncreasing xs → (0 < length xs → get_or xs (length xs - 1) 0 < n)
    → IsStrictlyIncreasing (xs ++ n ∷ [])
IsStrictlyIncreasing-push xs n rises last k inside =
    let long = length_push xs n in
    let before : k < length xs = omega (arith, inside, long) in
    elim (cases_lt (k + 1) (length xs)) [
      | inl inner ↦ rw (get_or_append_left xs (n ∷ []) 0 k before, get_or_append_left xs (n ∷ []) 0 (k + 1) inner) (rises k inner)
      | inr outer ↦
          let end : length xs ≡ k + 1 = omega (arith, outer, before) in
          let at : length xs - 1 ≡ k = omega (arith, end) in
          rw (get_or_append_left xs (n ∷ []) 0 k before, get_or_push xs n 0 (k + 1) end) (rw at at (last (omega (arith, before))))
    ]

pub number_added : (xs : List ℕ) (n : ℕ) → ((front : List ℕ) → xs ≢ front ++ n ∷ []) → AddsNumber n xs (xs ++ n ∷ [])
number_added xs n other = record {
  members = λ m. (push_cases xs n m, pushed xs n m);
  rising = λ rises. record {
    rising = IsStrictlyIncreasing-push xs n rises.rising (last_less xs n other rises);
    most = λ m at. elim (push_cases xs n m at) [ inl before ↦ rises.most m before | inr same ↦ omega (arith, same) ];
  };
}

-- one more place, whose list got the number
module _ (number i place : ℕ) (places : List ℕ) (start lists : List (List ℕ)) (after : List ℕ) (inside : i < length places)
    (is : place ≡ get_or places i 0) (in_range : place < length lists) (way : AddsToEach number (take i places) start lists)
    (adds : AddsNumber number (list_at lists place) after) where
  more_places : (n : ℕ) → Contains (take i places) n ⊎ (n ≡ place) → Contains (take (i + 1) places) n
  more_places n either = rw (take_more places i 0 inside, ← is) (pushed (take i places) place n either)

  fewer_places : (n : ℕ) → Contains (take (i + 1) places) n → Contains (take i places) n ⊎ (n ≡ place)
  fewer_places n at = push_cases (take i places) place n (rw (take_more places i 0 inside, ← is) at at)

  list_here : list_at (set lists place after) place ≡ after
  list_here = get_or-set_same lists place after [] in_range

  list_elsewhere : (n : ℕ) → n ≢ place → list_at (set lists place after) n ≡ list_at lists n
  list_elsewhere n differs = get_or-set_other lists place n after [] differs

  abbrev IsMember : ℕ → ℕ → List ℕ → Type 0
  IsMember n m members = Contains (list_at start n) m ⊎ ((m ≡ number) × Contains members n)

  weaker : (n m : ℕ) → IsMember n m (take i places) → IsMember n m (take (i + 1) places)
  weaker n m (inl at) = inl at
  weaker n m (inr both) = inr (both.0, more_places n (inl both.1))

  members_here : (m : ℕ) → place < length start → Contains after m ↔ IsMember place m (take (i + 1) places)
  members_here m below = (
    λ at. elim ((adds.members m).0 at) [
      | inl old ↦ weaker place m ((way.members place m below).0 old)
      | inr new ↦ inr (new, more_places place (inr refl))
    ],
    λ at. (adds.members m).1 (elim at [
      | inl old ↦ inl ((way.members place m below).1 (inl old))
      | inr new ↦ inr new.0
    ]),
  )

  members_elsewhere : (n m : ℕ) → n ≢ place → n < length start → Contains (list_at lists n) m ↔ IsMember n m (take (i + 1) places)
  members_elsewhere n m differs below = (
    λ at. weaker n m ((way.members n m below).0 at),
    λ at. (way.members n m below).1 (elim at [
      | inl old ↦ inl old
      | inr new ↦ inr (new.0, elim (fewer_places n new.1) [ inl before ↦ before | inr here ↦ absurd (differs here) ])
    ]),
  )

  pub each_more : AddsToEach number (take (i + 1) places) start (set lists place after)
  each_more = record {
    as_many = length-set lists place after ∙ way.as_many;
    members = λ n m below. elim (cases_eq n place) [
      | inl same ↦ rw (same, list_here) (members_here m (rw same at below))
      | inr differs ↦ rw (list_elsewhere n differs) (members_elsewhere n m differs below)
    ];
    rising = λ n below rises. elim (cases_eq n place) [
      | inl same ↦ rw (same, list_here) (adds.rising (way.rising place (rw same at below) (rw same at rises)))
      | inr differs ↦ rw (list_elsewhere n differs) (way.rising n below rises)
    ];
  }

-- the first lists are turned round
pub record IsReversed (size met : ℕ) (list : ℕ → List ℕ) (reversed : List (List ℕ)) : Type 0 where
  pub as_many : length reversed ≡ size
  pub members : (m n : ℕ) → n < size → Contains (list_at reversed n) m ↔ ((m < met) × Contains (list m) n)
  pub rising : (n : ℕ) → n < size → IsRisingTo met (list_at reversed n)

pub no_member : (m : ℕ) → Contains [] m → ⊥
no_member m at = omega (arith, at.1)

pub reversed_none : (size : ℕ) (list : ℕ → List ℕ) → IsReversed size 0 list (replicate size [])
reversed_none size list = record {
  as_many = length-replicate size [];
  members = λ m n below. rw (get_or-replicate {A = List ℕ} size n [] [] below) (λ at. absurd (no_member m at), λ both. absurd (omega (arith, both.0)));
  rising = λ n below. rw (get_or-replicate {A = List ℕ} size n [] [] below) (record {
    rising = λ k inside. absurd (omega (arith, inside));
    most = λ m at. absurd (no_member m at);
  });
}

rising_more : (greatest : ℕ) (xs : List ℕ) → IsRisingTo greatest xs → IsRisingTo (greatest + 1) xs
rising_more greatest xs rises = record { rising = rises.rising; most = λ m at. omega (arith, rises.most m at) }

-- one more list
pub reversed_more : (size met : ℕ) (list : ℕ → List ℕ) (reversed after : List (List ℕ)) → IsReversed size met list reversed
    → AddsToEach met (list met) reversed after → IsReversed size (met + 1) list after
reversed_more size met list reversed after way adds = record {
  as_many = adds.as_many ∙ way.as_many;
  members = λ m n below.
      let inside : n < length reversed = omega (arith, below, way.as_many) in (
        λ at. elim ((adds.members n m inside).0 at) [
          | inl old ↦ let both = (way.members m n below).0 old in (omega (arith, both.0), both.1)
          | inr new ↦ (omega (arith, new.0), subst (λ (k : ℕ). Contains (list k) n) (sym new.0) new.1)
        ],
        λ both. (adds.members n m inside).1 (elim (cases_eq m met) [
          | inl same ↦ inr (same, subst (λ (k : ℕ). Contains (list k) n) same both.1)
          | inr differs ↦ inl ((way.members m n below).1 (omega (arith, both.0, differs), both.1))
        ]),
      );
  rising = λ n below.
      let inside : n < length reversed = omega (arith, below, way.as_many) in
      rising_more met (list_at after n) (adds.rising n inside (way.rising n below));
}

-- all lists are
pub reversal_of : (size met : ℕ) (list : ℕ → List ℕ) (reversed : List (List ℕ)) → size ≤ met → ((m n : ℕ) → Contains (list m) n → m < size)
    → IsReversed size met list reversed → IsReversal size list reversed
reversal_of size met list reversed all known way = record {
  as_many = way.as_many;
  members = λ m n below. (
    λ at. let both = (way.members m n below).0 at in (known m n both.1, both.1),
    λ both. (way.members m n below).1 (omega (arith, both.0, all), both.1),
  );
}

-- a list that has a member is one of the lists
pub known_list : (lists : List (List ℕ)) (m n : ℕ) → Contains (list_at lists m) n → m < length lists
known_list lists m n at = elim (cases_lt m (length lists)) [
  | inl inside ↦ inside
  | inr past ↦ absurd (no_member n (rw (get_or_past lists m [] past) at at))
]

-- what a read of one of the vectors gives, as a list
pub list_read : (vecs : List (Vec ℕ Global)) (n : ℕ) (v : Vec ℕ Global) (xs : List ℕ) → n < length vecs → v ≡ get_or vecs n v → xs ≡ v.items
    → xs ≡ list_at (map (λ (w : Vec ℕ Global). w.items) vecs) n
list_read vecs n v xs inside is same =
    let items = λ (w : Vec ℕ Global). w.items in
    same ∙ ap items is ∙ sym (get_or-map items vecs n v [] inside)
