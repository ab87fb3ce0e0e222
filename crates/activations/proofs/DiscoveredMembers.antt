-- The different members of a list, in the order in which they are first met.
use Rattle.std.proofs.Common.{◌≡◌, ℕ, zero, suc, ◌+◌, ◌<◌, ◌≤◌, Bool, true, false, ◌||◌, List, [], ◌∷◌, ◌++◌, length, get_or, Some, slice_get, refl, sym, ap, subst, ◌∙◌, inl, inr, arith, append_assoc, length-append}
use Rattle.std.specs.Prelude.{if◌then◌else◌}
use Rattle.std.specs.List.{AllByRecursion, fold, list_any, position_or_len}
use Rattle.std.proofs.lemmas.Bool.{cases_eq}
use Rattle.std.proofs.lemmas.List.Folds.{list_any-append, list_any_at}
use Rattle.std.proofs.lemmas.List.Sums.{position_or_len_is}
use Rattle.std.proofs.lemmas.Option.{get_or_from_slice_get, slice_get-get_or, slice_get_within}
use Rattle.alias_class.specs.Distinct.{with_member}
use Rattle.activations.proofs.Blocks.{append_at_left, append_at_right, append_nil, in_either}
use Rattle.activations.proofs.FoundNodes.{IsAt}

-- ---- elements that pass

module _ {A : Type 0} (p : A → Bool) where
  pub any_left : (xs ys : List A) → list_any p xs ≡ true → list_any p (xs ++ ys) ≡ true
  any_left xs ys h = list_any-append p xs ys ∙ ap (λ (b : Bool). b || list_any p ys) h

  pub any_last : (xs : List A) (x : A) → p x ≡ true → list_any p (xs ++ x ∷ []) ≡ true
  any_last xs x h = list_any-append p xs (x ∷ []) ∙ either (list_any p xs) (p x) h
    where
      either : (a b : Bool) → b ≡ true → (a || (b || false)) ≡ true
      either true b h = refl
      either false true h = refl
      either false false h = h

  -- one that passes stands before the end
  pub first_within : (xs : List A) → list_any p xs ≡ true → position_or_len p xs < length xs
  first_within [] h = absurd (grind (arith, h))
  first_within (x ∷ xs) h = by (p x) refl h (first_within xs)
    where
      by : (b : Bool) → p x ≡ b → (b || list_any p xs) ≡ true → (list_any p xs ≡ true → position_or_len p xs < length xs) → position_or_len p (x ∷ xs) < length (x ∷ xs)
      by true is h rest = rw is (omega arith)
      by false is h rest = let later = rest h in rw is (omega (arith, later))

  -- where one passes, more behind change nothing
  pub first_stays : (xs ys : List A) → list_any p xs ≡ true → position_or_len p (xs ++ ys) ≡ position_or_len p xs
  first_stays [] ys h = absurd (grind (arith, h))
  first_stays (x ∷ xs) ys h = by (p x) refl h (first_stays xs ys)
    where
      by : (b : Bool) → p x ≡ b → (b || list_any p xs) ≡ true → (list_any p xs ≡ true → position_or_len p (xs ++ ys) ≡ position_or_len p xs) → position_or_len p (x ∷ xs ++ ys) ≡ position_or_len p (x ∷ xs)
      by true is h rest = rw is refl
      by false is h rest = rw is (omega (arith, rest h))

  pub none_passes : (xs : List A) (i : ℕ) (x : A) → list_any p xs ≡ false → slice_get xs i ≡ Some x → p x ≡ false
  none_passes xs i x none at = by (p x) refl
    where
      by : (b : Bool) → p x ≡ b → b ≡ false
      by false is = refl
      by true is =
          let found = list_any_at p xs i x (slice_get_within xs i x at) (ap p (get_or_from_slice_get xs i x x at) ∙ is) in
          sym found ∙ none

-- ---- each of a list

module _ {A : Type 0} (P : A → Type 0) where
  pub each_left : (xs ys : List A) → AllByRecursion P (xs ++ ys) → AllByRecursion P xs
  each_left [] ys h = tt
  each_left (x ∷ xs) ys h = (h.0, each_left xs ys h.1)

  pub each_right : (xs ys : List A) → AllByRecursion P (xs ++ ys) → AllByRecursion P ys
  each_right [] ys h = h
  each_right (x ∷ xs) ys h = each_right xs ys h.1

  pub each_at : (xs : List A) (i : ℕ) (x : A) → AllByRecursion P xs → slice_get xs i ≡ Some x → P x
  each_at [] i x h at = absurd (grind (arith, at))
  each_at (y ∷ xs) zero x h at = let same : y ≡ x = grind (arith, at) in subst P same h.0
  each_at (y ∷ xs) (suc i) x h at = each_at xs i x h.1 at

-- ---- lists that begin with another

pub record Extends {A : Type 0} (xs ys : List A) : Type 0 where
  pub rest : List A
  pub is : ys ≡ xs ++ rest

pub extends_self : {A : Type 0} (xs : List A) → Extends xs xs
extends_self {A} xs = record { rest = []; is = sym (append_nil xs) }

pub extends_both : {A : Type 0} (xs ys zs : List A) → Extends xs ys → Extends ys zs → Extends xs zs
extends_both {A} xs ys zs e f = record { rest = e.rest ++ f.rest; is = f.is ∙ ap (λ (l : List A). l ++ f.rest) e.is ∙ append_assoc xs e.rest f.rest }

pub extended_at : {A : Type 0} (xs ys : List A) (i : ℕ) (x : A) → Extends xs ys → slice_get xs i ≡ Some x → slice_get ys i ≡ Some x
extended_at {A} xs ys i x e at = subst (λ (l : List A). slice_get l i ≡ Some x) (sym e.is) (append_at_left xs e.rest i x at)

-- ---- members

module _ {A : Type 0} (same : A → A → Bool) where
  pub member_extends : (xs : List A) (x : A) → Extends xs (with_member same xs x)
  member_extends xs x = by (list_any (same x) xs)
    where
      by : (b : Bool) → Extends xs (if b then xs else xs ++ x ∷ [])
      by true = extends_self xs
      by false = record { rest = x ∷ []; is = refl }

  pub members_extend : (xs zs : List A) → Extends xs (fold (with_member same) xs zs)
  members_extend xs [] = extends_self xs
  members_extend xs (z ∷ zs) = extends_both xs (with_member same xs z) (fold (with_member same) (with_member same xs z) zs) (member_extends xs z) (members_extend (with_member same xs z) zs)

  length-with_member : (xs : List A) (x : A) → length (with_member same xs x) ≤ length xs + 1
  length-with_member xs x = by (list_any (same x) xs)
    where
      by : (b : Bool) → length (if b then xs else xs ++ x ∷ []) ≤ length xs + 1
      by true = omega arith
      by false = omega (arith, length-append xs (x ∷ []))

  pub length-members : (xs zs : List A) → length (fold (with_member same) xs zs) ≤ length xs + length zs
  length-members xs [] = omega arith
  length-members xs (z ∷ zs) = let rest = length-members (with_member same xs z) zs in let here = length-with_member xs z in omega (arith, rest, here)

  -- ---- each that is added is found

  abbrev pub IsIn : List A → A → Type 0
  IsIn xs x = list_any (same x) xs ≡ true

  pub in_extended : (xs ys : List A) (x : A) → Extends xs ys → IsIn xs x → IsIn ys x
  in_extended xs ys x e h = subst (λ (l : List A). list_any (same x) l ≡ true) (sym e.is) (any_left (same x) xs e.rest h)

  pub all_in_extended : (xs ys zs : List A) → Extends xs ys → AllByRecursion (IsIn xs) zs → AllByRecursion (IsIn ys) zs
  all_in_extended xs ys [] e h = tt
  all_in_extended xs ys (z ∷ zs) e h = (in_extended xs ys z e h.0, all_in_extended xs ys zs e h.1)

  module _ (reflexive : (x : A) → same x x ≡ true) where
    in_with_member : (xs : List A) (x : A) → IsIn (with_member same xs x) x
    in_with_member xs x = by (list_any (same x) xs) refl
      where
        by : (b : Bool) → list_any (same x) xs ≡ b → list_any (same x) (if b then xs else xs ++ x ∷ []) ≡ true
        by true is = is
        by false is = any_last (same x) xs x (reflexive x)

    pub all_in : (xs zs : List A) → AllByRecursion (IsIn (fold (with_member same) xs zs)) zs
    all_in xs [] = tt
    all_in xs (z ∷ zs) =
        let after = with_member same xs z in
        (in_extended after (fold (with_member same) after zs) z (members_extend after zs) (in_with_member xs z), all_in after zs)

  -- ---- no two are the same

  abbrev pub AreDifferent : List A → Type 0
  AreDifferent xs = (i j : ℕ) (x y : A) → i < j → slice_get xs i ≡ Some x → slice_get xs j ≡ Some y → same y x ≡ false

  different_push : (xs : List A) (x : A) → AreDifferent xs → list_any (same x) xs ≡ false → AreDifferent (xs ++ x ∷ [])
  different_push xs x apart new i j a b before at_i at_j = elim (in_either xs (x ∷ []) j b at_j) [
    | inl left_j ↦ elim (in_either xs (x ∷ []) i a at_i) [
      | inl left_i ↦ apart i j a b before left_i left_j
      | inr right_i ↦ let within = slice_get_within xs j b left_j in absurd (omega (arith, right_i.number, within, before))
    ]
    | inr right_j ↦
        let last = slice_get_within (x ∷ []) right_j.place b right_j.is in
        elim (in_either xs (x ∷ []) i a at_i) [
          | inl left_i ↦
              let is : x ≡ b = sym (get_or_from_slice_get (x ∷ []) 0 x x refl) ∙ last_is right_j.place last right_j.is in
              subst (λ (y : A). same y a ≡ false) is (none_passes (same x) xs i a new left_i)
          | inr right_i ↦ absurd (omega (arith, right_i.number, right_j.number, last, before))
        ]
  ]
    where
      last_is : (k : ℕ) → k < length (x ∷ []) → slice_get (x ∷ []) k ≡ Some b → x ≡ b
      last_is zero h at = grind (arith, at)
      last_is (suc k) h at = absurd (omega (arith, h))

  different_with : (xs : List A) (x : A) → AreDifferent xs → AreDifferent (with_member same xs x)
  different_with xs x apart = by (list_any (same x) xs) refl
    where
      by : (b : Bool) → list_any (same x) xs ≡ b → AreDifferent (if b then xs else xs ++ x ∷ [])
      by true is = apart
      by false is = different_push xs x apart is

  pub different_members : (xs zs : List A) → AreDifferent xs → AreDifferent (fold (with_member same) xs zs)
  different_members xs [] apart = apart
  different_members xs (z ∷ zs) apart = different_members (with_member same xs z) zs (different_with xs z apart)

  pub different_none : AreDifferent []
  different_none i j x y before at_i at_j = absurd (grind (arith, at_i))

  -- the place of a member is its first
  pub first_is : (xs : List A) → AreDifferent xs → (n : ℕ) (x : A) → same x x ≡ true → slice_get xs n ≡ Some x → position_or_len (same x) xs ≡ n
  first_is xs apart n x itself at =
      let within = slice_get_within xs n x at in
      position_or_len_is (same x) xs n x (omega (arith, within))
      (λ k before. apart k n (get_or xs k x) x before (slice_get-get_or xs k x (omega (arith, within, before))) at)
      (λ _. ap (same x) (get_or_from_slice_get xs n x x at) ∙ itself)

  -- ---- a new member is one of the list that was added

  later : (z : A) (zs : List A) (x : A) → IsAt zs x → IsAt (z ∷ zs) x
  later z zs x at = record { number = suc at.number; is = at.is }

  pub new_member : (xs zs : List A) (i : ℕ) (x : A) → length xs ≤ i → slice_get (fold (with_member same) xs zs) i ≡ Some x → IsAt zs x
  new_member xs [] i x behind at = let within = slice_get_within xs i x at in absurd (omega (arith, within, behind))
  new_member xs (z ∷ zs) i x behind at = by (list_any (same z) xs) (new_member xs zs i x) (new_member (xs ++ z ∷ []) zs i x) at
    where
      by : (b : Bool) → (length xs ≤ i → slice_get (fold (with_member same) xs zs) i ≡ Some x → IsAt zs x)
          → (length (xs ++ z ∷ []) ≤ i → slice_get (fold (with_member same) (xs ++ z ∷ []) zs) i ≡ Some x → IsAt zs x)
          → slice_get (fold (with_member same) (if b then xs else xs ++ z ∷ []) zs) i ≡ Some x → IsAt (z ∷ zs) x
      by true old new at = later z zs x (old behind at)
      by false old new at = elim (cases_eq (length xs) i) [
        | inl same_place ↦
            let plain : length xs + 0 ≡ i = omega (arith, same_place) in
            let there : slice_get (xs ++ z ∷ []) i ≡ Some z = subst (λ (k : ℕ). slice_get (xs ++ z ∷ []) k ≡ Some z) plain (append_at_right xs (z ∷ []) 0 z refl) in
            let after = extended_at (xs ++ z ∷ []) (fold (with_member same) (xs ++ z ∷ []) zs) i z (members_extend (xs ++ z ∷ []) zs) there in
            record { number = 0; is = sym after ∙ at }
        | inr other ↦ later z zs x (new (omega (arith, length-append xs (z ∷ []), behind, other)) at)
      ]
