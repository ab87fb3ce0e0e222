-- The classes of a table by their keys.
use Rattle.std.proofs.Common.{◌≡◌, ◌≢◌, ℕ, zero, suc, ◌+◌, ◌-◌, ◌<◌, ◌≤◌, Bool, true, false, List, [], ◌∷◌, ◌++◌, length, get_or, Option, Some, None, nat_eq, refl, sym, ap, ◌∙◌, subst, arith}
use Rattle.std.specs.List.{fold}
use Rattle.std.specs.Option.{IsSome, option_map, unwrap_or}
use Rattle.std.specs.Prelude.{slice_get, if◌then◌else◌}
use Rattle.std.proofs.lemmas.Bool.Decides.{nat_tests}
use Rattle.std.proofs.lemmas.Grind.{common_steps}
use Rattle.std.proofs.lemmas.List.{length-map}
use Rattle.std.proofs.lemmas.List.Sums.{fold-append}
use Rattle.std.proofs.lemmas.Option.{get_or_from_slice_get, slice_get-map}
use Rattle.alias_class.specs.declared.classes.Row.{Row}
use Rattle.alias_class.specs.declared.key.Key.{Key}
use Rattle.alias_class.specs.declared.outline.Outline.{Outline}
use Rattle.alias_class.specs.Cells.{around, routine_of}
use Rattle.alias_class.specs.Classes.{Class, Entry, class_at}
use Rattle.alias_class.specs.Tables.{IsKept, class_of_key, classes_of, row_of, with_key}
use Rattle.alias_class.proofs.Lists.{found}

-- ---- lists that grow at their end

pub get_before : {A : Type 0} (xs ys : List A) (k : ℕ) → k < length xs → slice_get (xs ++ ys) k ≡ slice_get xs k
get_before [] ys k h = absurd (omega arith)
get_before (x ∷ xs) ys zero h = refl
get_before (x ∷ xs) ys (suc k) h = get_before xs ys k (omega arith)

pub get_end : {A : Type 0} (xs : List A) (x : A) → slice_get (xs ++ x ∷ []) (length xs) ≡ Some x
get_end [] x = refl
get_end (y ∷ xs) x = get_end xs x

-- ---- classes by keys

length-with_key : (classes : List Class) (key : Key) → length (with_key classes key) ≡ length classes + 1
length-with_key classes key = grind (arith, common_steps)

-- classes that are there stay
pub stays : (classes : List Class) (keys : List Key) (k : ℕ) → k < length classes → slice_get (fold with_key classes keys) k ≡ slice_get classes k
stays classes [] k h = refl
stays classes (key ∷ keys) k h = stays (with_key classes key) keys k (let long = length-with_key classes key in omega arith) ∙ get_before classes (class_of_key classes key ∷ []) k h

same_parent : (classes : List Class) (keys : List Key) (key : Key) → key.parent < length classes → class_of_key classes key ≡ class_of_key (fold with_key classes keys) key
same_parent classes keys key h =
    ap (λ (o : Option Class). record { routine = key.routine; site = key.site; bindings = key.bindings.items } ∷ unwrap_or o []) (sym (stays classes keys key.parent h))

pub behind : (classes : List Class) (keys : List Key) (i : ℕ) (key : Key) → slice_get keys i ≡ Some key → key.parent < length classes + i → slice_get (fold with_key classes keys) (length classes + i) ≡ Some (class_of_key (fold with_key classes keys) key)
behind classes [] i key e h = absurd (grind arith)
behind classes (k ∷ keys) zero key e h =
    let same : k ≡ key = grind arith in
    let at : length classes + 0 ≡ length classes = omega arith in
    let kept : slice_get (fold with_key (with_key classes k) keys) (length classes) ≡ slice_get (with_key classes k) (length classes) = stays (with_key classes k) keys (length classes) (let long = length-with_key classes k in omega arith) in
    let put : slice_get (with_key classes k) (length classes) ≡ Some (class_of_key classes k) = get_end classes (class_of_key classes k) in
    let parent : k.parent < length classes = (let less : key.parent < length classes = omega arith in subst (λ (x : Key). x.parent < length classes) (sym same) less) in
    ap (slice_get (fold with_key (with_key classes k) keys)) at ∙ kept ∙ put ∙ ap Some (same_parent classes (k ∷ keys) k parent) ∙ ap (λ (x : Key). Some (class_of_key (fold with_key (with_key classes k) keys) x)) same
behind classes (k ∷ keys) (suc i) key e h =
    let long = length-with_key classes k in
    let at : length classes + suc i ≡ length (with_key classes k) + i = omega arith in
    ap (slice_get (fold with_key (with_key classes k) keys)) at ∙ behind (with_key classes k) keys i key e (omega arith)

long_fold : (classes : List Class) (keys : List Key) → length (fold with_key classes keys) ≡ length classes + length keys
long_fold classes [] = omega arith
long_fold classes (key ∷ keys) = let rest = long_fold (with_key classes key) keys in let here = length-with_key classes key in omega arith

pub length-classes_of : (keys : List Key) → length (classes_of keys) ≡ length keys + 1
length-classes_of keys = let long = long_fold ([] ∷ []) keys in omega arith

pub classes_of-push : (keys : List Key) (key : Key) → classes_of (keys ++ key ∷ []) ≡ with_key (classes_of keys) key
classes_of-push keys key = fold-append with_key ([] ∷ []) keys (key ∷ [])

pub first_class : (keys : List Key) → class_at (classes_of keys) 0 ≡ []
first_class keys = ap (λ (o : Option Class). unwrap_or o []) (stays ([] ∷ []) keys 0 (omega arith))

pub later_class : (keys : List Key) (i : ℕ) (key : Key) → slice_get keys i ≡ Some key → key.parent ≤ i → class_at (classes_of keys) (suc i) ≡ class_of_key (classes_of keys) key
later_class keys i key e h =
    let at : 1 + i ≡ suc i = omega arith in
    ap (λ (o : Option Class). unwrap_or o []) (sym (ap (slice_get (classes_of keys)) at) ∙ behind ([] ∷ []) keys i key e (omega arith))

-- ---- a table that is kept

module _ (o : Outline) (keys : List Key) (rows : List Row) (kept : IsKept o keys rows) where
  pub many_rows : length rows ≡ length (classes_of keys)
  many_rows = ap length kept.rows ∙ length-map (classes_of keys) (row_of o)

  -- the row of a class
  pub row_is : (n : ℕ) (d : Row) → n < length (classes_of keys) → get_or rows n d ≡ row_of o (class_at (classes_of keys) n)
  row_is n d h =
      let c = found (classes_of keys) n h in
      let at : slice_get rows n ≡ Some (row_of o c.0) = ap (λ (xs : List Row). slice_get xs n) kept.rows ∙ slice_get-map (row_of o) (classes_of keys) n ∙ ap (option_map (row_of o)) c.1 in
      get_or_from_slice_get rows n (row_of o c.0) d at ∙ ap (λ (x : Option Class). row_of o (unwrap_or x [])) (sym c.1)

  -- the key of a class that isn't the first
  pub key_of : (n : ℕ) → 0 < n → n < length (classes_of keys) → (key : Key) × (slice_get keys (n - 1) ≡ Some key) × (key.parent < n) × (class_at (classes_of keys) n ≡ class_of_key (classes_of keys) key)
  key_of zero some h = absurd (omega arith)
  key_of (suc i) some h =
      let long = length-classes_of keys in
      let at : suc i - 1 ≡ i = omega arith in
      let key = found keys i (omega arith) in
      let before = kept.parents i key.0 key.1 in
      (key.0, ap (slice_get keys) at ∙ key.1, omega arith, later_class keys i key.0 key.1 before)

  -- ---- steps outwards

  -- a class that is not of the routine, where one around it is
  pub around_step : (n r : ℕ) → n < length (classes_of keys) → routine_of o (class_at (classes_of keys) n) ≢ r → IsSome (around o (class_at (classes_of keys) n) r)
      → (0 < n) × ((key : Key) → slice_get keys (n - 1) ≡ Some key → (key.parent < n) × (around o (class_at (classes_of keys) key.parent) r ≡ around o (class_at (classes_of keys) n) r))
  around_step zero r h other seen = absurd (by (nat_eq o.main r) refl (subst (λ (c : Class). IsSome (around o c r)) (first_class keys) seen))
    where
      main_other : o.main ≢ r
      main_other = subst (λ (c : Class). routine_of o c ≢ r) (first_class keys) other

      by : (b : Bool) → nat_eq o.main r ≡ b → IsSome {T = Class} (if b then Some [] else None) → ⊥
      by true same some = let equal : o.main ≡ r = grind (arith, nat_tests) in main_other equal
      by false same some = grind arith
  around_step (suc i) r h other seen = (omega arith, λ key e. step key (ap (slice_get keys) (let at : i ≡ suc i - 1 = omega arith in at) ∙ e))
    where
      outwards : (c : Class) (e : Entry) (parent : Class) → c ≡ e ∷ parent → routine_of o c ≢ r → around o parent r ≡ around o c r
      outwards c e parent same other = by (nat_eq e.routine r) refl ∙ ap (λ (c : Class). around o c r) (sym same)
        where
          by : (b : Bool) → nat_eq e.routine r ≡ b → around o parent r ≡ (if b then Some (e ∷ parent) else around o parent r)
          by true here = absurd (let equal : e.routine ≡ r = grind (arith, nat_tests) in other (ap (routine_of o) same ∙ equal))
          by false there = refl

      step : (key : Key) → slice_get keys i ≡ Some key → (key.parent < suc i) × (around o (class_at (classes_of keys) key.parent) r ≡ around o (class_at (classes_of keys) (suc i)) r)
      step key e =
          let before = kept.parents i key e in
          (omega arith, outwards (class_at (classes_of keys) (suc i)) (record { routine = key.routine; site = key.site; bindings = key.bindings.items }) (class_at (classes_of keys) key.parent) (later_class keys i key e before) other)
