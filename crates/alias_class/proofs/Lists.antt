-- Lists of numbers without repeats, and the members of filtered lists.
use Rattle.std.proofs.Common.{◌≡◌, ℕ, zero, suc, ◌+◌, ◌<◌, ◌≤◌, Bool, true, false, ◌&&◌, ◌||◌, not, cond, List, [], ◌∷◌, get_or, length, map, Option, Some, None, nat_eq, nat_lt, refl, sym, ap, ◌∙◌, subst, arith}
use Rattle.std.specs.Cmp.{nat_eq_equiv}
use Rattle.std.specs.List.{All, AllByRecursion, IsDistinct, count_by, filter, list_all, list_any}
use Rattle.std.specs.Option.{option_map}
use Rattle.std.specs.Prelude.{slice_get, if◌then◌else◌}
use Rattle.std.proofs.lemmas.Bool.Decides.{nat_tests}
use Rattle.std.proofs.lemmas.List.Elements.{All-cons, All-head, All-nil, All-tail}
use Rattle.std.proofs.lemmas.List.Sums.{length-filter}
use Rattle.std.proofs.lemmas.Map.Made.{length-le_from_is_member}
use Rattle.std.proofs.lemmas.Map.Views.{any-filter_same}
use Rattle.std.proofs.lemmas.Option.{slice_get-map, slice_get_read}
use Rattle.pas_program.specs.Scopes.{contains, is_distinct}
use Rattle.control_points.specs.Chart.{numbers_from}

pub and_left : (a b : Bool) → (a && b) ≡ true → a ≡ true
and_left true b e = refl
and_left false b e = e

pub and_right : (a b : Bool) → (a && b) ≡ true → b ≡ true
and_right true b e = e
and_right false b e = absurd (grind arith)

pub and_both : (a b : Bool) → a ≡ true → b ≡ true → (a && b) ≡ true
and_both true b e f = f
and_both false b e f = e

pub not_true : (a : Bool) → not a ≡ true → a ≡ false
not_true true e = sym e
not_true false e = refl

pub or_false : (a b : Bool) → (a || b) ≡ false → (a ≡ false) × (b ≡ false)
or_false true b e = absurd (grind arith)
or_false false b e = (refl, e)

none_equal : (n : ℕ) (ns : List ℕ) → contains n ns ≡ false → AllByRecursion (λ m. nat_eq n m ≡ false) ns
none_equal n [] e = tt
none_equal n (m ∷ ns) e = let both = or_false (nat_eq n m) (contains n ns) e in (both.0, none_equal n ns both.1)

-- numbers without repeats, as std knows them
pub distinct : (ns : List ℕ) → is_distinct ns ≡ true → IsDistinct nat_eq ns
unfolding IsDistinct
distinct [] e = tt
distinct (n ∷ ns) e = (none_equal n ns (not_true (contains n ns) (and_left (not (contains n ns)) (is_distinct ns) e)), distinct ns (and_right (not (contains n ns)) (is_distinct ns) e))

-- ---- filters

-- a number in a filtered list passes, and is in the list
pub contains-filter : (p : ℕ → Bool) (n : ℕ) (ns : List ℕ) → contains n (filter p ns) ≡ (p n && contains n ns)
contains-filter p n ns = any-filter_same (nat_eq n) p (p n) (λ k e. let same : n ≡ k = grind (arith, nat_tests) in ap p (sym same)) ns

pub is_distinct-filter : (p : ℕ → Bool) (ns : List ℕ) → is_distinct ns ≡ true → is_distinct (filter p ns) ≡ true
is_distinct-filter p [] e = refl
is_distinct-filter p (n ∷ ns) e =
    by (p n) (contains-filter p n ns) (not_true (contains n ns) (and_left (not (contains n ns)) (is_distinct ns) e)) (is_distinct-filter p ns (and_right (not (contains n ns)) (is_distinct ns) e))
  where
    by : (b : Bool) → contains n (filter p ns) ≡ (b && contains n ns) → contains n ns ≡ false → is_distinct (filter p ns) ≡ true → is_distinct (cond b (n ∷ filter p ns) (filter p ns)) ≡ true
    by true members out rest = grind arith
    by false members out rest = rest

-- what passes and what does not is all
pub length-parts : (p : ℕ → Bool) (ns : List ℕ) → length (filter (λ n. not (p n)) ns) + length (filter p ns) ≡ length ns
length-parts p [] = refl
length-parts p (n ∷ ns) = by (p n) (length-parts p ns)
  where
    by : (b : Bool) → length (filter (λ n. not (p n)) ns) + length (filter p ns) ≡ length ns
        → length (cond (not b) (n ∷ filter (λ n. not (p n)) ns) (filter (λ n. not (p n)) ns)) + length (cond b (n ∷ filter p ns) (filter p ns)) ≡ suc (length ns)
    by true rest = omega arith
    by false rest = omega arith

-- numbers without repeats that are in another list are at most as many
pub length-le : (ns ms : List ℕ) → is_distinct ns ≡ true → ((n : ℕ) → contains n ns ≡ true → contains n ms ≡ true) → length ns ≤ length ms
length-le ns ms d within = length-le_from_is_member nat_eq_equiv ns ms (distinct ns d) within

-- ---- the places of what passes a test

filtered : {A : Type 0} (first : ℕ) (test : A → Bool) (xs : List A) → length (numbers_from first test xs) ≡ length (filter test xs)
filtered first test [] = refl
filtered first test (x ∷ xs) = by (test x) (filtered (suc first) test xs)
  where
    by : (b : Bool) → length (numbers_from (suc first) test xs) ≡ length (filter test xs)
        → length (if b then first ∷ numbers_from (suc first) test xs else numbers_from (suc first) test xs) ≡ length (cond b (x ∷ filter test xs) (filter test xs))
    by true e = ap suc e
    by false e = e

pub length-numbers_from : {A : Type 0} (first : ℕ) (test : A → Bool) (xs : List A) → length (numbers_from first test xs) ≡ count_by test xs
length-numbers_from first test xs = filtered first test xs ∙ length-filter test xs

pub contains-numbers_from : {A : Type 0} (first : ℕ) (test : A → Bool) (xs : List A) (k : ℕ) (x : A) → slice_get xs k ≡ Some x → test x ≡ true → contains (first + k) (numbers_from first test xs) ≡ true
contains-numbers_from first test [] k x e h = absurd (grind arith)
contains-numbers_from {A} first test (y ∷ xs) zero x e h = by (test y) (let same : y ≡ x = grind arith in ap test same ∙ h)
  where
    by : (b : Bool) → b ≡ true → contains (first + 0) (if b then first ∷ numbers_from (suc first) test xs else numbers_from (suc first) test xs) ≡ true
    by true passes = grind (arith, nat_tests)
    by false passes = absurd (grind arith)
contains-numbers_from {A} first test (y ∷ xs) (suc k) x e h =
    let further : contains (suc first + k) (numbers_from (suc first) test xs) ≡ true = contains-numbers_from (suc first) test xs k x e h in
    let same : first + suc k ≡ suc first + k = omega arith in
    rw same (by (test y) further)
  where
    by : (b : Bool) → contains (suc first + k) (numbers_from (suc first) test xs) ≡ true → contains (suc first + k) (if b then first ∷ numbers_from (suc first) test xs else numbers_from (suc first) test xs) ≡ true
    by true further = later (nat_eq (suc first + k) first) further
      where
        later : (b : Bool) → contains (suc first + k) (numbers_from (suc first) test xs) ≡ true → (b || contains (suc first + k) (numbers_from (suc first) test xs)) ≡ true
        later true e = refl
        later false e = e
    by false further = further

-- ---- what a list's numbers pass

pub or_right : (a b : Bool) → a ≡ false → (a || b) ≡ true → b ≡ true
or_right true b e h = absurd (grind arith)
or_right false b e h = h

pub all_of : (q : ℕ → Bool) (n : ℕ) (ns : List ℕ) → list_all q ns ≡ true → contains n ns ≡ true → q n ≡ true
all_of q n [] all e = absurd (grind arith)
all_of q n (m ∷ ns) all e = by (nat_eq n m) refl (λ other. all_of q n ns (and_right (q m) (list_all q ns) all) (or_right (nat_eq n m) (contains n ns) other e))
  where
    by : (b : Bool) → nat_eq n m ≡ b → (nat_eq n m ≡ false → q n ≡ true) → q n ≡ true
    by true same rest = let equal : n ≡ m = grind (arith, nat_tests) in ap q equal ∙ and_left (q m) (list_all q ns) all
    by false other rest = rest other

pub found : {A : Type 0} (xs : List A) (k : ℕ) → k < length xs → (x : A) × (slice_get xs k ≡ Some x)
found [] k h = absurd (omega arith)
found (x ∷ xs) zero h = (x, refl)
found (x ∷ xs) (suc k) h = found xs k (omega arith)

-- numbers that pass the test are below the bound
pub all_below : (bound : ℕ) (ns : List ℕ) → list_all (λ v. nat_lt v bound) ns ≡ true → All (λ v. v < bound) ns
all_below bound [] e = All-nil (λ v. v < bound)
all_below bound (n ∷ ns) e =
    let here = and_left (nat_lt n bound) _ e in
    All-cons (λ v. v < bound) n ns (grind (arith, nat_tests)) (all_below bound ns (and_right (nat_lt n bound) _ e))

pub and_false : (a : Bool) → (a && false) ≡ false
and_false true = refl
and_false false = refl

-- a member is below what all are below
pub member_below : (bound : ℕ) (ns : List ℕ) → All (λ v. v < bound) ns → (n : ℕ) → contains n ns ≡ true → n < bound
member_below bound [] all n e = absurd (grind arith)
member_below bound (m ∷ ns) all n e = by (nat_eq n m) refl (λ other. member_below bound ns (All-tail (λ v. v < bound) m ns all) n (or_right (nat_eq n m) (contains n ns) other e))
  where
    by : (b : Bool) → nat_eq n m ≡ b → (nat_eq n m ≡ false → n < bound) → n < bound
    by true same rest = let equal : n ≡ m = grind (arith, nat_tests) in let here = All-head (λ v. v < bound) m ns all in omega arith
    by false other rest = rest other

-- the element that a loop reads of a list
pub listed_at : {A : Type 0} (xs ys : List A) (k : ℕ) (x : A) → xs ≡ ys → k < length xs → x ≡ get_or xs k x → slice_get ys k ≡ Some x
listed_at {A} xs ys k x same h is = subst (λ (zs : List A). slice_get zs k ≡ Some x) same (slice_get_read xs (length xs) k x refl h is)

-- the same of a list that was made from another
pub mapped_at : {A B : Type 0} (f : A → B) (ys : List A) (xs : List B) (k : ℕ) (x : B) → xs ≡ map f ys → k < length xs → x ≡ get_or xs k x → (y : A) × (slice_get ys k ≡ Some y) × (x ≡ f y)
mapped_at {A} {B} f ys xs k x same h is = by (slice_get ys k) refl (sym (slice_get-map f ys k) ∙ listed_at xs (map f ys) k x same h is)
  where
    by : (o : Option A) → slice_get ys k ≡ o → option_map f (slice_get ys k) ≡ Some x → (y : A) × (slice_get ys k ≡ Some y) × (x ≡ f y)
    by None e at = absurd (let none : None ≡ Some x = sym (ap (option_map f) e) ∙ at in grind arith)
    by (Some y) e at = let some : Some (f y) ≡ Some x = sym (ap (option_map f) e) ∙ at in (y, e, grind arith)

-- what stands at a place of a list is in it
pub member_at : (ns : List ℕ) (k : ℕ) → k < length ns → contains (get_or ns k 0) ns ≡ true
member_at [] k h = absurd (omega arith)
member_at (n ∷ ns) zero h = grind (arith, nat_tests)
member_at (n ∷ ns) (suc k) h = later (nat_eq (get_or ns k 0) n) (member_at ns k (omega arith))
  where
    later : (b : Bool) → contains (get_or ns k 0) ns ≡ true → (b || contains (get_or ns k 0) ns) ≡ true
    later true e = refl
    later false e = e

-- what stands at a place of a list that was made from another
pub map_at : {A B : Type 0} (f : A → B) (xs : List A) (k : ℕ) (d : A) (e : B) → k < length xs → get_or (map f xs) k e ≡ f (get_or xs k d)
map_at f [] k d e h = absurd (omega arith)
map_at f (x ∷ xs) zero d e h = refl
map_at f (x ∷ xs) (suc k) d e h = map_at f xs k d e (omega arith)

pub any_mapped : {A B : Type 0} (f : A → B) (test : B → Bool) (xs : List A) → list_any test (map f xs) ≡ list_any (λ x. test (f x)) xs
any_mapped f test [] = refl
any_mapped f test (x ∷ xs) = ap (λ (b : Bool). test (f x) || b) (any_mapped f test xs)
