-- A walk over a list of parts: what is left decides what is asked of the whole.
use Rattle.std.proofs.Common.{◌≡◌, ℕ, suc, nat_lt, false, Some, ◌+◌, ◌<◌, ◌≤◌, Bool, true, ◌&&◌, List, [], ◌∷◌, ◌++◌, ℤ, length, get_or, drop, map, refl, sym, ap, subst, ◌∙◌, arith, add-one}
use Rattle.std.proofs.Math.Seq.{drop-cons}
use Rattle.std.proofs.lemmas.Bool.{and_parts, ltb-true, ltb-false}
use Rattle.std.proofs.lemmas.List.{drop_all}
use Rattle.std.proofs.lemmas.Option.{slice_get-get_or, slice_get_within}
use Rattle.std.specs.List.{fold, sum, list_all, slice_get}
use Rattle.std.specs.Option.{unwrap_or}
use Rattle.pas_program.specs.Each.{all_true, constants}
use Rattle.pas_program.specs.Tables.{Tables, holds_of}
use Rattle.pas_program.specs.Typed.{are_passed_to, is_passed_to, passed}
use Rattle.pas_program.specs.Types.{in_host}
use Rattle.pas_program.specs.declared.expr.Actual.{Actual}
use Rattle.pas_program.specs.declared.statement.Arm.{Arm}

pub drop_first : {A : Type 0} (xs : List A) → drop 0 xs ≡ xs
drop_first [] = refl
drop_first (x ∷ xs) = refl

-- the element at hand begins what is left
pub drop_next : {A : Type 0} (xs : List A) (k : ℕ) (x : A) → k < length xs → x ≡ get_or xs k x → drop k xs ≡ x ∷ drop (k + 1) xs
drop_next xs k x h e = rw add-one (drop-cons xs k x h ∙ ap (λ y. y ∷ drop (suc k) xs) (sym e))

-- the same where the element was looked up
pub drop_got : {A : Type 0} (xs : List A) (k : ℕ) (x : A) → slice_get xs k ≡ Some x → drop k xs ≡ x ∷ drop (k + 1) xs
drop_got xs k x e =
    let h = slice_get_within xs k x e in
    drop_next xs k x h (ap (λ o. unwrap_or o x) (sym e ∙ slice_get-get_or xs k x h))

-- after elements that were tested the others decide
all_after : {A : Type 0} (f : A → Bool) (xs ys : List A) → list_all f xs ≡ true → list_all f (xs ++ ys) ≡ list_all f ys
all_after f [] ys h = refl
all_after f (x ∷ xs) ys h = let p = and_parts (f x) _ h in ap (λ b. b && list_all f (xs ++ ys)) p.0 ∙ all_after f xs ys p.1

sum_from : (a : ℕ) (xs : List ℕ) → fold ◌+◌ a xs ≡ a + sum xs
sum_from a [] = omega arith
sum_from a (x ∷ xs) = let p = sum_from (a + x) xs in let q = sum_from (0 + x) xs in omega (arith, p, q)

pub sum-cons : (x : ℕ) (xs : List ℕ) → sum (x ∷ xs) ≡ x + sum xs
sum-cons x xs = let p = sum_from (0 + x) xs in omega (arith, p)

-- what is left where an element begins it
and_next : {A : Type 0} (f : A → Bool) (all : List A → Bool) → ((y : A) (ys : List A) → all (y ∷ ys) ≡ (f y && all ys)) → (xs : List A) (k : ℕ) (x : A) → k < length xs → x ≡ get_or xs k x → f x ≡ true → all (drop k xs) ≡ all (drop (k + 1) xs)
and_next f all step xs k x h e t = ap all (drop_next xs k x h e) ∙ step x _ ∙ ap (λ b. b && all (drop (k + 1) xs)) t

-- a list of which k elements were tested
pub list_all_next : {A : Type 0} (f : A → Bool) (xs : List A) (k : ℕ) (x : A) → k < length xs → x ≡ get_or xs k x → f x ≡ true → list_all f xs ≡ list_all f (drop k xs) → list_all f xs ≡ list_all f (drop (k + 1) xs)
list_all_next f xs k x h e t w = w ∙ and_next f (list_all f) (λ y ys. refl) xs k x h e t

pub list_all_last : {A : Type 0} (f : A → Bool) (xs : List A) (k : ℕ) → length xs ≤ k → list_all f xs ≡ list_all f (drop k xs) → list_all f xs ≡ true
list_all_last f xs k h w = w ∙ ap (list_all f) (drop_all k xs h)

-- the constants of the arms that are left
pub constants_next : (h : Bool) (step : Arm → Bool × List ℤ) (xs : List Arm) (k : ℕ) (x : Arm) → k < length xs → x ≡ get_or xs k x → list_all (in_host h) (step x).1 ≡ true
    → list_all (in_host h) (constants (map step xs)) ≡ list_all (in_host h) (constants (map step (drop k xs)))
    → list_all (in_host h) (constants (map step xs)) ≡ list_all (in_host h) (constants (map step (drop (k + 1) xs)))
constants_next h step xs k x lt e t w =
    w ∙ ap (λ ys. list_all (in_host h) (constants (map step ys))) (drop_next xs k x lt e) ∙ all_after (in_host h) (step x).1 (constants (map step (drop (k + 1) xs))) t

-- actuals that pass up to k, with the formals that are left
pub passed_next : (t : Tables) (actuals : List Actual) (formals : List ℕ) (k : ℕ) (a : Actual) (f : ℕ) → k < length actuals → a ≡ get_or actuals k a → slice_get formals k ≡ Some f
    → holds_of (is_passed_to t (passed t a)) (t.var_at f) ≡ true
    → are_passed_to t (map (passed t) (drop k actuals)) (drop k formals) ≡ are_passed_to t (map (passed t) (drop (k + 1) actuals)) (drop (k + 1) formals)
passed_next t actuals formals k a f h e g p =
    ap (λ ys. are_passed_to t (map (passed t) ys) (drop k formals)) (drop_next actuals k a h e)
    ∙ ap (λ ys. are_passed_to t (map (passed t) (a ∷ drop (k + 1) actuals)) ys) (drop_got formals k f g)
    ∙ ap (λ b. b && are_passed_to t (map (passed t) (drop (k + 1) actuals)) (drop (k + 1) formals)) p

-- Of k parts of a list two things were tested, and their sizes were taken off.
pub record Walked {A : Type 0} (f g : A → Bool) (size : A → ℕ) (xs : List A) (k before left : ℕ) : Type 0 where
  pub first : all_true (map f xs) ≡ all_true (map f (drop k xs))
  pub second : all_true (map g xs) ≡ all_true (map g (drop k xs))
  pub spent : sum (map size xs) + left ≤ before + sum (map size (drop k xs))

pub record Passes {A : Type 0} (f g : A → Bool) (size : A → ℕ) (xs : List A) (before left : ℕ) : Type 0 where
  pub first : all_true (map f xs) ≡ true
  pub second : all_true (map g xs) ≡ true
  pub spent : sum (map size xs) + left ≤ before

module _ {A : Type 0} (f g : A → Bool) (size : A → ℕ) (xs : List A) where
  pub walked_first : (before : ℕ) → Walked f g size xs 0 before before
  walked_first before = record {
    first = ap (λ ys. all_true (map f ys)) (sym (drop_first xs));
    second = ap (λ ys. all_true (map g ys)) (sym (drop_first xs));
    spent = let e = ap (λ ys. sum (map size ys)) (drop_first xs) in omega (arith, e);
  }

  pub walked_next : (k before left after : ℕ) (x : A) → k < length xs → x ≡ get_or xs k x → f x ≡ true → g x ≡ true → size x + after ≤ left → Walked f g size xs k before left → Walked f g size xs (k + 1) before after
  walked_next k before left after x h e p q s w = record {
    first = w.first ∙ and_next f (λ ys. all_true (map f ys)) (λ y ys. refl) xs k x h e p;
    second = w.second ∙ and_next g (λ ys. all_true (map g ys)) (λ y ys. refl) xs k x h e q;
    spent = let a = w.spent in let d : sum (map size (drop k xs)) ≡ size x + sum (map size (drop (k + 1) xs)) = ap (λ ys. sum (map size ys)) (drop_next xs k x h e) ∙ sum-cons (size x) (map size (drop (k + 1) xs)) in omega (arith, a, d, s);
  }

  pub walked_last : (k before left : ℕ) → length xs ≤ k → Walked f g size xs k before left → Passes f g size xs before left
  walked_last k before left h w = record {
    first = w.first ∙ ap (λ ys. all_true (map f ys)) (drop_all k xs h);
    second = w.second ∙ ap (λ ys. all_true (map g ys)) (drop_all k xs h);
    spent = let a = w.spent in let d : sum (map size (drop k xs)) ≡ 0 = ap (λ ys. sum (map size ys)) (drop_all k xs h) in omega (arith, a, d);
  }

-- the first parts of pairs
pub firsts : {A B : Type 0} (step : A → Bool × B) (xs : List A) → all_true (map (λ (a : Bool × B). a.0) (map step xs)) ≡ all_true (map (λ x. (step x).0) xs)
firsts step [] = refl
firsts step (x ∷ xs) = ap (λ b. (step x).0 && b) (firsts step xs)

-- ---- what holds of each element up to k

split_next : {A : Type 0} (P : ℕ → A → Type 0) (xs : List A) (k : ℕ) (x : A) → slice_get xs k ≡ Some x → P k x → ((j : ℕ) (y : A) → j < k → slice_get xs j ≡ Some y → P j y)
    → (j : ℕ) (y : A) (b : Bool) → nat_lt j k ≡ b → j < k + 1 → slice_get xs j ≡ Some y → P j y
split_next P xs k x g p before j y true e h i = before j y (ltb-true j k e) i
split_next P xs k x g p before j y false e h i =
    let same : k ≡ j = let l = ltb-false j k e in omega (arith, l) in
    let value : x ≡ y = ap (λ o. unwrap_or o x) (sym g ∙ ap (slice_get xs) same ∙ i) in
    subst (λ n. P n y) same (subst (P k) value p)

pub each_next : {A : Type 0} (P : ℕ → A → Type 0) (xs : List A) (k : ℕ) (x : A) → k < length xs → x ≡ get_or xs k x → P k x → ((j : ℕ) (y : A) → j < k → slice_get xs j ≡ Some y → P j y) → (j : ℕ) (y : A) → j < k + 1 → slice_get xs j ≡ Some y → P j y
each_next P xs k x h e p before j y = split_next P xs k x (slice_get-get_or xs k x h ∙ ap Some (sym e)) p before j y (nat_lt j k) refl

pub each_got : {A : Type 0} (P : ℕ → A → Type 0) (xs : List A) (k : ℕ) (x : A) → slice_get xs k ≡ Some x → P k x → ((j : ℕ) (y : A) → j < k → slice_get xs j ≡ Some y → P j y) → (j : ℕ) (y : A) → j < k + 1 → slice_get xs j ≡ Some y → P j y
each_got P xs k x g p before j y = split_next P xs k x g p before j y (nat_lt j k) refl

pub each_last : {A : Type 0} (P : ℕ → A → Type 0) (xs : List A) (k : ℕ) → length xs ≤ k → ((j : ℕ) (y : A) → j < k → slice_get xs j ≡ Some y → P j y) → (j : ℕ) (y : A) → slice_get xs j ≡ Some y → P j y
each_last P xs k h before j y i = let w = slice_get_within xs j y i in before j y (omega (arith, w, h)) i

-- ---- sizes alone

abbrev pub Spent : {A : Type 0} → (A → ℕ) → List A → ℕ → ℕ → ℕ → Type 0
Spent size xs k before left = sum (map size xs) + left ≤ before + sum (map size (drop k xs))

pub spent_first : {A : Type 0} (size : A → ℕ) (xs : List A) (before : ℕ) → Spent size xs 0 before before
spent_first size xs before = let e = ap (λ ys. sum (map size ys)) (drop_first xs) in omega (arith, e)

pub spent_next : {A : Type 0} (size : A → ℕ) (xs : List A) (k before left after : ℕ) (x : A) → k < length xs → x ≡ get_or xs k x → size x + after ≤ left → Spent size xs k before left → Spent size xs (k + 1) before after
spent_next size xs k before left after x h e s w =
    let d : sum (map size (drop k xs)) ≡ size x + sum (map size (drop (k + 1) xs)) = ap (λ ys. sum (map size ys)) (drop_next xs k x h e) ∙ sum-cons (size x) (map size (drop (k + 1) xs)) in
    omega (arith, w, d, s)

pub spent_last : {A : Type 0} (size : A → ℕ) (xs : List A) (k before left : ℕ) → length xs ≤ k → Spent size xs k before left → sum (map size xs) + left ≤ before
spent_last size xs k before left h w = let d : sum (map size (drop k xs)) ≡ 0 = ap (λ ys. sum (map size ys)) (drop_all k xs h) in omega (arith, w, d)
