-- On the list of types: what a type that stands in it may rely on.
use Rattle.std.proofs.Common.{◌≡◌, ℕ, zero, suc, ◌+◌, ◌*◌, ◌<◌, ◌≤◌, ℤ, Bool, true, false, ◌&&◌, List, [], ◌∷◌, ◌++◌, length, refl, sym, ap, subst, ◌∙◌, arith, mul_assoc, Option, Some, None, nat_lt, nat_le, inl, inr}
use Rattle.std.proofs.lemmas.Bool.{and_parts, and_from, ltb-true, leb-true, true≢false}
use Rattle.std.proofs.lemmas.Option.{none-some, slice_get_within, slice_get-get_or, slice_get_cases}
use Rattle.std.proofs.Math.Nat.{mul-pos, mul-le-mul_left}
use Rattle.std.specs.List.{slice_get}
use Rattle.std.specs.Prelude.{int_le, unsigned_abs, ◌-ℤ◌, pos, neg_ℤ, ◌^◌}
use Rattle.std.proofs.lemmas.Int.{ints}
use Rattle.pas_program.specs.declared.type_def.TypeDef.{TypeDef}
use Rattle.pas_program.specs.declared.type_def.TypeDef.TheVariants.{Scalar, Array}
use Rattle.pas_program.specs.Types.{TypesFit, type_fits, in_host, is_scalar, count_values, Layout, times, layout, layout_of, layout_within, most_elements, maxint}

-- what an array type rests on
pub record ArrayFits (types : List TypeDef) (t index element : ℕ) : Type 0 where
  pub index_before : index < t
  pub element_before : element < t
  pub index_scalar : is_scalar (slice_get types index) ≡ true
  pub few : count_values (slice_get types index) * (layout types element).count ≤ most_elements

pub array_fits : (types : List TypeDef) (t index element : ℕ) → TypesFit types → slice_get types t ≡ Some (Array index element) → ArrayFits types t index element
array_fits types t index element fits e =
    let all = fits.each t (Array index element) e in
    let p = and_parts (nat_lt index t && nat_lt element t) _ all in
    let q = and_parts (nat_lt index t) _ p.0 in
    let r = and_parts (is_scalar (slice_get types index)) _ p.1 in
    record { index_before = ltb-true index t q.0; element_before = ltb-true element t q.1; index_scalar = r.0; few = leb-true _ _ r.1 }

-- the same of a scalar type
pub record ScalarFits (boolean : Bool) (lo hi : ℤ) : Type 0 where
  pub lo_in_host : in_host boolean lo ≡ true
  pub hi_in_host : in_host boolean hi ≡ true
  pub in_order : int_le lo hi ≡ true

pub scalar_fits : (types : List TypeDef) (t : ℕ) (boolean : Bool) (lo hi : ℤ) → TypesFit types → slice_get types t ≡ Some (Scalar boolean lo hi) → ScalarFits boolean lo hi
scalar_fits types t boolean lo hi fits e =
    let p = and_parts (in_host boolean lo) _ (fits.each t (Scalar boolean lo hi) e) in
    let q = and_parts (in_host boolean hi) _ p.1 in
    record { lo_in_host = p.0; hi_in_host = q.0; in_order = q.1 }

same_step : (types : List TypeDef) (n m t : ℕ) → TypesFit types → (o : Option TypeDef) → slice_get types t ≡ o → ((e : ℕ) → e < t → layout_within n types e ≡ layout_within m types e)
    → layout_of types (λ e. layout_within n types e) o ≡ layout_of types (λ e. layout_within m types e) o
same_step types n m t fits None e same = refl
same_step types n m t fits (Some (Scalar boolean lo hi)) e same = refl
same_step types n m t fits (Some (Array index element)) e same =
    ap (times (count_values (slice_get types index))) (same element (array_fits types t index element fits e).element_before)

-- enough steps come to the same
pub layout_steps : (types : List TypeDef) → TypesFit types → (n m t : ℕ) → t < n → t < m → layout_within n types t ≡ layout_within m types t
layout_steps types fits zero m t h k = absurd (omega arith)
layout_steps types fits (suc n) zero t h k = absurd (omega arith)
layout_steps types fits (suc n) (suc m) t h k =
    same_step types n m t fits (slice_get types t) refl (λ e b. layout_steps types fits n m e (omega arith) (omega arith))

-- an array has its element's layout once for each value of its index
pub layout-Array : (types : List TypeDef) (t index element : ℕ) → TypesFit types → slice_get types t ≡ Some (Array index element) → layout types t ≡ times (count_values (slice_get types index)) (layout types element)
unfolding layout
layout-Array types t index element fits e =
    ap (layout_of types (λ n. layout_within t types n)) e
    ∙ ap (times (count_values (slice_get types index))) (layout_steps types fits t (suc element) element (array_fits types t index element fits e).element_before (omega arith))

pub layout-Scalar : (types : List TypeDef) (t : ℕ) (boolean : Bool) (lo hi : ℤ) → slice_get types t ≡ Some (Scalar boolean lo hi) → layout types t ≡ record { count = 1; lo = lo; hi = hi }
unfolding layout
layout-Scalar types t boolean lo hi e = ap (layout_of types (λ n. layout_within t types n)) e

-- a type has a scalar at least
some_values : (o : Option TypeDef) → is_scalar o ≡ true → 0 < count_values o
some_values None e = absurd (true≢false (sym e))
some_values (Some (Scalar boolean lo hi)) e = omega arith
some_values (Some (Array index element)) e = absurd (true≢false (sym e))

some_parts_step : (types : List TypeDef) (n t : ℕ) → TypesFit types → (o : Option TypeDef) → slice_get types t ≡ o → t < length types → ((e : ℕ) → e < t → 0 < (layout_within n types e).count)
    → 0 < (layout_of types (λ e. layout_within n types e) o).count
some_parts_step types n t fits None e h below = absurd (none-some _ (sym e ∙ slice_get-get_or types t (Array 0 0) h))
some_parts_step types n t fits (Some (Scalar boolean lo hi)) e h below = omega arith
some_parts_step types n t fits (Some (Array index element)) e h below =
    let a = array_fits types t index element fits e in
    mul-pos (some_values (slice_get types index) a.index_scalar) (below element a.element_before)

some_parts : (types : List TypeDef) → TypesFit types → (n t : ℕ) → t < n → t < length types → 0 < (layout_within n types t).count
some_parts types fits zero t h k = absurd (omega arith)
some_parts types fits (suc n) t h k = some_parts_step types n t fits (slice_get types t) refl k (λ e b. some_parts types fits n e (omega arith) (omega arith))

pub layout_some : (types : List TypeDef) (t : ℕ) → TypesFit types → t < length types → 0 < (layout types t).count
unfolding layout
layout_some types t fits h = some_parts types fits (suc t) t (omega arith) h

-- and not too many
few_step : (types : List TypeDef) (t : ℕ) → TypesFit types → (o : Option TypeDef) → slice_get types t ≡ o → (layout types t).count ≤ most_elements
unfolding layout
few_step types t fits None e = omega (arith, ap (λ (l : Layout). l.count) (ap (layout_of types (λ n. layout_within t types n)) e))
few_step types t fits (Some (Scalar boolean lo hi)) e = omega (arith, ap (λ (l : Layout). l.count) (layout-Scalar types t boolean lo hi e))
few_step types t fits (Some (Array index element)) e =
    omega (arith, ap (λ (l : Layout). l.count) (layout-Array types t index element fits e), (array_fits types t index element fits e).few)

pub layout_few : (types : List TypeDef) (t : ℕ) → TypesFit types → (layout types t).count ≤ most_elements
layout_few types t fits = few_step types t fits (slice_get types t) refl

-- ---- a longer list

pub slice_get-append : {A : Type 0} (xs ys : List A) (k : ℕ) (x : A) → slice_get xs k ≡ Some x → slice_get (xs ++ ys) k ≡ Some x
slice_get-append [] ys k x e = absurd (none-some x e)
slice_get-append (y ∷ xs) ys zero x e = e
slice_get-append (y ∷ xs) ys (suc k) x e = slice_get-append xs ys k x e

is_scalar-append : (types more : List TypeDef) (k : ℕ) (o : Option TypeDef) → slice_get types k ≡ o → is_scalar o ≡ true → slice_get (types ++ more) k ≡ slice_get types k
is_scalar-append types more k None e h = absurd (true≢false (sym h))
is_scalar-append types more k (Some d) e h = slice_get-append types more k d e ∙ sym e

append_step : (types more : List TypeDef) (n t : ℕ) → TypesFit types → (o : Option TypeDef) → slice_get types t ≡ o → t < length types → ((e : ℕ) → e < t → layout_within n (types ++ more) e ≡ layout_within n types e)
    → layout_of (types ++ more) (λ e. layout_within n (types ++ more) e) (slice_get (types ++ more) t) ≡ layout_of types (λ e. layout_within n types e) (slice_get types t)
append_step types more n t fits None e h same = absurd (none-some _ (sym e ∙ slice_get-get_or types t (Array 0 0) h))
append_step types more n t fits (Some (Scalar boolean lo hi)) e h same =
    ap (layout_of (types ++ more) (λ e. layout_within n (types ++ more) e)) (slice_get-append types more t _ e)
    ∙ sym (ap (layout_of types (λ e. layout_within n types e)) e)
append_step types more n t fits (Some (Array index element)) e h same =
    let a = array_fits types t index element fits e in
    ap (layout_of (types ++ more) (λ e. layout_within n (types ++ more) e)) (slice_get-append types more t _ e)
    ∙ ap (λ o. times (count_values o) (layout_within n (types ++ more) element)) (is_scalar-append types more index (slice_get types index) refl a.index_scalar)
    ∙ ap (times (count_values (slice_get types index))) (same element a.element_before)
    ∙ sym (ap (layout_of types (λ e. layout_within n types e)) e)

append_within : (types more : List TypeDef) → TypesFit types → (n t : ℕ) → t < n → t < length types → layout_within n (types ++ more) t ≡ layout_within n types t
append_within types more fits zero t h k = absurd (omega arith)
append_within types more fits (suc n) t h k = append_step types more n t fits (slice_get types t) refl k (λ e b. append_within types more fits n e (omega arith) (omega arith))

-- types behind change nothing for those that were there
pub layout-append : (types more : List TypeDef) (t : ℕ) → TypesFit types → t < length types → layout (types ++ more) t ≡ layout types t
unfolding layout
layout-append types more t fits h = append_within types more fits (suc t) t (omega arith) h

fits_append : (types more : List TypeDef) (t : ℕ) (d : TypeDef) → TypesFit types → t ≤ length types → type_fits types t d ≡ true → type_fits (types ++ more) t d ≡ true
fits_append types more t (Scalar boolean lo hi) fits k h = h
fits_append types more t (Array index element) fits k h =
    let p = and_parts (nat_lt index t && nat_lt element t) _ h in
    let q = and_parts (nat_lt index t) _ p.0 in
    let r = and_parts (is_scalar (slice_get types index)) _ p.1 in
    let i = is_scalar-append types more index (slice_get types index) refl r.0 in
    let l = layout-append types more element fits (omega (arith, k, ltb-true element t q.1)) in
    and_from _ _ p.0 (and_from _ _ (ap is_scalar i ∙ r.0)
    (ap (λ o. nat_le (count_values o * (layout (types ++ more) element).count) most_elements) i
    ∙ ap (λ (x : Layout). nat_le (count_values (slice_get types index) * x.count) most_elements) l
    ∙ r.1))

some_same : {A : Type 0} {x y : A} → Some x ≡ Some y → x ≡ y
some_same e = cc

slice_get_last : {A : Type 0} (xs : List A) (x : A) (k : ℕ) (y : A) → length xs ≤ k → slice_get (xs ++ x ∷ []) k ≡ Some y → (k ≡ length xs) × (x ≡ y)
slice_get_last [] x zero y h e = (refl, cc)
slice_get_last [] x (suc k) y h e = absurd (none-some y e)
slice_get_last (z ∷ xs) x zero y h e = absurd (omega arith)
slice_get_last (z ∷ xs) x (suc k) y h e = let r = slice_get_last xs x k y (omega arith) e in (ap suc r.0, r.1)

-- a type that fits behind the others may be added
pub types_fit_push : (types : List TypeDef) (d : TypeDef) → TypesFit types → type_fits types (length types) d ≡ true → TypesFit (types ++ d ∷ [])
types_fit_push types d fits h = record {
  each = λ t x e. elim (slice_get_cases types t).1 [
    | inl w ↦ (let same : w.0 ≡ x = some_same (sym (slice_get-append types (d ∷ []) t w.0 w.2) ∙ e) in
        fits_append types (d ∷ []) t x fits (omega (arith, w.1)) (fits.each t x (w.2 ∙ ap Some same)))
    | inr w ↦ (let r = slice_get_last types d t x w.0 e in
        subst (λ y. type_fits (types ++ d ∷ []) t y ≡ true) r.1 (subst (λ k. type_fits (types ++ d ∷ []) k d ≡ true) (sym r.0) (fits_append types (d ∷ []) (length types) d fits (omega arith) h)))
  ];
}

-- a scalar type has at most as many values as its host
pub values_few : (boolean : Bool) (lo hi : ℤ) → ScalarFits boolean lo hi → unsigned_abs (hi -ℤ lo) + 1 < 2 ^ 32
values_few true lo hi fits = let p = and_parts (int_le (pos 0) lo) _ fits.lo_in_host in let q = and_parts (int_le (pos 0) hi) _ fits.hi_in_host in grind (arith, ints)
values_few false lo hi fits = let p = and_parts (int_le (neg_ℤ (pos maxint)) lo) _ fits.lo_in_host in let q = and_parts (int_le (neg_ℤ (pos maxint)) hi) _ fits.hi_in_host in grind (arith, ints)

-- ---- one step down an array

-- an element lies before its array, in range, and has the same range and part of the count
pub record Below (types : List TypeDef) (t index element : ℕ) : Type 0 where
  pub before : element < t
  pub in_range : element < length types
  pub same_lo : (layout types element).lo ≡ (layout types t).lo
  pub same_hi : (layout types element).hi ≡ (layout types t).hi
  pub count : count_values (slice_get types index) * (layout types element).count ≡ (layout types t).count

pub array_below : (types : List TypeDef) (t index element : ℕ) → TypesFit types → slice_get types t ≡ Some (Array index element) → Below types t index element
array_below types t index element fits e =
    let a = array_fits types t index element fits e in
    let l = sym (layout-Array types t index element fits e) in
    record {
      before = a.element_before;
      in_range = omega (arith, a.element_before, slice_get_within types t _ e);
      same_lo = ap (λ (k : Layout). k.lo) l;
      same_hi = ap (λ (k : Layout). k.hi) l;
      count = ap (λ (k : Layout). k.count) l;
    }

-- the count on the way down: n so far, v for the index, part for the element and total for the whole
pub counted_on : (n v part whole total : ℕ) → n * whole ≡ total → v * part ≡ whole → n * v * part ≡ total
counted_on n v part whole total e f = mul_assoc n v part ∙ ap (λ k. n * k) f ∙ e

pub counted_few : (n v part total : ℕ) → n * v * part ≡ total → 0 < part → n * v ≤ total
counted_few n v part total e h = omega (arith, e, mul-le-mul_left (n * v) h)

pub counted_all : (n whole total : ℕ) → n * whole ≡ total → whole ≡ 1 → n ≡ total
counted_all n whole total e f = omega (arith, e, ap (λ k. n * k) f)
