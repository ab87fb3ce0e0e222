-- The numbers of an interval that are constants, counted: as the constants differ, all of them are where there are as many as numbers.
use Rattle.std.proofs.Common.{◌≡◌, ℕ, zero, suc, ◌+◌, ◌≤◌, Bool, true, false, cond, ◌&&◌, ◌||◌, not, List, [], ◌∷◌, ◌++◌, refl, sym, ap, ◌∙◌, arith, ℤ, pos, ◌+ℤ◌, ◌-ℤ◌, ◌<ℤ◌, ◌≤ℤ◌, nat_eq, inl, inr}
use Rattle.std.proofs.lemmas.Bool.{and_parts, cases_Bool, false≢true}
use Rattle.std.proofs.lemmas.Bool.{or_parts}
use Rattle.std.proofs.lemmas.Bool.Decides.{nat_tests}
use Rattle.std.proofs.lemmas.Int.{ints}
use Rattle.std.proofs.lemmas.List.Sums.{sum_by-append, sum_by-cons}
use Rattle.std.specs.Prelude.{int_le, int_lt, nat_abs}
use Rattle.std.specs.List.{count_by, list_any}
use Rattle.std.specs.Ordering.{int_eq}
use Rattle.arithmetic.specs.Numbers.{IsNumber}
use Rattle.interval.specs.declared.itv.Itv.{Itv}
use Rattle.interval.specs.Intervals.{is_empty, is_in}
use Rattle.pas_program.specs.Labels.{all_differ}
use Rattle.control_points.specs.Actions.{is_one_of}
use Rattle.abstract_expr.specs.Verdicts.{are_constants, is_chosen}

-- one of the n numbers from z on
pub in_run : ℤ → ℕ → ℤ → Bool
in_run z zero y = false
in_run z (suc n) y = int_eq z y || in_run (z +ℤ pos 1) n y

first_test : (lo hi y : ℤ) → lo ≤ℤ hi → (int_eq lo y || (int_le (lo +ℤ pos 1) y && int_le y hi)) ≡ (int_le lo y && int_le y hi)
first_test lo hi y h = grind (arith, ints)

no_test : (lo hi y : ℤ) → hi <ℤ lo → false ≡ (int_le lo y && int_le y hi)
no_test lo hi y h = grind (arith, ints)

pub run_is : (n : ℕ) (lo hi y : ℤ) → lo +ℤ pos n ≡ hi +ℤ pos 1 → in_run lo n y ≡ (int_le lo y && int_le y hi)
unfolding in_run
run_is zero lo hi y h = no_test lo hi y (omega (arith, ints))
run_is (suc n) lo hi y h = ap (λ b. int_eq lo y || b) (run_is n (lo +ℤ pos 1) hi y (omega (arith, ints))) ∙ first_test lo hi y (omega (arith, ints))

after_first : (z y : ℤ) → (z +ℤ pos 1) ≤ℤ y → int_eq z y ≡ false
after_first z y h = grind (arith, ints)

-- none of the numbers from a later one on is the first
from_first : (n : ℕ) (z w y : ℤ) → w ≤ℤ z → in_run z n y ≡ true → w ≤ℤ y
unfolding in_run
from_first zero z w y l h = absurd (false≢true h)
from_first (suc n) z w y l h = by (int_eq z y) refl h (from_first n (z +ℤ pos 1) w y (omega (arith, ints)))
  where
    same_above : (z w y : ℤ) → w ≤ℤ z → int_eq z y ≡ true → w ≤ℤ y
    same_above z w y l h = grind (arith, ints)

    by : (b : Bool) → int_eq z y ≡ b → (b || in_run (z +ℤ pos 1) n y) ≡ true → (in_run (z +ℤ pos 1) n y ≡ true → w ≤ℤ y) → w ≤ℤ y
    by true e h later = same_above z w y l e
    by false e h later = later h

-- ---- counts of two tests that exclude each other

count_cons : (p : ℤ → Bool) (c : ℤ) (cs : List ℤ) → count_by p (c ∷ cs) ≡ cond (p c) 1 0 + count_by p cs
count_cons p c cs = sum_by-cons (λ (x : ℤ). cond (p x) 1 0) c cs

one_counts : (a b : Bool) → (a ≡ true → b ≡ false) → cond (a || b) 1 0 ≡ cond a 1 0 + cond b 1 0
one_counts true b apart = ap {B = ℕ} (λ (x : Bool). 1 + cond x 1 0) (sym (apart refl))
one_counts false b apart = omega arith

both_counts : (p q : ℤ → Bool) → ((y : ℤ) → p y ≡ true → q y ≡ false) → (cs : List ℤ) → count_by (λ y. p y || q y) cs ≡ count_by p cs + count_by q cs
both_counts p q apart [] = refl
both_counts p q apart (c ∷ cs) =
    let all : count_by (λ y. p y || q y) (c ∷ cs) ≡ cond (p c || q c) 1 0 + count_by (λ y. p y || q y) cs = count_cons (λ y. p y || q y) c cs in
    omega (arith, all, count_cons p c cs, count_cons q c cs, one_counts (p c) (q c) (apart c), both_counts p q apart cs)

none_counts : (z : ℤ) (cs : List ℤ) → list_any (λ y. int_eq z y) cs ≡ false → count_by (int_eq z) cs ≡ 0
none_counts z [] h = refl
none_counts z (c ∷ cs) h =
    let b = or_parts (int_eq z c) (list_any (λ y. int_eq z y) cs) h in
    omega (arith, count_cons (int_eq z) c cs, ap {B = ℕ} (λ (x : Bool). cond x 1 0) b.0, none_counts z cs b.1)

same_number : (z c : ℤ) → int_eq z c ≡ true → z ≡ c
same_number z c h = grind (arith, ints)

once_counts : (z : ℤ) (cs : List ℤ) → all_differ cs ≡ true → count_by (int_eq z) cs ≡ cond (is_one_of cs z) 1 0
once_counts z [] h = refl
once_counts z (c ∷ cs) h =
    let b = and_parts (not (list_any (λ y. int_eq c y) cs)) (all_differ cs) h in
    by (int_eq z c) refl (is_false _ b.0) (once_counts z cs b.1)
  where
    is_false : (b : Bool) → not b ≡ true → b ≡ false
    is_false true h = absurd (false≢true h)
    is_false false h = refl

    by : (b : Bool) → int_eq z c ≡ b → list_any (λ y. int_eq c y) cs ≡ false → count_by (int_eq z) cs ≡ cond (is_one_of cs z) 1 0 → count_by (int_eq z) (c ∷ cs) ≡ cond (b || is_one_of cs z) 1 0
    by true e none rest =
        omega (arith, count_cons (int_eq z) c cs, ap {B = ℕ} (λ (x : Bool). cond x 1 0) e, none_counts z cs (ap (λ (w : ℤ). list_any (λ y. int_eq w y) cs) (same_number z c e) ∙ none))
    by false e none rest = omega (arith, count_cons (int_eq z) c cs, ap {B = ℕ} (λ (x : Bool). cond x 1 0) e, rest)

-- ---- all numbers of a run are constants where as many constants lie in it

pub record IsDecided (cs : List ℤ) (z : ℤ) (n : ℕ) : Type 0 where
  pub few : count_by (in_run z n) cs ≤ n
  pub all : nat_eq (count_by (in_run z n) cs) n ≡ are_constants cs n z

eq_suc : (m n : ℕ) → nat_eq (1 + m) (suc n) ≡ nat_eq m n
eq_suc m n = grind (arith, nat_tests)

ne_suc : (m n : ℕ) → m ≤ n → nat_eq m (suc n) ≡ false
ne_suc m n h = grind (arith, nat_tests)

none_more : (m : ℕ) → 0 + m ≡ m
none_more m = omega arith

decided_step : (b : Bool) (m n : ℕ) (rest : Bool) → m ≤ n → nat_eq m n ≡ rest → nat_eq (cond b 1 0 + m) (suc n) ≡ (b && rest)
decided_step true m n rest h e = eq_suc m n ∙ e
decided_step false m n rest h e = ap (λ (k : ℕ). nat_eq k (suc n)) (none_more m) ∙ ne_suc m n h

at_most_one : (b : Bool) → cond b 1 0 ≤ 1
at_most_one true = omega arith
at_most_one false = omega arith

pub decided : (cs : List ℤ) → all_differ cs ≡ true → (n : ℕ) (z : ℤ) → IsDecided cs z n
unfolding in_run
decided cs differ zero z =
    let none : count_by (in_run z zero) cs ≡ 0 = none_counted cs in
    record { few = omega (arith, none); all = ap (λ (m : ℕ). nat_eq m 0) none }
  where
    none_counted : (cs : List ℤ) → count_by (λ (y : ℤ). false) cs ≡ 0
    none_counted [] = refl
    none_counted (c ∷ cs) = let e : count_by (λ (y : ℤ). false) (c ∷ cs) ≡ 0 + count_by (λ (y : ℤ). false) cs = sum_by-cons (λ (x : ℤ). 0) c cs in e ∙ none_more (count_by (λ (y : ℤ). false) cs) ∙ none_counted cs
decided cs differ (suc n) z =
    let later = decided cs differ n (z +ℤ pos 1) in
    let m = count_by (in_run (z +ℤ pos 1) n) cs in
    let apart : (y : ℤ) → int_eq z y ≡ true → in_run (z +ℤ pos 1) n y ≡ false = λ y e. apart_by z n y e in
    let total : count_by (in_run z (suc n)) cs ≡ cond (is_one_of cs z) 1 0 + m =
    both_counts (int_eq z) (in_run (z +ℤ pos 1) n) apart cs ∙ ap (λ (k : ℕ). k + m) (once_counts z cs differ) in
    record {
      few = omega (arith, total, later.few, at_most_one (is_one_of cs z));
      all = ap (λ (k : ℕ). nat_eq k (suc n)) total ∙ decided_step (is_one_of cs z) m n (are_constants cs n (z +ℤ pos 1)) later.few later.all;
    }
  where
    apart_by : (z : ℤ) (n : ℕ) (y : ℤ) → int_eq z y ≡ true → in_run (z +ℤ pos 1) n y ≡ false
    apart_by z n y e =
        elim (cases_Bool (in_run (z +ℤ pos 1) n y)) [
          | inl h ↦ absurd (false≢true (sym (after_first z y (from_first n (z +ℤ pos 1) (z +ℤ pos 1) y (omega (arith, ints)) h)) ∙ e))
          | inr h ↦ h
        ]

-- the same for the tests of two lists of which one is a run
counted_same : (p q : ℤ → Bool) → ((y : ℤ) → p y ≡ q y) → (cs : List ℤ) → count_by p cs ≡ count_by q cs
counted_same p q same [] = refl
counted_same p q same (c ∷ cs) = omega (arith, count_cons p c cs, count_cons q c cs, ap {B = ℕ} (λ (x : Bool). cond x 1 0) (same c), counted_same p q same cs)

pub counted_in : (n : ℕ) (lo hi : ℤ) (cs : List ℤ) → lo +ℤ pos n ≡ hi +ℤ pos 1 → count_by (in_run lo n) cs ≡ count_by (λ y. int_le lo y && int_le y hi) cs
counted_in n lo hi cs h = counted_same (in_run lo n) (λ y. int_le lo y && int_le y hi) (λ y. run_is n lo hi y h) cs

-- what is counted in several arms
pub counts_append : (p : ℤ → Bool) (xs ys : List ℤ) → count_by p (xs ++ ys) ≡ count_by p xs + count_by p ys
counts_append p xs ys = sum_by-append (λ (x : ℤ). cond (p x) 1 0) xs ys

-- ---- the numbers of an interval

spans : (lo hi : ℤ) → lo ≤ℤ hi → lo +ℤ pos (suc (nat_abs (hi -ℤ lo))) ≡ hi +ℤ pos 1
spans lo hi h = grind (arith, ints)

narrow_span : (lo hi : ℤ) → IsNumber lo → IsNumber hi → lo ≤ℤ hi → nat_abs (hi -ℤ lo) ≤ 4294967294
narrow_span lo hi l h o = grind (arith, ints)

in_order : (lo hi : ℤ) → int_lt hi lo ≡ false → lo ≤ℤ hi
in_order lo hi h = grind (arith, ints)

pub record IsCounted (cs : List ℤ) (x : Itv) : Type 0 where
  pub few : count_by (is_in x) cs ≤ 4294967295
  pub chosen : nat_eq (count_by (is_in x) cs) (suc (nat_abs (x.hi -ℤ x.lo))) ≡ is_chosen cs x

pub counted : (cs : List ℤ) (x : Itv) → all_differ cs ≡ true → is_empty x ≡ false → IsCounted cs x
counted cs x differ some =
    let o = in_order x.lo x.hi some in
    let n = suc (nat_abs (x.hi -ℤ x.lo)) in
    let d = decided cs differ n x.lo in
    let same : count_by (in_run x.lo n) cs ≡ count_by (is_in x) cs = counted_in n x.lo x.hi cs (spans x.lo x.hi o) in
    record {
      few = omega (arith, same, d.few, narrow_span x.lo x.hi x.lo_in_range x.hi_in_range o);
      chosen = ap (λ (k : ℕ). nat_eq k n) (sym same) ∙ d.all ∙ ap (λ (b : Bool). b || are_constants cs n x.lo) (sym some);
    }
