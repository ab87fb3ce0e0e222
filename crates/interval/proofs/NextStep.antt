-- The next step is the one at the place that divides the steps into those before z and those behind it.
use Rattle.std.proofs.Common.{◌≡◌, ℕ, zero, suc, ◌<◌, ◌≤◌, Bool, true, false, cond, ◌&&◌, List, [], ◌∷◌, length, get_or, Option, Some, None, ℤ, ◌≤ℤ◌, ◌<ℤ◌, int_lt, int_le, refl, sym, ap, inl, inr, ◌∙◌, arith, find}
use Rattle.std.specs.Int.{int_min, int_max}
use Rattle.std.specs.List.{AllByRecursion, AllWithin}
use Rattle.std.specs.List.Sorted.{IsStrictlySortedBy, IsPartitionPoint, IsPartitionedBy}
use Rattle.std.specs.Option.{option_or, unwrap_or}
use Rattle.std.specs.Ordering.{int_cmp}
use Rattle.std.specs.declared.cmp.Ordering.TheVariants.{Less}
use Rattle.std.proofs.lemmas.Bool.{cases_Bool}
use Rattle.std.proofs.lemmas.Int.{ints}
use Rattle.lattice.specs.Lattice.{AreSteps}
use Rattle.interval.specs.Steps.{find_last, step_up, step_down}

less : (x y : ℤ) → int_cmp x y ≡ Less → x <ℤ y
less x y h = grind (arith, ints)

-- ---- what holds of the steps behind the first one

all_at : (P : ℤ → Type 0) (xs : List ℤ) (k : ℕ) (d : ℤ) → AllByRecursion P xs → k < length xs → P (get_or xs k d)
all_at P [] k d all lt = absurd (omega arith)
all_at P (x ∷ xs) zero d all lt = all.0
all_at P (x ∷ xs) (suc k) d all lt = all_at P xs k d all.1 (omega arith)

pub first_below : (x : ℤ) (xs : List ℤ) (k : ℕ) (d : ℤ) → AreSteps (x ∷ xs) → k < length xs → x <ℤ get_or xs k d
unfolding IsStrictlySortedBy
first_below x xs k d sorted lt = less x (get_or xs k d) (all_at (λ y. int_cmp x y ≡ Less) xs k d sorted.0 lt)

pub rest_rises : (x : ℤ) (xs : List ℤ) → AreSteps (x ∷ xs) → AreSteps xs
unfolding IsStrictlySortedBy
rest_rises x xs sorted = sorted.1

rises : (xs : List ℤ) (i j : ℕ) (d : ℤ) → AreSteps xs → i ≤ j → j < length xs → get_or xs i d ≤ℤ get_or xs j d
rises [] i j d sorted le lt = absurd (omega arith)
rises (x ∷ xs) zero zero d sorted le lt = omega (arith, ints)
rises (x ∷ xs) zero (suc j) d sorted le lt = let h = first_below x xs j d sorted (omega arith) in omega (arith, ints)
rises (x ∷ xs) (suc i) zero d sorted le lt = absurd (omega arith)
rises (x ∷ xs) (suc i) (suc j) d sorted le lt = rises xs i j d (rest_rises x xs sorted) (omega arith) (omega arith)

lower : (a b z : ℤ) → a ≤ℤ b → int_lt b z ≡ true → int_lt a z ≡ true
lower a b z le h = grind (arith, ints)

lower' : (a b z : ℤ) → a ≤ℤ b → int_le b z ≡ true → int_le a z ≡ true
lower' a b z le h = grind (arith, ints)

-- the steps below z, and those up to z, come before the others
pub below_first : (xs : List ℤ) (z : ℤ) → AreSteps xs → IsPartitionedBy (λ s. int_lt s z) xs
below_first xs z sorted i j d le lt h = lower _ _ z (rises xs i j d sorted le lt) h

pub up_to_first : (xs : List ℤ) (z : ℤ) → AreSteps xs → IsPartitionedBy (λ s. int_le s z) xs
up_to_first xs z sorted i j d le lt h = lower' _ _ z (rises xs i j d sorted le lt) h

-- ---- the place of the next step

behind_first : (P : ℤ → Type 0) (x : ℤ) (xs : List ℤ) (low high : ℕ) → AllWithin P (x ∷ xs) (suc low) (suc high) → AllWithin P xs low high
behind_first P x xs low high all k d le lt = all (suc k) d (omega arith) (omega arith)

after_zero : (P : ℤ → Type 0) (x : ℤ) (xs : List ℤ) (high : ℕ) → AllWithin P (x ∷ xs) zero (suc high) → AllWithin P xs zero high
after_zero P x xs high all k d le lt = all (suc k) d (omega arith) (omega arith)

none_passes : (test : ℤ → Bool) (xs : List ℤ) → ((k : ℕ) (d : ℤ) → k < length xs → test (get_or xs k d) ≡ false) → find test xs ≡ None
none_passes test [] fail = refl
none_passes test (x ∷ xs) fail =
    ap (λ b. cond b (Some x) (find test xs)) (fail zero x (omega arith)) ∙ none_passes test xs (λ k d lt. fail (suc k) d (omega arith))

none_passes' : (test : ℤ → Bool) (xs : List ℤ) → ((k : ℕ) (d : ℤ) → k < length xs → test (get_or xs k d) ≡ false) → find_last test xs ≡ None
none_passes' test [] fail = refl
none_passes' test (x ∷ xs) fail =
    ap (λ o. option_or o (cond (test x) (Some x) None)) (none_passes' test xs (λ k d lt. fail (suc k) d (omega arith))) ∙
    ap (λ b. cond b (Some x) None) (fail zero x (omega arith))

low_fails : (z end s : ℤ) → int_lt s z ≡ true → (int_le z s && int_lt s end) ≡ false
low_fails z end s h = grind (arith, ints)

high_fails : (z end s : ℤ) → end ≤ℤ s → (int_le z s && int_lt s end) ≡ false
high_fails z end s h = grind (arith, ints)

behind_fails : (z end s : ℤ) → int_le s z ≡ false → (int_le s z && int_lt end s) ≡ false
behind_fails z end s h = grind (arith, ints)

before_fails : (z end s : ℤ) → s ≤ℤ end → (int_le s z && int_lt end s) ≡ false
before_fails z end s h = grind (arith, ints)

pub up_past : (xs : List ℤ) (z end : ℤ) → AllWithin (λ s. int_lt s z ≡ true) xs 0 (length xs) → step_up xs z end ≡ end
up_past xs z end all =
    ap (λ o. unwrap_or o end) (none_passes (λ s. int_le z s && int_lt s end) xs (λ k d lt. low_fails z end _ (all k d (omega arith) lt)))

up_here : (x : ℤ) (xs : List ℤ) (z end : ℤ) → AreSteps (x ∷ xs) → int_lt x z ≡ false → step_up (x ∷ xs) z end ≡ int_min end x
up_here x xs z end sorted behind =
    elim (cases_Bool (int_lt x end)) [
      | inl before ↦
          let passes : (int_le z x && int_lt x end) ≡ true = grind (arith, ints) in
          ap (λ b. unwrap_or (cond b (Some x) (find (λ s. int_le z s && int_lt s end) xs)) end) passes ∙ grind (arith, ints)
      | inr past ↦
          let le : end ≤ℤ x = grind (arith, ints) in
          ap (λ b. unwrap_or (cond b (Some x) (find (λ s. int_le z s && int_lt s end) xs)) end) (high_fails z end x le) ∙
          ap (λ o. unwrap_or o end) (none_passes (λ s. int_le z s && int_lt s end) xs (λ k d lt.
          let h = first_below x xs k d sorted lt in high_fails z end _ (omega (arith, ints)))) ∙
          grind (arith, ints)
    ]

pub up_at : (xs : List ℤ) (z end s d : ℤ) (p : ℕ) → AreSteps xs → IsPartitionPoint (λ y. int_lt y z ≡ true) (λ y. int_lt y z ≡ false) xs p
    → p < length xs → s ≡ get_or xs p d → step_up xs z end ≡ int_min end s
up_at [] z end s d p sorted point lt s_is = absurd (omega arith)
up_at (x ∷ xs) z end s d zero sorted point lt s_is =
    up_here x xs z end sorted (point.1 zero x (omega arith) (omega arith)) ∙ ap (int_min end) (sym s_is)
up_at (x ∷ xs) z end s d (suc p) sorted point lt s_is =
    ap (λ b. unwrap_or (cond b (Some x) (find (λ s. int_le z s && int_lt s end) xs)) end) (low_fails z end x (point.0 zero x (omega arith) (omega arith))) ∙
    up_at xs z end s d p (rest_rises x xs sorted)
    (after_zero (λ y. int_lt y z ≡ true) x xs p point.0, behind_first (λ y. int_lt y z ≡ false) x xs p (length xs) point.1) (omega arith) s_is

pub down_past : (xs : List ℤ) (z end : ℤ) → AllWithin (λ s. int_le s z ≡ false) xs 0 (length xs) → step_down xs z end ≡ end
down_past xs z end all =
    ap (λ o. unwrap_or o end) (none_passes' (λ s. int_le s z && int_lt end s) xs (λ k d lt. behind_fails z end _ (all k d (omega arith) lt)))

chosen : (z end x : ℤ) → int_le x z ≡ true → unwrap_or (cond (int_le x z && int_lt end x) (Some x) None) end ≡ int_max end x
chosen z end x h =
    elim (cases_Bool (int_lt end x)) [
      | inl above ↦
          let passes : (int_le x z && int_lt end x) ≡ true = grind (arith, ints) in
          ap (λ b. unwrap_or (cond b (Some x) None) end) passes ∙ grind (arith, ints)
      | inr past ↦ ap (λ b. unwrap_or (cond b (Some x) None) end) (before_fails z end x (grind (arith, ints))) ∙ grind (arith, ints)
    ]

earlier : (o : Option ℤ) (z end s x : ℤ) → x <ℤ s → unwrap_or o end ≡ int_max end s
    → unwrap_or (option_or o (cond (int_le x z && int_lt end x) (Some x) None)) end ≡ int_max end s
earlier None z end s x lt e =
    ap (λ b. unwrap_or (cond b (Some x) None) end) (before_fails z end x (grind (arith, ints))) ∙ e
earlier (Some y) z end s x lt e = e

pub down_at : (xs : List ℤ) (z end s d : ℤ) (p : ℕ) → AreSteps xs → IsPartitionPoint (λ y. int_le y z ≡ true) (λ y. int_le y z ≡ false) xs (suc p)
    → p < length xs → s ≡ get_or xs p d → step_down xs z end ≡ int_max end s
down_at [] z end s d p sorted point lt s_is = absurd (omega arith)
down_at (x ∷ xs) z end s d zero sorted point lt s_is =
    ap (λ o. unwrap_or (option_or o (cond (int_le x z && int_lt end x) (Some x) None)) end)
    (none_passes' (λ s. int_le s z && int_lt end s) xs (λ k d lt. behind_fails z end _ (point.1 (suc k) d (omega arith) (omega arith)))) ∙
    chosen z end x (point.0 zero x (omega arith) (omega arith)) ∙ ap (int_max end) (sym s_is)
down_at (x ∷ xs) z end s d (suc p) sorted point lt s_is =
    earlier (find_last (λ s. int_le s z && int_lt end s) xs) z end s x (rw s_is (first_below x xs p d sorted (omega arith)))
    (down_at xs z end s d p (rest_rises x xs sorted)
    (after_zero (λ y. int_le y z ≡ true) x xs (suc p) point.0, behind_first (λ y. int_le y z ≡ false) x xs (suc p) (length xs) point.1) (omega arith) s_is)
