-- Where the next step lies, and that a bound that goes there has fewer moves left.
use Rattle.std.specs.Prelude.{◌≡◌, ◌+◌, ◌<◌, ◌≤◌, ◌⊎◌, Bool, true, false, not, ◌&&◌, List, [], ◌∷◌, length, IsTrue, IsFalse, Option, Some, None, unwrap_or, count_by, cond, ℤ, ◌≤ℤ◌, ◌<ℤ◌, int_lt, int_le}
use Rattle.std.specs.List.{find}
use Rattle.std.specs.Option.{option_or}
use Rattle.std.specs.Ordering.{int_eq}
use Rattle.std.proofs.Common.{arith, refl, sym, ap, inl, inr, ◌∙◌}
use Rattle.std.proofs.lemmas.Bool.{cases_Bool, false≢true}
use Rattle.std.proofs.lemmas.Int.{ints}
use Rattle.std.proofs.lemmas.List.Sums.{sum_by-cons, count_by-le-length}
use Rattle.interval.specs.Steps.{find_last, step_up, step_down, one_if, moves_up, moves_down}

-- ---- a first and a last element that passes

module _ {X : Type 0} (test : X → Bool) where
  chosen : (x s : X) → cond (test x) (Some x) None ≡ Some s → (test x ≡ true) × (x ≡ s)
  chosen x s e =
      elim (cases_Bool (test x)) [
        | inl passes ↦ let same : Some x ≡ Some s = sym (ap (λ b. cond b (Some x) None) passes) ∙ e in (passes, cc)
        | inr fails ↦ let none : None ≡ Some s = sym (ap (λ b. cond b (Some x) None) fails) ∙ e in cc
      ]

  first_or_later : (x s : X) (xs : List X) → find test (x ∷ xs) ≡ Some s → ((test x ≡ true) × (x ≡ s)) ⊎ (find test xs ≡ Some s)
  first_or_later x s xs e =
      elim (cases_Bool (test x)) [
        | inl passes ↦ let same : Some x ≡ Some s = sym (ap (λ b. cond b (Some x) (find test xs)) passes) ∙ e in inl (passes, cc)
        | inr fails ↦ inr (sym (ap (λ b. cond b (Some x) (find test xs)) fails) ∙ e)
      ]

  either : (o r : Option X) (s : X) → option_or o r ≡ Some s → (r ≡ Some s) ⊎ (o ≡ Some s)
  either None r s e = inl e
  either (Some y) r s e = inr e

  last_or_earlier : (x s : X) (xs : List X) → find_last test (x ∷ xs) ≡ Some s → ((test x ≡ true) × (x ≡ s)) ⊎ (find_last test xs ≡ Some s)
  last_or_earlier x s xs e =
      elim (either (find_last test xs) (cond (test x) (Some x) None) s e) [
        | inl here ↦ inl (chosen x s here)
        | inr later ↦ inr later
      ]

  first_passes : (xs : List X) (s : X) → find test xs ≡ Some s → test s ≡ true
  first_passes [] s e = cc
  first_passes (x ∷ xs) s e =
      elim (first_or_later x s xs e) [ inl here ↦ ap test (sym here.1) ∙ here.0 | inr later ↦ first_passes xs s later ]

  last_passes : (xs : List X) (s : X) → find_last test xs ≡ Some s → test s ≡ true
  last_passes [] s e = cc
  last_passes (x ∷ xs) s e =
      elim (last_or_earlier x s xs e) [ inl here ↦ ap test (sym here.1) ∙ here.0 | inr later ↦ last_passes xs s later ]

-- ---- how many elements pass

one_at_most : (a b : Bool) → (IsTrue a → IsTrue b) → cond a 1 0 ≤ cond b 1 0
one_at_most false b h = omega arith
one_at_most true true h = omega arith
one_at_most true false h = absurd (false≢true (h refl))

none_counted : (b : Bool) → IsFalse b → cond b 1 0 ≤ 0
none_counted b h = rw h (omega arith)

one_counted : (b : Bool) → IsTrue b → 1 ≤ cond b 1 0
one_counted b h = rw h (omega arith)

module _ {X : Type 0} (p q : X → Bool) (wider : (x : X) → IsTrue (p x) → IsTrue (q x)) where
  more : (x : X) (xs : List X) (r : X → Bool) → count_by r (x ∷ xs) ≡ cond (r x) 1 0 + count_by r xs
  more x xs r = sum_by-cons (λ y. cond (r y) 1 0) x xs

  count_at_most : (xs : List X) → count_by p xs ≤ count_by q xs
  count_at_most [] = omega arith
  count_at_most (x ∷ xs) = omega (arith, more x xs p, more x xs q, one_at_most (p x) (q x) (wider x), count_at_most xs)

  module _ (s : X) (fails : IsFalse (p s)) (passes : IsTrue (q s)) where
    fewer_here : (x : X) (xs : List X) → x ≡ s → count_by p (x ∷ xs) < count_by q (x ∷ xs)
    fewer_here x xs e =
        omega (arith, more x xs p, more x xs q, none_counted (p x) (ap p e ∙ fails), one_counted (q x) (ap q e ∙ passes), count_at_most xs)

    fewer_later : (x : X) (xs : List X) → count_by p xs < count_by q xs → count_by p (x ∷ xs) < count_by q (x ∷ xs)
    fewer_later x xs h = omega (arith, more x xs p, more x xs q, one_at_most (p x) (q x) (wider x))

    fewer_at_first : (test : X → Bool) (xs : List X) → find test xs ≡ Some s → count_by p xs < count_by q xs
    fewer_at_first test [] e = cc
    fewer_at_first test (x ∷ xs) e =
        elim (first_or_later test x s xs e) [
          | inl here ↦ fewer_here x xs here.1
          | inr later ↦ fewer_later x xs (fewer_at_first test xs later)
        ]

    fewer_at_last : (test : X → Bool) (xs : List X) → find_last test xs ≡ Some s → count_by p xs < count_by q xs
    fewer_at_last test [] e = cc
    fewer_at_last test (x ∷ xs) e =
        elim (last_or_earlier test x s xs e) [
          | inl here ↦ fewer_here x xs here.1
          | inr later ↦ fewer_later x xs (fewer_at_last test xs later)
        ]

-- ---- the next step

stop_at : (P : ℤ → Type 0) (o : Option ℤ) (end : ℤ) → P end → ((s : ℤ) → o ≡ Some s → P s) → P (unwrap_or o end)
stop_at P None end h k = h
stop_at P (Some s) end h k = k s refl

between : (a b s : ℤ) → IsTrue (int_le a s && int_lt s b) → (a ≤ℤ s) × (s <ℤ b)
between a b s h = (grind (arith, ints), grind (arith, ints))

between' : (a b s : ℤ) → IsTrue (int_le s a && int_lt b s) → (s ≤ℤ a) × (b <ℤ s)
between' a b s h = (grind (arith, ints), grind (arith, ints))

narrower_up : (low z end s : ℤ) → low ≤ℤ z → IsTrue (int_lt z s && int_lt s end) → IsTrue (int_lt low s && int_lt s end)
narrower_up low z end s le h = grind (arith, ints)

narrower_down : (high z end s : ℤ) → z ≤ℤ high → IsTrue (int_lt end s && int_lt s z) → IsTrue (int_lt end s && int_lt s high)
narrower_down high z end s le h = grind (arith, ints)

module _ (steps : List ℤ) (z end : ℤ) where
  -- it lies between z and the end
  pub up_within : z ≤ℤ end → (z ≤ℤ step_up steps z end) × (step_up steps z end ≤ℤ end)
  up_within le =
      stop_at (λ w. (z ≤ℤ w) × (w ≤ℤ end)) (find (λ s. int_le z s && int_lt s end) steps) end (le, omega (arith, ints))
      (λ s found. let h = between z end s (first_passes (λ s. int_le z s && int_lt s end) steps s found) in (omega (arith, ints), omega (arith, ints)))

  pub down_within : end ≤ℤ z → (end ≤ℤ step_down steps z end) × (step_down steps z end ≤ℤ z)
  down_within le =
      stop_at (λ w. (end ≤ℤ w) × (w ≤ℤ z)) (find_last (λ s. int_le s z && int_lt end s) steps) end (omega (arith, ints), le)
      (λ s found. let h = between' z end s (last_passes (λ s. int_le s z && int_lt end s) steps s found) in (omega (arith, ints), omega (arith, ints)))

  -- a bound below z has fewer moves left there
  pub up_falls : (low : ℤ) → low <ℤ z → z ≤ℤ end → moves_up steps (step_up steps z end) end < moves_up steps low end
  up_falls low lt le =
      let differs : one_if (not (int_eq low end)) ≡ 1 = grind (arith, ints) in
      stop_at (λ w. moves_up steps w end < moves_up steps low end) (find (λ s. int_le z s && int_lt s end) steps) end
      (let none : one_if (not (int_eq end end)) ≡ 0 = grind (arith, ints) in
      omega (arith, count_at_most (λ s. int_lt end s && int_lt s end) (λ s. int_lt low s && int_lt s end) (λ s. narrower_up low end end s (omega (arith, ints))) steps))
      (λ s found.
      let h = between z end s (first_passes (λ s. int_le z s && int_lt s end) steps s found) in
      let one : one_if (not (int_eq s end)) ≡ 1 = grind (arith, ints) in
      omega (
        arith,
        fewer_at_first (λ t. int_lt s t && int_lt t end) (λ t. int_lt low t && int_lt t end) (λ t. narrower_up low s end t (omega (arith, ints)))
            s (grind (arith, ints)) (grind (arith, ints)) (λ s. int_le z s && int_lt s end) steps found,
      ))

  -- a bound above z has fewer moves left there
  pub down_falls : (high : ℤ) → z <ℤ high → end ≤ℤ z → moves_down steps (step_down steps z end) end < moves_down steps high end
  down_falls high lt le =
      let differs : one_if (not (int_eq high end)) ≡ 1 = grind (arith, ints) in
      stop_at (λ w. moves_down steps w end < moves_down steps high end) (find_last (λ s. int_le s z && int_lt end s) steps) end
      (let none : one_if (not (int_eq end end)) ≡ 0 = grind (arith, ints) in
      omega (arith, count_at_most (λ s. int_lt end s && int_lt s end) (λ s. int_lt end s && int_lt s high) (λ s. narrower_down high end end s (omega (arith, ints))) steps))
      (λ s found.
      let h = between' z end s (last_passes (λ s. int_le s z && int_lt end s) steps s found) in
      let one : one_if (not (int_eq s end)) ≡ 1 = grind (arith, ints) in
      omega (
        arith,
        fewer_at_last (λ t. int_lt end t && int_lt t s) (λ t. int_lt end t && int_lt t high) (λ t. narrower_down high s end t (omega (arith, ints)))
            s (grind (arith, ints)) (grind (arith, ints)) (λ s. int_le s z && int_lt end s) steps found,
      ))

one_if_at_most : (b : Bool) → one_if b ≤ 1
one_if_at_most false = omega arith
one_if_at_most true = omega arith

pub moves_up_bound : (steps : List ℤ) (z end : ℤ) → moves_up steps z end ≤ 1 + length steps
moves_up_bound steps z end = omega (arith, one_if_at_most (not (int_eq z end)), count_by-le-length (λ s. int_lt z s && int_lt s end) steps)

pub moves_down_bound : (steps : List ℤ) (z end : ℤ) → moves_down steps z end ≤ 1 + length steps
moves_down_bound steps z end = omega (arith, one_if_at_most (not (int_eq z end)), count_by-le-length (λ s. int_lt end s && int_lt s z) steps)
