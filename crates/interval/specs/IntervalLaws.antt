-- The laws of intervals, on which those of values stand.
use Rattle.std.specs.Prelude.{◌≡◌, ◌+◌, ◌*◌, ◌<◌, ◌≤◌, ◌⊎◌, cond, false, IsTrue, List, length, ℤ, ◌≤ℤ◌, ◌<ℤ◌, int_lt}
use Rattle.std.specs.Int.{int_min, int_max}
use Rattle.std.proofs.Common.{arith, inl, inr, sym, ap, subst, ◌∙◌, refl, ◌||◌}
use Rattle.std.proofs.lemmas.Bool.{cond_both, cases_Bool, or_parts, or_cases, both_ways}
use Rattle.std.proofs.lemmas.Int.{ints}
use Rattle.arithmetic.specs.Numbers.{IsNumber}
use Rattle.interval.specs.declared.itv.Itv.{Itv}
use Rattle.interval.specs.Intervals.{IsIn, is_empty, empty, interval, interval-lo, interval-hi, hull, meet, join, is_within}
use Rattle.interval.specs.Same.{same_bounds, interval_has, no_number}
use Rattle.interval.specs.Steps.{moves_up, moves_down}
use Rattle.interval.specs.StepLaws.{up_within, down_within, up_falls, down_falls, moves_up_bound, moves_down_bound}
use Rattle.interval.specs.Values.{widen, widened_low, widened_high, narrow, narrowed_low, narrowed_high, is_low_end, is_high_end, growth, shrinkage}

-- ---- the interval between two bounds

pub interval_of_bounds : (x : Itv) → interval x.lo x.hi ≡ x
interval_of_bounds x =
    same_bounds _ x
    (grind (arith, ints, interval-lo x.lo x.hi, x.canonical))
    (grind (arith, ints, interval-hi x.lo x.hi, x.canonical))

-- its bounds, where these are numbers in order
pub interval_low : (lo hi : ℤ) → IsNumber lo → IsNumber hi → lo ≤ℤ hi → (interval lo hi).lo ≡ lo
interval_low lo hi n m h = grind (arith, ints, interval-lo lo hi)

pub interval_high : (lo hi : ℤ) → IsNumber lo → IsNumber hi → lo ≤ℤ hi → (interval lo hi).hi ≡ hi
interval_high lo hi n m h = grind (arith, ints, interval-hi lo hi)

pub interval_within : (lo hi : ℤ) (y : Itv) → y.lo ≤ℤ lo → hi ≤ℤ y.hi → IsTrue (is_within (interval lo hi) y)
interval_within lo hi y a b = grind (arith, ints, interval-lo lo hi, interval-hi lo hi)

pub within_interval : (x : Itv) (lo hi : ℤ) → lo ≤ℤ x.lo → x.hi ≤ℤ hi → IsTrue (is_within x (interval lo hi))
within_interval x lo hi a b = grind (arith, ints, interval-lo lo hi, interval-hi lo hi)

pub crossed_empty : (lo hi : ℤ) → IsTrue (int_lt hi lo) → IsTrue (is_empty (interval lo hi))
crossed_empty lo hi h = grind (arith, ints, interval-lo lo hi, interval-hi lo hi)

-- ---- the order

pub within_itself : (x : Itv) → IsTrue (is_within x x)
within_itself x = grind (arith, ints)

pub within_has : (x y : Itv) (z : ℤ) → IsTrue (is_within x y) → IsIn x z → IsIn y z
within_has x y z h i = grind (arith, ints)

pub empty_within : (x y : Itv) → IsTrue (is_empty x) → IsTrue (is_within x y)
empty_within x y h = grind (arith, ints)

interval_in_interval : (p q lo hi : ℤ) → lo ≤ℤ p → q ≤ℤ hi → IsNumber lo → IsNumber hi → IsTrue (is_within (interval p q) (interval lo hi))
interval_in_interval p q lo hi a b n m =
    elim (cases_Bool (int_lt q p)) [
      | inl crossed ↦ empty_within (interval p q) (interval lo hi) (crossed_empty p q crossed)
      | inr ordered ↦
          let order : lo ≤ℤ hi = grind (arith, ints) in
          interval_within p q (interval lo hi) (rw (interval_low lo hi n m order) a) (rw (interval_high lo hi n m order) b)
    ]

pub either_empty : (x y : Itv) (z : ℤ) → IsTrue (is_empty x || is_empty y) → IsIn x z → IsIn y z → ⊥
either_empty x y z h a b = grind (arith, ints)

pub empty_has_none : (x : Itv) (z : ℤ) → IsTrue (is_empty x) → ¬ IsIn x z
empty_has_none x z h i = grind (arith, ints)

-- an interval that has a number isn't empty
pub some_number : (x : Itv) (z : ℤ) → IsIn x z → is_empty x ≡ false
some_number x z i = grind (arith, ints)

pub within_bounds : (x y : Itv) → is_empty x ≡ false → IsTrue (is_within x y) → (y.lo ≤ℤ x.lo) × (x.hi ≤ℤ y.hi)
within_bounds x y e h = grind (arith, ints)

number_inside : (a b z : ℤ) → IsNumber a → IsNumber b → a ≤ℤ z → z ≤ℤ b → IsNumber z
number_inside a b z n m h k = grind (arith, ints)

in_order : (x : Itv) (p q : ℤ) → is_empty x ≡ false → p ≤ℤ x.lo → x.hi ≤ℤ q → p ≤ℤ q
in_order x p q e h k = grind (arith, ints)

not_crossed : (p q : ℤ) → p ≤ℤ q → int_lt q p ≡ false
not_crossed p q h = grind (arith, ints)

empty_in_empty : (x y : Itv) → IsTrue (is_empty x) → IsTrue (is_within y x) → IsTrue (is_empty y)
empty_in_empty x y e h = grind (arith, ints, x.canonical)

pub within_both : (x y : Itv) → IsTrue (is_within x y) → IsTrue (is_within y x) → x ≡ y
within_both x y a b =
    elim (cases_Bool (is_empty x)) [
      | inl e ↦ no_number x e ∙ sym (no_number y (empty_in_empty x y e b))
      | inr e ↦
          let c = within_bounds x y e a in
          let some : is_empty y ≡ false = grind (arith, ints) in
          let d = within_bounds y x some b in
          same_bounds x y (omega (arith, ints)) (omega (arith, ints))
    ]

pub number_of : (x : Itv) (z : ℤ) → IsIn x z → IsNumber z
number_of x z i = grind (arith, ints)

-- ---- the lesser and the greater of two numbers

pub min_left : (a b : ℤ) → int_min a b ≤ℤ a
min_left a b = grind (arith, ints)

pub min_right : (a b : ℤ) → int_min a b ≤ℤ b
min_right a b = grind (arith, ints)

pub max_left : (a b : ℤ) → a ≤ℤ int_max a b
max_left a b = grind (arith, ints)

pub max_right : (a b : ℤ) → b ≤ℤ int_max a b
max_right a b = grind (arith, ints)

pub below_min : (a b z : ℤ) → z ≤ℤ a → z ≤ℤ b → z ≤ℤ int_min a b
below_min a b z h k = grind (arith, ints)

pub above_max : (a b z : ℤ) → a ≤ℤ z → b ≤ℤ z → int_max a b ≤ℤ z
above_max a b z h k = grind (arith, ints)

-- ---- join and meet

pub join_cases : (P : Itv → Type 0) (x y : Itv) → (IsTrue (is_empty x) → P y) → (IsTrue (is_empty y) → P x) → P (hull x y) → P (join x y)
join_cases P x y f g h = cond_both (is_empty x) _ _ P f (λ _. cond_both (is_empty y) _ _ P g (λ _. h))

pub join_above_left : (x y : Itv) → IsTrue (is_within x (join x y))
join_above_left x y =
    join_cases (λ w. IsTrue (is_within x w)) x y (empty_within x y) (λ _. within_itself x)
    (within_interval x _ _ (min_left x.lo y.lo) (max_left x.hi y.hi))

hull_of_within : (x y : Itv) → is_empty y ≡ false → IsTrue (is_within y x) → hull x y ≡ x
hull_of_within x y e h =
    let c = within_bounds y x e h in
    let low : int_min x.lo y.lo ≡ x.lo = grind (arith, ints) in
    let high : int_max x.hi y.hi ≡ x.hi = grind (arith, ints) in
    ap (λ p. interval p (int_max x.hi y.hi)) low ∙ ap (interval x.lo) high ∙ interval_of_bounds x

-- a join with a lower interval stays
pub join_of_within : (x y : Itv) → IsTrue (is_within y x) → join x y ≡ x
join_of_within x y h =
    cond_both (is_empty x) _ _ (λ w. w ≡ x) (λ e. no_number y (empty_in_empty x y e h) ∙ sym (no_number x e))
    (λ _. cond_both (is_empty y) _ _ (λ w. w ≡ x) (λ _. refl) (λ e. hull_of_within x y e h))

pub join_above_right : (x y : Itv) → IsTrue (is_within y (join x y))
join_above_right x y =
    join_cases (λ w. IsTrue (is_within y w)) x y (λ _. within_itself y) (empty_within y x)
    (within_interval y _ _ (min_right x.lo y.lo) (max_right x.hi y.hi))

pub meet_below_left : (x y : Itv) → IsTrue (is_within (meet x y) x)
meet_below_left x y = interval_within _ _ x (max_left x.lo y.lo) (min_left x.hi y.hi)

pub meet_below_right : (x y : Itv) → IsTrue (is_within (meet x y) y)
meet_below_right x y = interval_within _ _ y (max_right x.lo y.lo) (min_right x.hi y.hi)

within_meet : (x y : Itv) → IsTrue (is_within x y) → IsTrue (is_within x (meet x y))
within_meet x y h =
    elim (cases_Bool (is_empty x)) [
      | inl e ↦ empty_within x (meet x y) e
      | inr e ↦
          let c = within_bounds x y e h in
          within_interval x _ _ (above_max x.lo y.lo x.lo (omega (arith, ints)) c.0) (below_min x.hi y.hi x.hi (omega (arith, ints)) c.1)
    ]

pub meet_has : (x y : Itv) (z : ℤ) → IsIn x z → IsIn y z → IsIn (meet x y) z
meet_has x y z a b = interval_has _ _ z (number_of x z a) (above_max x.lo y.lo z a.0 b.0) (below_min x.hi y.hi z a.1 b.1)

pub meet_of_within : (x y : Itv) → IsTrue (is_within x y) → meet x y ≡ x
meet_of_within x y h = within_both (meet x y) x (meet_below_left x y) (within_meet x y h)

-- ---- widening by steps

module _ (steps : List ℤ) where
  pub widen_cases : (P : Itv → Type 0) (x y l : Itv) → (IsTrue (is_empty x) → P y) → (is_empty x ≡ false → IsTrue (is_empty y) → P x)
      → (is_empty x ≡ false → is_empty y ≡ false → P (interval (widened_low steps x y l) (widened_high steps x y l))) → P (widen steps x y l)
  widen_cases P x y l f g h = cond_both (is_empty x) _ _ P f (λ a. cond_both (is_empty y) _ _ P (g a) (h a))

  -- a lower bound stays at that of x or moves below that of y, and not beyond the limit's
  low_lies : (x y l : Itv) → l.lo ≤ℤ x.lo → l.lo ≤ℤ y.lo
      → (l.lo ≤ℤ widened_low steps x y l) × (widened_low steps x y l ≤ℤ x.lo) × (widened_low steps x y l ≤ℤ y.lo)
  low_lies x y l a b =
      cond_both (int_lt y.lo x.lo) _ _ (λ w. (l.lo ≤ℤ w) × (w ≤ℤ x.lo) × (w ≤ℤ y.lo))
      (λ moves. let h = down_within steps y.lo l.lo b in (h.0, grind (arith, ints), h.1))
      (λ stays. (a, omega (arith, ints), grind (arith, ints)))

  high_lies : (x y l : Itv) → x.hi ≤ℤ l.hi → y.hi ≤ℤ l.hi
      → (widened_high steps x y l ≤ℤ l.hi) × (x.hi ≤ℤ widened_high steps x y l) × (y.hi ≤ℤ widened_high steps x y l)
  high_lies x y l a b =
      cond_both (int_lt x.hi y.hi) _ _ (λ w. (w ≤ℤ l.hi) × (x.hi ≤ℤ w) × (y.hi ≤ℤ w))
      (λ moves. let h = up_within steps y.hi l.hi b in (h.1, grind (arith, ints), h.0))
      (λ stays. (a, omega (arith, ints), grind (arith, ints)))

  pub widen_above_left : (x y l : Itv) → IsTrue (is_within x l) → IsTrue (is_within y l) → IsTrue (is_within x (widen steps x y l))
  widen_above_left x y l a b =
      widen_cases (λ w. IsTrue (is_within x w)) x y l (empty_within x y) (λ _ _. within_itself x)
      (λ e f.
      let c = within_bounds x l e a in
      let d = within_bounds y l f b in
      within_interval x _ _ (low_lies x y l c.0 d.0).1 (high_lies x y l c.1 d.1).1)

  pub widen_above_right : (x y l : Itv) → IsTrue (is_within x l) → IsTrue (is_within y l) → IsTrue (is_within y (widen steps x y l))
  widen_above_right x y l a b =
      widen_cases (λ w. IsTrue (is_within y w)) x y l (λ _. within_itself y) (λ _. empty_within y x)
      (λ e f.
      let c = within_bounds x l e a in
      let d = within_bounds y l f b in
      within_interval y _ _ (low_lies x y l c.0 d.0).2 (high_lies x y l c.1 d.1).2)

  pub widen_within : (x y l : Itv) → IsTrue (is_within x l) → IsTrue (is_within y l) → IsTrue (is_within (widen steps x y l) l)
  widen_within x y l a b =
      widen_cases (λ w. IsTrue (is_within w l)) x y l (λ _. b) (λ _ _. a)
      (λ e f.
      let c = within_bounds x l e a in
      let d = within_bounds y l f b in
      interval_within _ _ l (low_lies x y l c.0 d.0).0 (high_lies x y l c.1 d.1).0)

  -- a lower interval moves no bound
  pub widen_of_within : (x y l : Itv) → IsTrue (is_within y x) → widen steps x y l ≡ x
  widen_of_within x y l h =
      widen_cases (λ w. w ≡ x) x y l (λ e. no_number y (empty_in_empty x y e h) ∙ sym (no_number x e)) (λ _ _. refl)
      (λ _ f.
      let c = within_bounds y x f h in
      let low : widened_low steps x y l ≡ x.lo = cond_both (int_lt y.lo x.lo) _ _ (λ w. w ≡ x.lo) (λ moves. absurd (grind (arith, ints))) (λ _. refl) in
      let high : widened_high steps x y l ≡ x.hi = cond_both (int_lt x.hi y.hi) _ _ (λ w. w ≡ x.hi) (λ moves. absurd (grind (arith, ints))) (λ _. refl) in
      ap (λ p. interval p (widened_high steps x y l)) low ∙ ap (interval x.lo) high ∙ interval_of_bounds x)

  -- where a bound moves, it has fewer moves left
  moved_low : (x y l : Itv) → l.lo ≤ℤ y.lo → (widened_low steps x y l ≡ x.lo) ⊎ (moves_down steps (widened_low steps x y l) l.lo < moves_down steps x.lo l.lo)
  moved_low x y l h =
      cond_both (int_lt y.lo x.lo) _ _ (λ w. (w ≡ x.lo) ⊎ (moves_down steps w l.lo < moves_down steps x.lo l.lo))
      (λ moves. inr (down_falls steps y.lo l.lo x.lo (grind (arith, ints)) h)) (λ _. inl refl)

  moved_high : (x y l : Itv) → y.hi ≤ℤ l.hi → (widened_high steps x y l ≡ x.hi) ⊎ (moves_up steps (widened_high steps x y l) l.hi < moves_up steps x.hi l.hi)
  moved_high x y l h =
      cond_both (int_lt x.hi y.hi) _ _ (λ w. (w ≡ x.hi) ⊎ (moves_up steps w l.hi < moves_up steps x.hi l.hi))
      (λ moves. inr (up_falls steps y.hi l.hi x.hi (grind (arith, ints)) h)) (λ _. inl refl)

  growth_of_some : (l x : Itv) → is_empty x ≡ false → growth steps l x ≡ moves_down steps x.lo l.lo + moves_up steps x.hi l.hi
  growth_of_some l x e = ap (λ b. cond b (3 + 2 * length steps) (moves_down steps x.lo l.lo + moves_up steps x.hi l.hi)) e

  growth_of_none : (l x : Itv) → IsTrue (is_empty x) → growth steps l x ≡ 3 + 2 * length steps
  growth_of_none l x e = ap (λ b. cond b (3 + 2 * length steps) (moves_down steps x.lo l.lo + moves_up steps x.hi l.hi)) e

  some_growth : (l x : Itv) → is_empty x ≡ false → growth steps l x ≤ 2 + 2 * length steps
  some_growth l x e = omega (arith, growth_of_some l x e, moves_down_bound steps x.lo l.lo, moves_up_bound steps x.hi l.hi)

  pub growth_bound : (l x : Itv) → growth steps l x ≤ 3 + 2 * length steps
  growth_bound l x =
      elim (cases_Bool (is_empty x)) [ inl e ↦ omega (arith, growth_of_none l x e) | inr e ↦ omega (arith, some_growth l x e) ]

  growth_from_empty : (l x y : Itv) → IsTrue (is_empty x) → (y ≡ x) ⊎ (growth steps l y < growth steps l x)
  growth_from_empty l x y e =
      elim (cases_Bool (is_empty y)) [
        | inl f ↦ inl (no_number y f ∙ sym (no_number x e))
        | inr f ↦ inr (omega (arith, growth_of_none l x e, some_growth l y f))
      ]

  falls_at : (l x w : Itv) (p q : ℤ) → is_empty x ≡ false → is_empty w ≡ false → w.lo ≡ p → w.hi ≡ q
      → (p ≡ x.lo) ⊎ (moves_down steps p l.lo < moves_down steps x.lo l.lo) → (q ≡ x.hi) ⊎ (moves_up steps q l.hi < moves_up steps x.hi l.hi)
      → (w ≡ x) ⊎ (growth steps l w < growth steps l x)
  falls_at l x w p q e f low high first second =
      let down : moves_down steps w.lo l.lo ≡ moves_down steps p l.lo = ap (λ z. moves_down steps z l.lo) low in
      let up : moves_up steps w.hi l.hi ≡ moves_up steps q l.hi = ap (λ z. moves_up steps z l.hi) high in
      elim first [
        | inl a ↦ elim second [
          | inl b ↦ inl (same_bounds w x (low ∙ a) (high ∙ b))
          | inr b ↦ inr (omega (arith, growth_of_some l w f, growth_of_some l x e, ap (λ z. moves_down steps z l.lo) a))
        ]
        | inr a ↦ elim second [
          | inl b ↦ inr (omega (arith, growth_of_some l w f, growth_of_some l x e, ap (λ z. moves_up steps z l.hi) b))
          | inr b ↦ inr (omega (arith, growth_of_some l w f, growth_of_some l x e))
        ]
      ]

  pub widen_falls : (x y l : Itv) → IsTrue (is_within x l) → IsTrue (is_within y l)
      → (widen steps x y l ≡ x) ⊎ (growth steps l (widen steps x y l) < growth steps l x)
  widen_falls x y l a b =
      widen_cases (λ w. (w ≡ x) ⊎ (growth steps l w < growth steps l x)) x y l (growth_from_empty l x y) (λ _ _. inl refl)
      (λ e f.
      let c = within_bounds x l e a in
      let d = within_bounds y l f b in
      let p = widened_low steps x y l in
      let q = widened_high steps x y l in
      let first = low_lies x y l c.0 d.0 in
      let second = high_lies x y l c.1 d.1 in
      let order : p ≤ℤ q = in_order x p q e first.1 second.1 in
      let low : (interval p q).lo ≡ p = interval_low p q (number_inside l.lo x.lo p l.lo_in_range x.lo_in_range first.0 first.1) (number_inside x.hi l.hi q x.hi_in_range l.hi_in_range second.1 second.0) order in
      let high : (interval p q).hi ≡ q = interval_high p q (number_inside l.lo x.lo p l.lo_in_range x.lo_in_range first.0 first.1) (number_inside x.hi l.hi q x.hi_in_range l.hi_in_range second.1 second.0) order in
      falls_at l x (interval p q) p q e (rw (low, high) (not_crossed p q order)) low high (moved_low x y l d.0) (moved_high x y l d.1))

-- ---- narrowing

pub narrow_cases : (P : Itv → Type 0) (x y l : Itv) → (IsTrue (is_empty x || is_empty y) → P empty)
    → ((is_empty x || is_empty y) ≡ false → P (interval (narrowed_low x y l) (narrowed_high x y l))) → P (narrow x y l)
narrow_cases P x y l f g = cond_both (is_empty x || is_empty y) _ _ P f g

pub narrow_has : (x y l : Itv) (z : ℤ) → IsIn x z → IsIn y z → IsIn (narrow x y l) z
narrow_has x y l z a b =
    narrow_cases (λ w. IsIn w z) x y l (λ e. absurd (either_empty x y z e a b))
    (λ e. interval_has _ _ z (number_of x z a) (grind (arith, ints)) (grind (arith, ints)))

pub narrow_below : (x y l : Itv) → IsTrue (is_within (narrow x y l) x)
narrow_below x y l =
    narrow_cases (λ w. IsTrue (is_within w x)) x y l (λ _. empty_within empty x refl)
    (λ e. interval_within _ _ x (grind (arith, ints)) (grind (arith, ints)))

pub narrow_empty : (x y l : Itv) → IsTrue (is_empty x) → IsTrue (is_empty (narrow x y l))
narrow_empty x y l e = grind (arith, ints)

-- where a bound moves, it was the limit's and isn't now
shrinks_at : (l x w : Itv) (p q : ℤ) → is_empty x ≡ false → is_empty w ≡ false → w.lo ≡ p → w.hi ≡ q
    → (p ≡ x.lo) ⊎ ((x.lo <ℤ p) × IsTrue (is_low_end x l)) → (q ≡ x.hi) ⊎ ((q <ℤ x.hi) × IsTrue (is_high_end x l))
    → (w ≡ x) ⊎ (shrinkage l w < shrinkage l x)
shrinks_at l x w p q e f low high (inl a) (inl b) = inl (same_bounds w x (low ∙ a) (high ∙ b))
shrinks_at l x w p q e f low high (inl a) (inr b) = inr (grind (arith, ints))
shrinks_at l x w p q e f low high (inr a) (inl b) = inr (grind (arith, ints))
shrinks_at l x w p q e f low high (inr a) (inr b) = inr (grind (arith, ints))

raised_low : (x y l : Itv) → (narrowed_low x y l ≡ x.lo) ⊎ ((x.lo <ℤ narrowed_low x y l) × IsTrue (is_low_end x l))
raised_low x y l = grind (arith, ints)

lowered_high : (x y l : Itv) → (narrowed_high x y l ≡ x.hi) ⊎ ((narrowed_high x y l <ℤ x.hi) × IsTrue (is_high_end x l))
lowered_high x y l = grind (arith, ints)

shrinkage_to_empty : (l x w : Itv) → is_empty x ≡ false → IsTrue (is_empty w) → shrinkage l w < shrinkage l x
shrinkage_to_empty l x w e f = grind (arith, ints)

pub narrow_falls : (x y l : Itv) → (narrow x y l ≡ x) ⊎ (shrinkage l (narrow x y l) < shrinkage l x)
narrow_falls x y l =
    let P : Itv → Type 0 = λ w. (w ≡ x) ⊎ (shrinkage l w < shrinkage l x) in
    narrow_cases P x y l
    (λ _. elim (cases_Bool (is_empty x)) [
      | inl e ↦ inl (sym (no_number x e))
      | inr e ↦ inr (shrinkage_to_empty l x empty e refl)
    ])
    (λ h.
    let p = narrowed_low x y l in
    let q = narrowed_high x y l in
    let some : is_empty x ≡ false = (or_parts _ _ h).0 in
    elim (cases_Bool (int_lt q p)) [
      | inl crossed ↦ inr (shrinkage_to_empty l x (interval p q) some (crossed_empty p q crossed))
      | inr ordered ↦
          let order : p ≤ℤ q = grind (arith, ints) in
          let low : (interval p q).lo ≡ p = interval_low p q (grind (arith, ints)) (grind (arith, ints)) order in
          let high : (interval p q).hi ≡ q = interval_high p q (grind (arith, ints)) (grind (arith, ints)) order in
          shrinks_at l x (interval p q) p q some (rw (low, high) (grind (arith, ints))) low high (raised_low x y l) (lowered_high x y l)
    ])

meet_empty : (x y : Itv) → IsTrue (is_empty x || is_empty y) → IsTrue (is_empty (meet x y))
meet_empty x y e = crossed_empty _ _ (grind (arith, ints, x.canonical, y.canonical))

-- no bound moves further than that of the meet
pub meet_below_narrow : (x y l : Itv) → IsTrue (is_within (meet x y) (narrow x y l))
meet_below_narrow x y l =
    narrow_cases (λ w. IsTrue (is_within (meet x y) w)) x y l (λ e. empty_within (meet x y) empty (meet_empty x y e))
    (λ e.
    let a : narrowed_low x y l ≤ℤ int_max x.lo y.lo = grind (arith, ints) in
    let b : int_min x.hi y.hi ≤ℤ narrowed_high x y l = grind (arith, ints) in
    interval_in_interval _ _ _ _ a b (grind (arith, ints)) (grind (arith, ints)))

-- a lower interval stays
pub narrow_of_within : (x y l : Itv) → IsTrue (is_within x y) → narrow x y l ≡ x
narrow_of_within x y l h =
    let P : Itv → Type 0 = λ w. IsTrue (is_within w (narrow x y l)) in
    within_both (narrow x y l) x (narrow_below x y l) (subst P (meet_of_within x y h) (meet_below_narrow x y l))

low_again : (x y l w : Itv) → w.lo ≡ narrowed_low x y l → narrowed_low w y l ≡ w.lo
low_again x y l w e = grind (arith, ints)

high_again : (x y l w : Itv) → w.hi ≡ narrowed_high x y l → narrowed_high w y l ≡ w.hi
high_again x y l w e = grind (arith, ints)

narrow_of_empty : (x y l : Itv) → IsTrue (is_empty x) → narrow x y l ≡ x
narrow_of_empty x y l e = no_number (narrow x y l) (narrow_empty x y l e) ∙ sym (no_number x e)

-- where no bound moves, the interval stays
pub narrow_stays : (x y l : Itv) → is_empty y ≡ false → narrowed_low x y l ≡ x.lo → narrowed_high x y l ≡ x.hi → narrow x y l ≡ x
narrow_stays x y l some low high =
    narrow_cases (λ w. w ≡ x) x y l
    (λ e. sym (no_number x (elim (or_cases _ _ e) [ inl f ↦ f | inr f ↦ absurd (both_ways _ some f) ])))
    (λ _. ap (λ a. interval a (narrowed_high x y l)) low ∙ ap (interval x.lo) high ∙ interval_of_bounds x)

-- narrowing once more moves nothing
pub narrow_again : (x y l : Itv) → narrow (narrow x y l) y l ≡ narrow x y l
narrow_again x y l =
    narrow_cases (λ w. narrow w y l ≡ w) x y l (λ _. narrow_of_empty empty y l refl)
    (λ some.
    let p = narrowed_low x y l in
    let q = narrowed_high x y l in
    elim (cases_Bool (int_lt q p)) [
      | inl crossed ↦ narrow_of_empty (interval p q) y l (crossed_empty p q crossed)
      | inr ordered ↦
          let order : p ≤ℤ q = grind (arith, ints) in
          let low : (interval p q).lo ≡ p = interval_low p q (grind (arith, ints)) (grind (arith, ints)) order in
          let high : (interval p q).hi ≡ q = interval_high p q (grind (arith, ints)) (grind (arith, ints)) order in
          narrow_stays (interval p q) y l (or_parts _ _ some).1 (low_again x y l (interval p q) low) (high_again x y l (interval p q) high)
    ])

pub shrinkage_bound : (l x : Itv) → shrinkage l x ≤ 3
shrinkage_bound l x = grind (arith, ints)
