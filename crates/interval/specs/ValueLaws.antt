-- The laws of values as a lattice.
use Rattle.std.specs.Prelude.{◌≡◌, ◌≢◌, ℕ, ◌+◌, ◌*◌, ◌<◌, ◌≤◌, ◌⊎◌, Bool, true, false, not, ◌&&◌, ◌||◌, IsTrue, List, length, Option, Some, None}
use Rattle.std.proofs.Common.{ℤ, arith, refl, inl, inr, ap, lit<, lit≤, ◌∙◌}
use Rattle.std.proofs.lemmas.Bool.{and_parts, and_from}
use Rattle.lattice.specs.Lattice.{IsLattice}
use Rattle.interval.specs.declared.itv.Itv.{Itv}
use Rattle.interval.specs.declared.val.Val.{Val}
use Rattle.interval.specs.Intervals.{is_empty, is_within}
use Rattle.interval.specs.Steps.{one_if}
use Rattle.interval.specs.Values.{Allows, allows_nothing, val_below, val_join, val_meet, val_widen, val_narrow, val_growth, val_shrinkage, val_ops, growth, shrinkage}
use Rattle.interval.specs.IntervalLaws.{within_itself, within_has, empty_within, empty_has_none, join_above_left, join_above_right, join_of_within, within_both, meet_below_left, meet_below_right, meet_has, meet_of_within, widen_above_left, widen_above_right, widen_within, widen_falls, widen_of_within, growth_bound, narrow_has, narrow_below, narrow_empty, narrow_falls, narrow_of_within, narrow_again, meet_below_narrow, shrinkage_bound}

-- ---- truth

implied_by_itself : (x : Bool) → IsTrue (not x || x)
implied_by_itself false = refl
implied_by_itself true = refl

implied_by_false : (x y : Bool) → IsTrue (not x) → IsTrue (not x || y)
implied_by_false x y h = rw h refl

implied : (x y : Bool) → IsTrue (not x || y) → IsTrue x → IsTrue y
implied false y b h = cc
implied true y b h = b

or_left : (x y : Bool) → IsTrue (not x || (x || y))
or_left false y = refl
or_left true y = refl

or_right : (x y : Bool) → IsTrue (not y || (x || y))
or_right false false = refl
or_right false true = refl
or_right true false = refl
or_right true true = refl

or_within : (x y l : Bool) → IsTrue (not x || l) → IsTrue (not y || l) → IsTrue (not (x || y) || l)
or_within false y l a b = b
or_within true y l a b = a

or_has_left : (x y : Bool) → IsTrue x → IsTrue (x || y)
or_has_left true y h = refl
or_has_left false y h = cc

or_has_right : (x y : Bool) → IsTrue y → IsTrue (x || y)
or_has_right false y h = h
or_has_right true y h = refl

and_left : (x y : Bool) → IsTrue (not (x && y) || x)
and_left false y = refl
and_left true false = refl
and_left true true = refl

and_right : (x y : Bool) → IsTrue (not (x && y) || y)
and_right false y = refl
and_right true false = refl
and_right true true = refl

and_has : (x y : Bool) → IsTrue x → IsTrue y → IsTrue (x && y)
and_has true y a b = b
and_has false y a b = a

and_nothing : (x y : Bool) → IsTrue (not x) → IsTrue (not (x && y))
and_nothing false y h = refl
and_nothing true y h = cc

both_below : (x y : Bool) → IsTrue (not x || y) → IsTrue (not y || x) → x ≡ y
both_below false false a b = refl
both_below false true a b = cc
both_below true false a b = cc
both_below true true a b = refl

and_of_below : (x y : Bool) → IsTrue (not x || y) → (x && y) ≡ x
and_of_below false y h = refl
and_of_below true y h = h

or_of_below : (x y : Bool) → IsTrue (not y || x) → (x || y) ≡ x
or_of_below true y h = refl
or_of_below false false h = refl
or_of_below false true h = cc

and_again : (x y : Bool) → ((x && y) && y) ≡ (x && y)
and_again false y = refl
and_again true false = refl
and_again true true = refl

-- `x || y` is x, or true where x is false; `x && y` is x, or false where x is true
or_falls : (x y : Bool) → ((x || y) ≡ x) ⊎ (one_if (not (x || y)) < one_if (not x))
or_falls false false = inl refl
or_falls false true = inr (lit< tt)
or_falls true y = inl refl

and_falls : (x y : Bool) → ((x && y) ≡ x) ⊎ (one_if (x && y) < one_if x)
and_falls false y = inl refl
and_falls true false = inr (lit< tt)
and_falls true true = inl refl

one_at_most : (x : Bool) → one_if x ≤ 1
one_at_most false = lit≤ tt
one_at_most true = lit≤ tt

-- ---- values part by part

below_parts : (v w : Val) → IsTrue (val_below v w) → IsTrue (not v.undef || w.undef) × IsTrue (is_within v.itv w.itv)
below_parts v w h = and_parts _ _ h

below_from : (v w : Val) → IsTrue (not v.undef || w.undef) → IsTrue (is_within v.itv w.itv) → IsTrue (val_below v w)
below_from v w a b = and_from _ _ a b

abbrev value : Bool → Itv → Val
value undef itv = record { undef = undef; itv = itv }

pub same_parts : (v w : Val) → v.undef ≡ w.undef → v.itv ≡ w.itv → v ≡ w
same_parts v w e f = ap (λ b. value b v.itv) e ∙ ap (value w.undef) f

-- a rank of two parts falls where a part changes and each part that changes has a falling rank
falls : (v w : Val) (m n p q : ℕ) → (w.undef ≡ v.undef) ⊎ (p < m) → (w.itv ≡ v.itv) ⊎ (q < n)
    → (w.undef ≡ v.undef → p ≡ m) → (w.itv ≡ v.itv → q ≡ n) → w ≢ v → p + q < m + n
falls v w m n p q (inl e) (inl f) same_undef same_itv differs = absurd (differs (same_parts w v e f))
falls v w m n p q (inl e) (inr f) same_undef same_itv differs = omega (arith, same_undef e)
falls v w m n p q (inr e) (inl f) same_undef same_itv differs = omega (arith, same_itv f)
falls v w m n p q (inr e) (inr f) same_undef same_itv differs = omega arith

clash : (x : Bool) → IsTrue (not x) → IsTrue x → ⊥
clash false h p = cc
clash true h p = cc

has_none : (v : Val) (p : Option ℤ) → IsTrue (allows_nothing v) → ¬ Allows v p
has_none v None h a = clash v.undef (and_parts _ _ h).0 a
has_none v (Some z) h a = empty_has_none v.itv z (and_parts _ _ h).1 a

nothing_below : (v w : Val) → IsTrue (allows_nothing v) → IsTrue (val_below v w)
nothing_below v w h =
    let parts : IsTrue (not v.undef) × IsTrue (is_empty v.itv) = and_parts _ _ h in
    and_from _ _ (implied_by_false v.undef w.undef parts.0) (empty_within v.itv w.itv parts.1)

below_itself : (v : Val) → IsTrue (val_below v v)
below_itself v = and_from _ _ (implied_by_itself v.undef) (within_itself v.itv)

below_has : (v w : Val) (p : Option ℤ) → IsTrue (val_below v w) → Allows v p → Allows w p
below_has v w None h a = implied v.undef w.undef (below_parts v w h).0 a
below_has v w (Some z) h a = within_has v.itv w.itv z (below_parts v w h).1 a

join_left : (v w : Val) → IsTrue (val_below v (val_join v w))
join_left v w = and_from _ _ (or_left v.undef w.undef) (join_above_left v.itv w.itv)

join_right : (v w : Val) → IsTrue (val_below w (val_join v w))
join_right v w = and_from _ _ (or_right v.undef w.undef) (join_above_right v.itv w.itv)

meet_left : (v w : Val) → IsTrue (val_below (val_meet v w) v)
meet_left v w = and_from _ _ (and_left v.undef w.undef) (meet_below_left v.itv w.itv)

meet_right : (v w : Val) → IsTrue (val_below (val_meet v w) w)
meet_right v w = and_from _ _ (and_right v.undef w.undef) (meet_below_right v.itv w.itv)

val_meet_has : (v w : Val) (p : Option ℤ) → Allows v p → Allows w p → Allows (val_meet v w) p
val_meet_has v w None a b = and_has v.undef w.undef a b
val_meet_has v w (Some z) a b = meet_has v.itv w.itv z a b

val_narrow_has : (v w l : Val) (p : Option ℤ) → Allows v p → Allows w p → Allows (val_narrow v w l) p
val_narrow_has v w l None a b = and_has v.undef w.undef a b
val_narrow_has v w l (Some z) a b = narrow_has v.itv w.itv l.itv z a b

val_both_below : (v w : Val) → IsTrue (val_below v w) → IsTrue (val_below w v) → v ≡ w
val_both_below v w a b =
    same_parts v w (both_below v.undef w.undef (below_parts v w a).0 (below_parts w v b).0)
    (within_both v.itv w.itv (below_parts v w a).1 (below_parts w v b).1)

pub val_join_of_below : (v w : Val) → IsTrue (val_below w v) → val_join v w ≡ v
val_join_of_below v w h =
    same_parts (val_join v w) v (or_of_below v.undef w.undef (below_parts w v h).0) (join_of_within v.itv w.itv (below_parts w v h).1)

pub val_meet_of_below : (v w : Val) → IsTrue (val_below v w) → val_meet v w ≡ v
val_meet_of_below v w h =
    same_parts (val_meet v w) v (and_of_below v.undef w.undef (below_parts v w h).0) (meet_of_within v.itv w.itv (below_parts v w h).1)

-- every value is one that an element can have
pub val_element : (v : Val) → val_meet v v ≡ v
val_element v = val_meet_of_below v v (below_itself v)

pub val_widen_of_below : (steps : List ℤ) (v w l : Val) → IsTrue (val_below w v) → val_widen steps v w l ≡ v
val_widen_of_below steps v w l h =
    same_parts (val_widen steps v w l) v (or_of_below v.undef w.undef (below_parts w v h).0)
    (widen_of_within steps v.itv w.itv l.itv (below_parts w v h).1)

module _ (steps : List ℤ) (v w l : Val) (within : IsTrue (val_below v l)) (within' : IsTrue (val_below w l)) where
  widen_left : IsTrue (val_below v (val_widen steps v w l))
  widen_left =
      and_from _ _ (or_left v.undef w.undef)
      (widen_above_left steps v.itv w.itv l.itv (below_parts v l within).1 (below_parts w l within').1)

  widen_right : IsTrue (val_below w (val_widen steps v w l))
  widen_right =
      and_from _ _ (or_right v.undef w.undef)
      (widen_above_right steps v.itv w.itv l.itv (below_parts v l within).1 (below_parts w l within').1)

  val_widen_within : IsTrue (val_below (val_widen steps v w l) l)
  val_widen_within =
      and_from _ _ (or_within v.undef w.undef l.undef (below_parts v l within).0 (below_parts w l within').0)
      (widen_within steps v.itv w.itv l.itv (below_parts v l within).1 (below_parts w l within').1)

  val_widen_falls : val_widen steps v w l ≢ v → val_growth steps l (val_widen steps v w l) < val_growth steps l v
  val_widen_falls =
      falls v (val_widen steps v w l) _ _ _ _ (or_falls v.undef w.undef)
      (widen_falls steps v.itv w.itv l.itv (below_parts v l within).1 (below_parts w l within').1)
      (ap (λ b. one_if (not b))) (ap (growth steps l.itv))

val_growth_bound : (steps : List ℤ) (v l : Val) → val_growth steps l v ≤ 4 + 2 * length steps
val_growth_bound steps v l = omega (arith, one_at_most (not v.undef), growth_bound steps l.itv v.itv)

val_shrinkage_bound : (steps : List ℤ) (v l : Val) → val_shrinkage l v ≤ 4 + 2 * length steps
val_shrinkage_bound steps v l = omega (arith, one_at_most v.undef, shrinkage_bound l.itv v.itv)

val_narrow_below : (v w l : Val) → IsTrue (val_below (val_narrow v w l) v)
val_narrow_below v w l = and_from _ _ (and_left v.undef w.undef) (narrow_below v.itv w.itv l.itv)

val_narrow_nothing : (v w l : Val) → IsTrue (allows_nothing v) → IsTrue (allows_nothing (val_narrow v w l))
val_narrow_nothing v w l h =
    let parts : IsTrue (not v.undef) × IsTrue (is_empty v.itv) = and_parts _ _ h in
    and_from _ _ (and_nothing v.undef w.undef parts.0) (narrow_empty v.itv w.itv l.itv parts.1)

val_narrow_falls : (v w l : Val) → val_narrow v w l ≢ v → val_shrinkage l (val_narrow v w l) < val_shrinkage l v
val_narrow_falls v w l =
    falls v (val_narrow v w l) _ _ _ _ (and_falls v.undef w.undef) (narrow_falls v.itv w.itv l.itv)
    (ap one_if) (ap (shrinkage l.itv))

pub val_narrow_of_below : (v w l : Val) → IsTrue (val_below v w) → val_narrow v w l ≡ v
val_narrow_of_below v w l h =
    same_parts (val_narrow v w l) v (and_of_below v.undef w.undef (below_parts v w h).0) (narrow_of_within v.itv w.itv l.itv (below_parts v w h).1)

val_narrow_again : (v w l : Val) → val_narrow (val_narrow v w l) w l ≡ val_narrow v w l
val_narrow_again v w l =
    same_parts (val_narrow (val_narrow v w l) w l) (val_narrow v w l) (and_again v.undef w.undef) (narrow_again v.itv w.itv l.itv)

val_meet_below_narrow : (v w l : Val) → IsTrue (val_below (val_meet v w) (val_narrow v w l))
val_meet_below_narrow v w l = and_from _ _ (implied_by_itself (v.undef && w.undef)) (meet_below_narrow v.itv w.itv l.itv)

pub val_laws : IsLattice val_ops Allows
val_laws = record {
  bottom_shape = λ _. refl;
  bottom_is_bottom = λ _. refl;
  bottom_has_none = has_none;
  bottom_below = λ v w _. nothing_below v w;
  below_itself = below_itself;
  below_has = λ v w p _. below_has v w p;
  below_both = λ v w _. val_both_below v w;
  join_shape = λ _ _ _. refl;
  join_above_left = λ v w _. join_left v w;
  join_above_right = λ v w _. join_right v w;
  join_has_left = λ v w p _. below_has v (val_join v w) p (join_left v w);
  join_has_right = λ v w p _. below_has w (val_join v w) p (join_right v w);
  meet_shape = λ _ _ _. refl;
  meet_below_left = λ v w _. meet_left v w;
  meet_below_right = λ v w _. meet_right v w;
  meet_has = λ v w p _. val_meet_has v w p;
  meet_element = λ v w _. val_element (val_meet v w);
  meet_of_below = λ v w _ _. val_meet_of_below v w;
  widen_shape = λ _ _ _ _ _ _. refl;
  widen_above_left = λ v w l steps h _. widen_left steps v w l h.left_below h.right_below;
  widen_above_right = λ v w l steps h _. widen_right steps v w l h.left_below h.right_below;
  widen_within = λ v w l steps h _. val_widen_within steps v w l h.left_below h.right_below;
  widen_falls = λ v w l steps h _. val_widen_falls steps v w l h.left_below h.right_below;
  widen_of_below = λ v w l steps _ _. val_widen_of_below steps v w l;
  narrow_shape = λ _ _ _ _. refl;
  narrow_has = λ v w l p _. val_narrow_has v w l p;
  narrow_below = λ v w l _. val_narrow_below v w l;
  narrow_bottom = λ v w l _. val_narrow_nothing v w l;
  narrow_falls = λ v w l _. val_narrow_falls v w l;
  narrow_again = λ v w l _. val_narrow_again v w l;
  meet_below_narrow = λ v w l _. val_meet_below_narrow v w l;
  widening_bound = λ v l steps _. val_growth_bound steps v l;
  narrowing_bound = λ v l steps _. val_shrinkage_bound steps v l;
}
