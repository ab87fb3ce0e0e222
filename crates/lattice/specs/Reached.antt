-- The least lattice that is no single point, as an example of how the laws are met: whether a place is reached.
use Rattle.std.specs.Prelude.{◌≡◌, ◌≢◌, ℕ, ◌<◌, ◌≤◌, Bool, true, false, not, ◌&&◌, ◌||◌, IsTrue, refl}
use Rattle.std.proofs.Common.{lit<, lit≤}
use Rattle.lattice.specs.Lattice.{Ops, IsLattice}

-- the rank of an element is one where it can change still
abbrev rank : Bool → ℕ
rank true = 1
rank false = 0

abbrev pub reached_ops : Ops Bool
reached_ops = record {
  shape = λ _. 0;
  bottom = λ _. false;
  is_bottom = not;
  below = λ x y. not x || y;
  join = λ x y. x || y;
  meet = λ x y. x && y;
  widen = λ x y _ _. x || y;
  narrow = λ x y _. x && y;
  widening_rank = λ _ _ x. rank (not x);
  narrowing_rank = λ _ x. rank x;
  height = λ _ _. 1;
}

-- the one point is there where the place is reached
abbrev pub reached_has : Bool → Unit {0} → Type 0
reached_has x _ = IsTrue x

-- `x || y` is x or true, and differs from x only where x is false
or_falls : (x y : Bool) → (x || y) ≢ x → rank (not (x || y)) < rank (not x)
or_falls false false differs = absurd (differs refl)
or_falls false true differs = lit< tt
or_falls true y differs = absurd (differs refl)

and_falls : (x y : Bool) → (x && y) ≢ x → rank (x && y) < rank x
and_falls false y differs = absurd (differs refl)
and_falls true false differs = lit< tt
and_falls true true differs = absurd (differs refl)

rank_bound : (x : Bool) → rank x ≤ 1
rank_bound false = lit≤ tt
rank_bound true = lit≤ tt

implied_by_itself : (x : Bool) → IsTrue (not x || x)
implied_by_itself false = refl
implied_by_itself true = refl

implied_by_false : (x y : Bool) → IsTrue (not x) → IsTrue (not x || y)
implied_by_false x y h = rw h refl

implied : (x y : Bool) → IsTrue (not x || y) → IsTrue x → IsTrue y
implied false y b h = cc
implied true y b h = b

or_left : (x y : Bool) → IsTrue (not x || (x || y))
or_left false y = refl
or_left true y = refl

or_right : (x y : Bool) → IsTrue (not y || (x || y))
or_right false false = refl
or_right false true = refl
or_right true false = refl
or_right true true = refl

and_left : (x y : Bool) → IsTrue (not (x && y) || x)
and_left false y = refl
and_left true false = refl
and_left true true = refl

and_right : (x y : Bool) → IsTrue (not (x && y) || y)
and_right false y = refl
and_right true false = refl
and_right true true = refl

or_within : (x y l : Bool) → IsTrue (not x || l) → IsTrue (not y || l) → IsTrue (not (x || y) || l)
or_within false y l a b = b
or_within true y l a b = a

has_none : (x : Bool) → IsTrue (not x) → ¬ IsTrue x
has_none false h p = cc
has_none true h p = cc

or_has_left : (x y : Bool) → IsTrue x → IsTrue (x || y)
or_has_left true y h = refl
or_has_left false y h = cc

or_has_right : (x y : Bool) → IsTrue y → IsTrue (x || y)
or_has_right false y h = h
or_has_right true y h = refl

and_has : (x y : Bool) → IsTrue x → IsTrue y → IsTrue (x && y)
and_has true y a b = b
and_has false y a b = a

and_bottom : (x y : Bool) → IsTrue (not x) → IsTrue (not (x && y))
and_bottom false y h = refl
and_bottom true y h = cc

both_below : (x y : Bool) → IsTrue (not x || y) → IsTrue (not y || x) → x ≡ y
both_below false false a b = refl
both_below false true a b = cc
both_below true false a b = cc
both_below true true a b = refl

pub and_itself : (x : Bool) → (x && x) ≡ x
and_itself false = refl
and_itself true = refl

and_of_below : (x y : Bool) → IsTrue (not x || y) → (x && y) ≡ x
and_of_below false y h = refl
and_of_below true y h = h

or_of_below : (x y : Bool) → IsTrue (not y || x) → (x || y) ≡ x
or_of_below true y h = refl
or_of_below false false h = refl
or_of_below false true h = cc

and_again : (x y : Bool) → ((x && y) && y) ≡ (x && y)
and_again false y = refl
and_again true false = refl
and_again true true = refl

pub reached_laws : IsLattice reached_ops reached_has
reached_laws = record {
  bottom_shape = λ _. refl;
  bottom_is_bottom = λ _. refl;
  bottom_has_none = λ x _. has_none x;
  bottom_below = λ x y _. implied_by_false x y;
  below_itself = implied_by_itself;
  below_has = λ x y _ _. implied x y;
  below_both = λ x y _. both_below x y;
  join_shape = λ _ _ _. refl;
  join_above_left = λ x y _. or_left x y;
  join_above_right = λ x y _. or_right x y;
  join_has_left = λ x y _ _. or_has_left x y;
  join_has_right = λ x y _ _. or_has_right x y;
  meet_shape = λ _ _ _. refl;
  meet_below_left = λ x y _. and_left x y;
  meet_below_right = λ x y _. and_right x y;
  meet_has = λ x y _ _. and_has x y;
  meet_element = λ x y _. and_itself (x && y);
  meet_of_below = λ x y _ _. and_of_below x y;
  widen_shape = λ _ _ _ _ _ _. refl;
  widen_above_left = λ x y _ _ _ _. or_left x y;
  widen_above_right = λ x y _ _ _ _. or_right x y;
  widen_within = λ x y l _ w _. or_within x y l w.left_below w.right_below;
  widen_falls = λ x y _ _ _ _. or_falls x y;
  widen_of_below = λ x y _ _ _ _. or_of_below x y;
  narrow_shape = λ _ _ _ _. refl;
  narrow_has = λ x y _ _ _. and_has x y;
  narrow_below = λ x y _ _. and_left x y;
  narrow_bottom = λ x y _ _. and_bottom x y;
  narrow_falls = λ x y _ _. and_falls x y;
  narrow_again = λ x y _ _. and_again x y;
  meet_below_narrow = λ x y _ _. implied_by_itself (x && y);
  widening_bound = λ x _ _ _. rank_bound (not x);
  narrowing_bound = λ x _ _ _. rank_bound x;
}
