-- A lattice of finite height with a widening and a narrowing, as abstract interpretation asks for (Cousot and Cousot,
-- POPL 1977; Bourdoncle, FMPA 1993): the functions that its calls compute, and the laws of these functions.
use Rattle.std.specs.Prelude.{◌≡◌, ◌≢◌, ℕ, ◌<◌, ◌≤◌, Bool, IsTrue, List, ℤ}
use Rattle.std.specs.List.Sorted.{IsStrictlySortedBy}
use Rattle.std.specs.Ordering.{int_cmp}

-- The numbers at which a widening stops before it goes to the limit: each is greater than those before it.
abbrev pub AreSteps : List ℤ → Type 0
AreSteps steps = IsStrictlySortedBy int_cmp steps

-- The functions of a lattice over the plain values V. Elements are compared only with elements of their own shape,
-- as an environment only with one of as many cells.
pub record Ops (V : Type 0) : Type 0 where
  pub shape : V → ℕ
  -- the least element of a shape, which stands for no point
  pub bottom : ℕ → V
  pub is_bottom : V → Bool
  pub below : V → V → Bool
  pub join : V → V → V
  pub meet : V → V → V
  -- `widen x y limit steps` and `narrow x y limit`
  pub widen : V → V → V → List ℤ → V
  pub narrow : V → V → V → V
  -- `widening_rank limit steps x`: how often x can still grow by widening within the limit by these steps
  pub widening_rank : V → List ℤ → V → ℕ
  -- `narrowing_rank limit x`: how often x can still shrink by narrowing within the limit
  pub narrowing_rank : V → V → ℕ
  -- `height limit steps`: the greatest rank in a limit with these steps
  pub height : V → List ℤ → ℕ

-- A value that an element can have: it is the meet with itself. A list of cells of which one is empty is none, say.
abbrev pub IsElement : {V : Type 0} → Ops V → V → Type 0
IsElement o x = o.meet x x ≡ x

-- x, y and limit have one shape
pub record AreAlike {V : Type 0} (o : Ops V) (x y limit : V) : Type 0 where
  pub left : o.shape x ≡ o.shape limit
  pub right : o.shape y ≡ o.shape limit

-- x and y have the shape of limit and lie within it
pub record AreWithin {V : Type 0} (o : Ops V) (x y limit : V) : Type 0 where
  pub left : o.shape x ≡ o.shape limit
  pub right : o.shape y ≡ o.shape limit
  pub left_below : IsTrue (o.below x limit)
  pub right_below : IsTrue (o.below y limit)

-- The laws of a lattice whose value x stands for the points p with `has x p`. They are asked of all values of V,
-- also of those that no element has.
pub record IsLattice {V P : Type 0} (o : Ops V) (has : V → P → Type 0) : Type 0 where
  -- the least element
  pub bottom_shape : (x : V) → o.shape (o.bottom (o.shape x)) ≡ o.shape x
  pub bottom_is_bottom : (x : V) → IsTrue (o.is_bottom (o.bottom (o.shape x)))
  pub bottom_has_none : (x : V) (p : P) → IsTrue (o.is_bottom x) → ¬ has x p
  pub bottom_below : (x y : V) → o.shape x ≡ o.shape y → IsTrue (o.is_bottom x) → IsTrue (o.below x y)
  -- the order
  pub below_itself : (x : V) → IsTrue (o.below x x)
  pub below_has : (x y : V) (p : P) → o.shape x ≡ o.shape y → IsTrue (o.below x y) → has x p → has y p
  pub below_both : (x y : V) → o.shape x ≡ o.shape y → IsTrue (o.below x y) → IsTrue (o.below y x) → x ≡ y
  -- the join
  pub join_shape : (x y : V) → o.shape x ≡ o.shape y → o.shape (o.join x y) ≡ o.shape x
  pub join_above_left : (x y : V) → o.shape x ≡ o.shape y → IsTrue (o.below x (o.join x y))
  pub join_above_right : (x y : V) → o.shape x ≡ o.shape y → IsTrue (o.below y (o.join x y))
  pub join_has_left : (x y : V) (p : P) → o.shape x ≡ o.shape y → has x p → has (o.join x y) p
  pub join_has_right : (x y : V) (p : P) → o.shape x ≡ o.shape y → has y p → has (o.join x y) p
  -- the meet
  pub meet_shape : (x y : V) → o.shape x ≡ o.shape y → o.shape (o.meet x y) ≡ o.shape x
  pub meet_below_left : (x y : V) → o.shape x ≡ o.shape y → IsTrue (o.below (o.meet x y) x)
  pub meet_below_right : (x y : V) → o.shape x ≡ o.shape y → IsTrue (o.below (o.meet x y) y)
  pub meet_has : (x y : V) (p : P) → o.shape x ≡ o.shape y → has x p → has y p → has (o.meet x y) p
  pub meet_element : (x y : V) → o.shape x ≡ o.shape y → IsElement o (o.meet x y)
  pub meet_of_below : (x y : V) → o.shape x ≡ o.shape y → IsElement o x → IsTrue (o.below x y) → o.meet x y ≡ x
  -- the widening
  pub widen_shape : (x y l : V) (steps : List ℤ) → AreWithin o x y l → AreSteps steps → o.shape (o.widen x y l steps) ≡ o.shape l
  pub widen_above_left : (x y l : V) (steps : List ℤ) → AreWithin o x y l → AreSteps steps → IsTrue (o.below x (o.widen x y l steps))
  pub widen_above_right : (x y l : V) (steps : List ℤ) → AreWithin o x y l → AreSteps steps → IsTrue (o.below y (o.widen x y l steps))
  pub widen_within : (x y l : V) (steps : List ℤ) → AreWithin o x y l → AreSteps steps → IsTrue (o.below (o.widen x y l steps) l)
  pub widen_falls : (x y l : V) (steps : List ℤ) → AreWithin o x y l → AreSteps steps → o.widen x y l steps ≢ x
      → o.widening_rank l steps (o.widen x y l steps) < o.widening_rank l steps x
  pub widen_of_below : (x y l : V) (steps : List ℤ) → AreWithin o x y l → AreSteps steps → IsTrue (o.below y x) → o.widen x y l steps ≡ x
  -- the narrowing
  pub narrow_shape : (x y l : V) → AreAlike o x y l → o.shape (o.narrow x y l) ≡ o.shape l
  pub narrow_has : (x y l : V) (p : P) → AreAlike o x y l → has x p → has y p → has (o.narrow x y l) p
  pub narrow_below : (x y l : V) → AreAlike o x y l → IsTrue (o.below (o.narrow x y l) x)
  pub narrow_bottom : (x y l : V) → AreAlike o x y l → IsTrue (o.is_bottom x) → IsTrue (o.is_bottom (o.narrow x y l))
  pub narrow_falls : (x y l : V) → AreAlike o x y l → o.narrow x y l ≢ x
      → o.narrowing_rank l (o.narrow x y l) < o.narrowing_rank l x
  pub narrow_again : (x y l : V) → AreAlike o x y l → o.narrow (o.narrow x y l) y l ≡ o.narrow x y l
  pub meet_below_narrow : (x y l : V) → AreAlike o x y l → IsTrue (o.below (o.meet x y) (o.narrow x y l))
  -- the ranks
  pub widening_bound : (x l : V) (steps : List ℤ) → o.shape x ≡ o.shape l → o.widening_rank l steps x ≤ o.height l steps
  pub narrowing_bound : (x l : V) (steps : List ℤ) → o.shape x ≡ o.shape l → o.narrowing_rank l x ≤ o.height l steps
