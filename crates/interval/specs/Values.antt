-- Values of cells: whether a cell may be undefined, and the numbers that it may hold. They are a lattice with the widening of
-- intervals by steps to the bounds of a limit (after Cousot and Cousot, POPL 1977) and a narrowing that moves only bounds of the
-- limit.
use Rattle.std.specs.Prelude.{ℕ, ◌+◌, ◌*◌, Bool, false, not, ◌&&◌, ◌||◌, IsTrue, List, length, Option, Some, None, if◌then◌else◌, ℤ, int_lt}
use Rattle.std.specs.Int.{int_min, int_max}
use Rattle.std.specs.Ordering.{int_eq}
use Rattle.lattice.specs.Lattice.{Ops}
use Rattle.interval.specs.declared.itv.Itv.{Itv}
use Rattle.interval.specs.declared.val.Val.{Val}
use Rattle.interval.specs.Intervals.{IsIn, is_empty, empty, interval, meet, join, is_within}
use Rattle.interval.specs.Steps.{step_up, step_down, moves_up, moves_down, one_if}

-- a cell of this value may be undefined, or hold the number
abbrev pub Allows : Val → Option ℤ → Type 0
Allows v None = IsTrue v.undef
Allows v (Some z) = IsIn v.itv z

abbrev pub allows_nothing : Val → Bool
allows_nothing v = not v.undef && is_empty v.itv

abbrev pub nothing : Val
nothing = record { undef = false; itv = empty }

abbrev pub val_below : Val → Val → Bool
val_below v w = (not v.undef || w.undef) && is_within v.itv w.itv

abbrev pub val_join : Val → Val → Val
val_join v w = record { undef = v.undef || w.undef; itv = join v.itv w.itv }

abbrev pub val_meet : Val → Val → Val
val_meet v w = record { undef = v.undef && w.undef; itv = meet v.itv w.itv }

-- ---- widening: a bound of y that lies outside x moves to the next step, or to the limit's bound where none comes before it

abbrev pub widened_low : List ℤ → Itv → Itv → Itv → ℤ
widened_low steps x y limit = if int_lt y.lo x.lo then step_down steps y.lo limit.lo else x.lo

abbrev pub widened_high : List ℤ → Itv → Itv → Itv → ℤ
widened_high steps x y limit = if int_lt x.hi y.hi then step_up steps y.hi limit.hi else x.hi

abbrev pub widen : List ℤ → Itv → Itv → Itv → Itv
widen steps x y limit =
    if is_empty x then y
    else (if is_empty y then x
    else interval (widened_low steps x y limit) (widened_high steps x y limit))

abbrev pub val_widen : List ℤ → Val → Val → Val → Val
val_widen steps v w limit = record { undef = v.undef || w.undef; itv = widen steps v.itv w.itv limit.itv }

-- ---- narrowing: a bound of x that is the limit's becomes the tighter one of x and y

-- the bounds of an empty limit are no bounds
abbrev pub is_low_end : Itv → Itv → Bool
is_low_end x limit = not (is_empty limit) && int_eq x.lo limit.lo

abbrev pub is_high_end : Itv → Itv → Bool
is_high_end x limit = not (is_empty limit) && int_eq x.hi limit.hi

abbrev pub narrowed_low : Itv → Itv → Itv → ℤ
narrowed_low x y limit = if is_low_end x limit then int_max x.lo y.lo else x.lo

abbrev pub narrowed_high : Itv → Itv → Itv → ℤ
narrowed_high x y limit = if is_high_end x limit then int_min x.hi y.hi else x.hi

abbrev pub narrow : Itv → Itv → Itv → Itv
narrow x y limit =
    if is_empty x || is_empty y then empty
    else interval (narrowed_low x y limit) (narrowed_high x y limit)

abbrev pub val_narrow : Val → Val → Val → Val
val_narrow v w limit = record { undef = v.undef && w.undef; itv = narrow v.itv w.itv limit.itv }

-- ---- how often a value can still change

-- an empty interval can get numbers, and then each bound can move to the limit's
abbrev pub growth : List ℤ → Itv → Itv → ℕ
growth steps limit x =
    if is_empty x then 3 + 2 * length steps
    else moves_down steps x.lo limit.lo + moves_up steps x.hi limit.hi

-- each bound can leave the limit's, and then an interval can become empty
abbrev pub shrinkage : Itv → Itv → ℕ
shrinkage limit x =
    if is_empty x then 0
    else 1 + one_if (is_low_end x limit) + one_if (is_high_end x limit)

abbrev pub val_growth : List ℤ → Val → Val → ℕ
val_growth steps limit v = one_if (not v.undef) + growth steps limit.itv v.itv

abbrev pub val_shrinkage : Val → Val → ℕ
val_shrinkage limit v = one_if v.undef + shrinkage limit.itv v.itv

abbrev pub val_ops : Ops Val
val_ops = record {
  shape = λ _. 0;
  bottom = λ _. nothing;
  is_bottom = allows_nothing;
  below = val_below;
  join = val_join;
  meet = val_meet;
  widen = λ v w limit steps. val_widen steps v w limit;
  narrow = val_narrow;
  widening_rank = λ limit steps v. val_growth steps limit v;
  narrowing_rank = val_shrinkage;
  height = λ _ steps. 4 + 2 * length steps;
}
