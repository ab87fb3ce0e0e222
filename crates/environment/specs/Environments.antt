-- Environments: what each cell of a control point may hold, or that the point is not reached (Bourdoncle, PLDI 1993).
-- They are a lattice cell by cell, in which an environment with a cell that allows nothing is not reached.
use Rattle.std.specs.Prelude.{ℕ, ◌+◌, ◌*◌, Bool, true, false, not, List, [], ◌∷◌, length, replicate, slice_index_or, slice_set, Option, ℤ, if◌then◌else◌, All, ⊤, IsFalse}
use Rattle.std.specs.List.{list_any}
use Rattle.lattice.specs.Lattice.{Ops}
use Rattle.interval.specs.declared.val.Val.{Val}
use Rattle.interval.specs.Intervals.{empty}
use Rattle.interval.specs.Values.{Allows, allows_nothing, nothing, val_join, val_meet, val_widen, val_narrow, val_growth, val_shrinkage}
use Rattle.environment.specs.Pointwise.{each, each_within, each_below, total}

-- not reached, with so many cells, or reached with these values in the cells
pub data Environment : Type 0 where
  Unreachable : ℕ → Environment
  Reachable : List Val → Environment

abbrev pub cell_count : Environment → ℕ
cell_count (Unreachable n) = n
cell_count (Reachable vs) = length vs

abbrev pub is_reachable : Environment → Bool
is_reachable (Unreachable n) = false
is_reachable (Reachable vs) = true

-- the values of the cells, of which there are none where it is unreachable
abbrev pub values : Environment → List Val
values (Unreachable n) = []
values (Reachable vs) = vs

abbrev pub value_at : Environment → ℕ → Val
value_at env cell = slice_index_or (values env) cell nothing

-- a value that is undefined alone
abbrev pub undefined : Val
undefined = record { undef = true; itv = empty }

-- all cells undefined
abbrev pub started : ℕ → Environment
started cells = Reachable (replicate cells undefined)

-- a cell allows nothing
abbrev pub has_empty_cell : List Val → Bool
has_empty_cell vs = list_any allows_nothing vs

-- with these values in the cells, and so unreachable where one of them allows nothing
abbrev pub settled : List Val → Environment
settled vs = if has_empty_cell vs then Unreachable (length vs) else Reachable vs

-- it is one that can be: each cell allows something
abbrev pub IsProper : Environment → Type 0
IsProper env = IsFalse (has_empty_cell (values env))

-- ---- changes of one cell

-- the cell gets the value
abbrev pub after_set : Environment → ℕ → Val → Environment
after_set (Unreachable n) cell v = Unreachable n
after_set (Reachable vs) cell v =
    if allows_nothing v then Unreachable (length vs) else Reachable (slice_set vs cell v)

-- the value is joined to that of the cell, of which it may be a part
abbrev pub after_weak_set : Environment → ℕ → Val → Environment
after_weak_set (Unreachable n) cell v = Unreachable n
after_weak_set (Reachable vs) cell v =
    Reachable (slice_set vs cell (val_join (slice_index_or vs cell nothing) v))

-- ---- meaning

-- a cell of this value may hold these elements, of which there is one at least; a scalar is its one element
abbrev pub MayHold : Val → List (Option ℤ) → Type 0
MayHold v [] = ⊥
MayHold v (e ∷ es) = Allows v e × All (Allows v) es

-- each cell may hold what the store has for it
abbrev pub CoversCells : List Val → List (List (Option ℤ)) → Type 0
CoversCells [] [] = ⊤
CoversCells [] (es ∷ store) = ⊥
CoversCells (v ∷ vs) [] = ⊥
CoversCells (v ∷ vs) (es ∷ store) = MayHold v es × CoversCells vs store

abbrev pub Covers : Environment → List (List (Option ℤ)) → Type 0
Covers (Unreachable n) store = ⊥
Covers (Reachable vs) store = CoversCells vs store

-- ---- the lattice

abbrev pub env_below : Environment → Environment → Bool
env_below (Unreachable n) y = true
env_below (Reachable vs) (Unreachable n) = false
env_below (Reachable vs) (Reachable ws) = each_below vs ws

abbrev pub env_join : Environment → Environment → Environment
env_join (Unreachable n) y = y
env_join (Reachable vs) (Unreachable n) = Reachable vs
env_join (Reachable vs) (Reachable ws) = Reachable (each val_join vs ws)

abbrev pub env_meet : Environment → Environment → Environment
env_meet (Unreachable n) y = Unreachable n
env_meet (Reachable vs) (Unreachable n) = Unreachable n
env_meet (Reachable vs) (Reachable ws) = settled (each val_meet vs ws)

-- the limits of the cells; an unreachable limit has no bound at any cell
abbrev pub limits : Environment → List Val
limits (Unreachable n) = replicate n nothing
limits (Reachable ls) = ls

abbrev pub env_widen : List ℤ → Environment → Environment → Environment → Environment
env_widen steps (Unreachable n) y limit = y
env_widen steps (Reachable vs) (Unreachable n) limit = Reachable vs
env_widen steps (Reachable vs) (Reachable ws) limit = Reachable (each_within (val_widen steps) vs ws (limits limit))

abbrev pub env_narrow : Environment → Environment → Environment → Environment
env_narrow (Unreachable n) y limit = Unreachable n
env_narrow (Reachable vs) (Unreachable n) limit = Unreachable n
env_narrow (Reachable vs) (Reachable ws) limit = settled (each_within val_narrow vs ws (limits limit))

-- ---- how often an environment can still change

-- it can be reached, and then each cell can grow
abbrev pub growth : List ℤ → Environment → Environment → ℕ
growth steps limit (Unreachable n) = 1 + (4 + 2 * length steps) * n
growth steps limit (Reachable vs) = total (val_growth steps) (limits limit) vs

-- each cell can shrink, and then it can become unreachable
abbrev pub shrinkage : Environment → Environment → ℕ
shrinkage limit (Unreachable n) = 0
shrinkage limit (Reachable vs) = 1 + total val_shrinkage (limits limit) vs

abbrev pub env_ops : Ops Environment
env_ops = record {
  shape = cell_count;
  bottom = Unreachable;
  is_bottom = λ x. not (is_reachable x);
  below = env_below;
  join = env_join;
  meet = env_meet;
  widen = λ x y limit steps. env_widen steps x y limit;
  narrow = env_narrow;
  widening_rank = λ limit steps x. growth steps limit x;
  narrowing_rank = shrinkage;
  height = λ limit steps. 1 + (4 + 2 * length steps) * cell_count limit;
}
