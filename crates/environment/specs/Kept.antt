-- How an environment is kept: the values of its cells in a list that has memory for its room.
use Rattle.std.specs.Prelude.{◌≡◌, ℕ, ◌+◌, ◌-◌, ◌≤◌, Bool, true, false, IsTrue, IsFalse, List, length, if◌then◌else◌, refl}
use Rattle.std.proofs.Common.{arith}
use Rattle.interval.specs.declared.val.Val.{Val}
use Rattle.environment.specs.Environments.{Environment, cell_count, has_empty_cell, settled, IsProper}
use Rattle.environment.specs.Environments.Environment.{Unreachable, Reachable}

-- An environment of which each cell allows something, and how many cells more it has room for.
pub record Roomy : Type 0 where
  pub env : Environment
  pub spare : ℕ
  pub proper : IsProper env

-- how many cells it has room for
abbrev pub room_of : Roomy → ℕ
room_of e = cell_count e.env + e.spare

pub fits_its_room : (e : Roomy) → cell_count e.env ≤ room_of e
fits_its_room e = omega arith

settled_by : (vs : List Val) (b : Bool) → has_empty_cell vs ≡ b → IsProper (if b then Unreachable (length vs) else Reachable vs)
settled_by vs true e = refl
settled_by vs false e = e

pub kept_proper : (reachable : Bool) (count : ℕ) (cells : List Val) → IsProper (if reachable then settled cells else Unreachable count)
kept_proper true count cells = settled_by cells (has_empty_cell cells) refl
kept_proper false count cells = refl

-- where it is reachable, the list has the values of its cells
abbrev pub kept : Bool → ℕ → ℕ → List Val → Roomy
kept reachable count room cells = record {
  env = if reachable then settled cells else Unreachable count;
  spare = room - count;
  proper = kept_proper reachable count cells;
}

-- There is memory for the room and room for the cells. Where it is reachable, the list has its cells, and each of them
-- allows something.
pub record IsKept (reachable : Bool) (count room capacity : ℕ) (cells : List Val) : Type 0 where
  pub fits : count ≤ room
  pub has_memory : room ≤ capacity
  pub counted : IsTrue reachable → length cells ≡ count
  pub something : IsTrue reachable → IsFalse (has_empty_cell cells)
