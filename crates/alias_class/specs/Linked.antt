-- What the links of a call join: cells of the class that calls with cells of the class that it enters.
use Rattle.std.specs.Prelude.{◌≡◌, ℕ, ◌+◌, ◌<◌, Bool, false, ◌&&◌, List, nat_le, nat_lt, Some, slice_get}
use Rattle.alias_class.specs.declared.bind.Link.{Link}
use Rattle.alias_class.specs.declared.outline.Outline.{Outline}
use Rattle.alias_class.specs.Cells.{cell_count, inherited_count, own_count, routine_of}
use Rattle.alias_class.specs.Classes.{Class}

-- whether a cell of a class is that of a variable of its routine's own
abbrev pub is_own_cell : Outline → Class → ℕ → Bool
is_own_cell o c cell = nat_le (inherited_count o c) cell && nat_lt cell (inherited_count o c + own_count o (routine_of o c))

-- the link that leads to a cell
pub record IsLinked (links : List Link) (cell : ℕ) : Type 0 where
  pub place : ℕ
  pub link : Link
  pub known : slice_get links place ≡ Some link
  pub leads : link.callee ≡ cell

-- Each cell of the callee that is inherited or foreign is linked, and no other one is. No two links have a cell of either class in common.
pub record LinksShare (o : Outline) (caller callee : Class) (links : List Link) : Type 0 where
  pub from_cells : (i : ℕ) (l : Link) → slice_get links i ≡ Some l → l.caller < cell_count o caller
  pub to_cells : (i : ℕ) (l : Link) → slice_get links i ≡ Some l → l.callee < cell_count o callee
  pub from_different : (i j : ℕ) (l m : Link) → slice_get links i ≡ Some l → slice_get links j ≡ Some m → l.caller ≡ m.caller → i ≡ j
  pub to_different : (i j : ℕ) (l m : Link) → slice_get links i ≡ Some l → slice_get links j ≡ Some m → l.callee ≡ m.callee → i ≡ j
  pub to_shared : (i : ℕ) (l : Link) → slice_get links i ≡ Some l → is_own_cell o callee l.callee ≡ false
  pub each_shared : (cell : ℕ) → cell < cell_count o callee → is_own_cell o callee cell ≡ false → IsLinked links cell
