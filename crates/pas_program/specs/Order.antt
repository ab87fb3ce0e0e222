-- The order of a routine's variables, by which their storage is numbered.
use Rattle.std.specs.Prelude.{◌≡◌, ℕ, ◌<◌, Bool, true, ◌&&◌, ◌||◌, nat_eq, nat_lt, List, Some, slice_get}
use Rattle.pas_program.specs.declared.routine.Routine.{Routine}
use Rattle.pas_program.specs.declared.variable.VarDef.{VarDef}
use Rattle.pas_program.specs.declared.variable.VarKind.{VarKind}
use Rattle.pas_program.specs.declared.variable.VarKind.TheVariants as kind

-- parameters come first, then the variable part, the result, and the hidden variables for calls and for `for` statements
abbrev pub rank : VarKind → ℕ
rank kind.Value = 0
rank kind.Var = 0
rank kind.Local = 1
rank kind.Result = 2
rank kind.Slot = 3
rank kind.Bound = 4

-- by the rank, and within a rank by the place of the declaration
abbrev pub precedes : VarDef → VarDef → Bool
precedes x y = nat_lt (rank x.kind) (rank y.kind) || (nat_eq (rank x.kind) (rank y.kind) && nat_lt x.place y.place)

-- of two variables in a routine's list the earlier precedes the other, and its parameters are the first in it
pub record IsOrdered (vars : List VarDef) (d : Routine) : Type 0 where
  pub rises : (i j v w : ℕ) (x y : VarDef) → i < j → slice_get d.vars i ≡ Some v → slice_get d.vars j ≡ Some w → slice_get vars v ≡ Some x → slice_get vars w ≡ Some y → precedes x y ≡ true
  pub formals_first : (k v : ℕ) → slice_get d.formals k ≡ Some v → slice_get d.vars k ≡ Some v

pub record ListsOrdered (vars : List VarDef) (routines : List Routine) : Type 0 where
  pub each : (r : ℕ) (d : Routine) → slice_get routines r ≡ Some d → IsOrdered vars d
