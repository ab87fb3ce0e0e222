-- Which routines have a `goto` to a label of another one, and which classes are of such a routine.
use Rattle.std.specs.Prelude.{◌≡◌, ◌≢◌, ◌⊎◌, ℕ, ◌<◌, Bool, true, false, List, Some, slice_get, length}
use Rattle.control_points.specs.declared.edge.Act.{Act}
use Rattle.control_points.specs.declared.edge.Act.TheVariants as act
use Rattle.control_points.specs.declared.edge.Edge.{Edge}
use Rattle.control_points.specs.declared.flow.Flow.{Flow}
use Rattle.control_points.specs.Fits.{routine_at}
use Rattle.alias_class.specs.Cells.{routine_of}
use Rattle.alias_class.specs.Classes.{class_at}
use Rattle.alias_class.specs.Tables.{Table}

-- a `goto` to a label of a routine other than this one
abbrev pub LeadsOut : Act → ℕ → Type 0
LeadsOut action stands = (target : ℕ) × (action ≡ act.Goto target) × (target ≢ stands)

-- one of the first n edges is such a `goto` in the routine r
pub record HasGoto (f : Flow) (n r : ℕ) : Type 0 where
  pub number : ℕ
  pub edge : Edge
  pub before : number < n
  pub known : slice_get f.edges number ≡ Some edge
  pub stands : routine_at f.points edge.from ≡ Some r
  pub out : LeadsOut edge.act r

-- the marks of the routines that have one
pub record AreLeaving (f : Flow) (n : ℕ) (marks : List Bool) : Type 0 where
  pub long : length marks ≡ length f.program.routines
  pub marked : (r : ℕ) → slice_get marks r ≡ Some true → HasGoto f n r
  pub all : (r : ℕ) → HasGoto f n r → slice_get marks r ≡ Some true

-- the mark of a class of the routine r: whether it is neither left nor of this routine
pub record IsOther (left : List Bool) (stands i r : ℕ) (mark : Bool) : Type 0 where
  pub free : mark ≡ true → slice_get left i ≡ Some false
  pub apart : mark ≡ true → r ≢ stands
  pub dropped : mark ≡ false → (slice_get left i ≡ Some true) ⊎ (r ≡ stands)

-- those of the first n classes
pub record AreOthers (t : Table) (left : List Bool) (stands n : ℕ) (marks : List Bool) : Type 0 where
  pub long : length marks ≡ length t.classes
  pub each : (i : ℕ) (b : Bool) → i < n → slice_get marks i ≡ Some b → IsOther left stands i (routine_of t.outline (class_at t.classes i)) b

-- the marks of the first n classes, each that of its routine
pub record AreOfRoutines (t : Table) (routines : List Bool) (n : ℕ) (marks : List Bool) : Type 0 where
  pub long : length marks ≡ n
  pub each : (i : ℕ) → i < n → slice_get marks i ≡ slice_get routines (routine_of t.outline (class_at t.classes i))
