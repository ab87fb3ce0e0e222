-- What holds of the edges and checks of a flow while they are listed.
use Rattle.std.specs.Prelude.{◌≡◌, ℕ, suc, ◌-◌, ◌<◌, ◌≤◌, Bool, true, false, List, map, length, take, Option, Some, None, slice_get, slice_index}
use Rattle.pas_program.specs.declared.program.Program.{Program}
use Rattle.pas_program.specs.Checked.{numbers_in, scope_in, tables}
use Rattle.control_points.specs.declared.check.Check.{Check}
use Rattle.control_points.specs.declared.edge.Act.{Act}
use Rattle.control_points.specs.declared.edge.Act.TheVariants as act
use Rattle.control_points.specs.declared.edge.Edge.{Edge}
use Rattle.control_points.specs.declared.numbering.Mark.{Mark}
use Rattle.control_points.specs.declared.point.Point.{Point}
use Rattle.control_points.specs.declared.point.PointKind.{PointKind}
use Rattle.control_points.specs.declared.point.PointKind.TheVariants as kind
use Rattle.control_points.specs.Acts.{each_act, act_types_fit}
use Rattle.control_points.specs.Fits.{routine_at, kind_at, CallsReturn, ChecksFit}
use Rattle.control_points.specs.Leading.{goes_on_after, is_exit, is_return}

abbrev pub points_of : List Mark → List Point
points_of marks = map (λ (m : Mark). m.point) marks

abbrev pub asserts_of : List Mark → List (List ℕ)
asserts_of marks = map (λ (m : Mark). m.asserts) marks

-- the numbers, types and scopes of an action of the routine r fit
pub record ActFits (program : Program) (r : ℕ) (a : Act) : Type 0 where
  pub numbers : each_act (numbers_in program) a ≡ true
  pub types : act_types_fit (tables program) a ≡ true
  pub scopes : each_act (scope_in program r) a ≡ true

-- an edge by itself, between points of which the first is of the routine r
pub record EdgeFits (program : Program) (points : List Point) (e : Edge) : Type 0 where
  pub source : e.from < length points
  pub target : e.to < length points
  pub numbers : each_act (numbers_in program) e.act ≡ true
  pub types : act_types_fit (tables program) e.act ≡ true
  pub scopes : (q : Point) → slice_get points e.from ≡ Some q → each_act (scope_in program q.routine) e.act ≡ true
  pub inside : goes_on_after e.act ≡ true → routine_at points e.to ≡ routine_at points e.from
  pub outside : (r : ℕ) → e.act ≡ act.Goto r → routine_at points e.to ≡ Some r
  pub returns : kind_at points e.from ≡ Some kind.Exit → is_return e.act ≡ true
  pub returned : is_return e.act ≡ true → kind_at points e.from ≡ Some kind.Exit

pub record IsWired (program : Program) (points : List Point) (edges : List Edge) : Type 0 where
  pub each : (k : ℕ) (e : Edge) → slice_get edges k ≡ Some e → EdgeFits program points e
  pub calls : CallsReturn points edges

-- checks of points up to n, in the order of their points
pub record IsJudged (points : List Point) (checks : List Check) (n : ℕ) : Type 0 where
  pub fit : ChecksFit points checks
  pub most : (k : ℕ) (c : Check) → slice_get checks k ≡ Some c → c.point ≤ n

pub record IsGraph (program : Program) (points : List Point) (edges : List Edge) (checks : List Check) (n : ℕ) : Type 0 where
  pub wired : IsWired program points edges
  pub judged : IsJudged points checks n

-- ---- where the points of a routine stand

-- whether there is an exit
abbrev pub is_exit_at : Option PointKind → Bool
is_exit_at None = false
is_exit_at (Some k) = is_exit k

-- the points from the entry to the exit are of the routine r, and no other is its exit
pub record IsBlock (points : List Point) (r entry exit : ℕ) : Type 0 where
  pub order : entry < exit
  pub entry_own : routine_at points entry ≡ Some r
  pub entry_kind : kind_at points entry ≡ Some kind.Entry
  pub exit_own : routine_at points exit ≡ Some r
  pub exit_kind : kind_at points exit ≡ Some kind.Exit
  pub own : (p : ℕ) → entry < p → p < exit → routine_at points p ≡ Some r
  pub inner : (p : ℕ) → entry < p → p < exit → is_exit_at (kind_at points p) ≡ false

-- the points of each routine, by the list of their entries
pub record AreBlocks (points : List Point) (count : ℕ) (entries : List ℕ) : Type 0 where
  pub starts : length entries ≡ suc count
  pub block : (r : ℕ) → r < count → IsBlock points r (slice_index entries r) (slice_index entries (suc r) - 1)

-- the list begins with the other one
abbrev pub Begins : List ℕ → List ℕ → Type 0
Begins xs ys = take (length xs) ys ≡ xs
