-- Where the edges of a flow lead: what each step of a run rests on, beyond what an edge is by itself.
use Rattle.std.specs.Prelude.{◌≡◌, ℕ, suc, ◌-◌, ◌<◌, Bool, true, false, List, length, Option, Some, None, slice_get}
use Rattle.std.specs.Option.{option_map, option_and_then}
use Rattle.pas_program.specs.declared.program.Program.{Program}
use Rattle.control_points.specs.declared.edge.Act.{Act}
use Rattle.control_points.specs.declared.edge.Act.TheVariants as act
use Rattle.control_points.specs.declared.edge.Edge.{Edge}
use Rattle.control_points.specs.declared.point.Point.{Point}
use Rattle.control_points.specs.declared.point.PointKind.{PointKind}
use Rattle.control_points.specs.declared.point.PointKind.TheVariants as kind
use Rattle.control_points.specs.Chart.{entry_of, leaving}
use Rattle.control_points.specs.Fits.{routine_at, kind_at, act_at}

-- whether the activation that does an action goes on after it
abbrev pub goes_on_after : Act → Bool
goes_on_after (act.Call routine actuals slot at) = false
goes_on_after (act.Return call) = false
goes_on_after (act.Goto routine) = false
goes_on_after _ = true

-- each routine has an entry
pub record EntriesFit (program : Program) (points : List Point) : Type 0 where
  pub entry : (r : ℕ) → r < length program.routines → routine_at points (entry_of points r) ≡ Some r

-- An action leads to a point of the routine in which it stands, and a `goto` to one of the routine that it names.
pub record EdgesLead (points : List Point) (edges : List Edge) : Type 0 where
  pub inside : (k : ℕ) (e : Edge) → slice_get edges k ≡ Some e → goes_on_after e.act ≡ true → routine_at points e.to ≡ routine_at points e.from
  pub outside : (k r : ℕ) (e : Edge) → slice_get edges k ≡ Some e → e.act ≡ act.Goto r → routine_at points e.to ≡ Some r

-- ---- which actions leave a point together

-- where an action may not be the one to be done, the one that is to be done instead, which stands right after it
abbrev pub other_way : Act → Option Act
other_way (act.Test cond true) = Some (act.Test cond false)
other_way (act.Enter control bound first down last) = Some (act.Bypass control bound first down last)
other_way (act.Next control bound down) = Some (act.Finish control bound down)
other_way _ = None

-- an action that stands right after one of which it is the other way
abbrev pub is_other_way : Act → Bool
is_other_way (act.Test cond false) = true
is_other_way (act.Bypass control bound first down last) = true
is_other_way (act.Finish control bound down) = true
is_other_way _ = false

abbrev pub is_return : Act → Bool
is_return (act.Return call) = true
is_return _ = false

abbrev pub is_exit : PointKind → Bool
is_exit kind.Exit = true
is_exit _ = false

-- the point that an edge leaves
abbrev pub source_at : List Edge → ℕ → Option ℕ
source_at edges k = option_map (λ (e : Edge). e.from) (slice_get edges k)

-- every edge that leaves an exit is a return, and every return leaves one
pub record ExitsReturn (points : List Point) (edges : List Edge) : Type 0 where
  pub only : (k : ℕ) (e : Edge) → slice_get edges k ≡ Some e → kind_at points e.from ≡ Some kind.Exit → is_return e.act ≡ true
  pub back : (k : ℕ) (e : Edge) → slice_get edges k ≡ Some e → is_return e.act ≡ true → kind_at points e.from ≡ Some kind.Exit

-- Both ways leave one point. From each point but the exits an edge leads away; from the exits only returns do. A routine has one
-- exit, and the last point is that of the program's block.
pub record EdgesPair (main : ℕ) (points : List Point) (edges : List Edge) : Type 0 where
  pub followed : (k : ℕ) (e : Edge) (a : Act) → slice_get edges k ≡ Some e → other_way e.act ≡ Some a → act_at edges (suc k) ≡ Some a
  pub beside : (k : ℕ) (e : Edge) (a : Act) → slice_get edges k ≡ Some e → other_way e.act ≡ Some a → source_at edges (suc k) ≡ Some e.from
  pub preceded : (k : ℕ) (e : Edge) → slice_get edges k ≡ Some e → is_other_way e.act ≡ true → option_and_then other_way (act_at edges (k - 1)) ≡ Some e.act
  pub behind : (k : ℕ) (e : Edge) → slice_get edges k ≡ Some e → is_other_way e.act ≡ true → source_at edges (k - 1) ≡ Some e.from
  pub goes_on : (p : ℕ) (q : Point) → slice_get points p ≡ Some q → is_exit q.kind ≡ false → 0 < length (leaving edges p)
  pub returns : (k : ℕ) (e : Edge) (q : Point) → slice_get edges k ≡ Some e → slice_get points e.from ≡ Some q → is_return e.act ≡ is_exit q.kind
  pub exit_once : (p q r : ℕ) → kind_at points p ≡ Some kind.Exit → kind_at points q ≡ Some kind.Exit → routine_at points p ≡ Some r → routine_at points q ≡ Some r → p ≡ q
  pub last_exit : kind_at points (length points - 1) ≡ Some kind.Exit
  pub last_routine : routine_at points (length points - 1) ≡ Some main

-- ---- the points at which it may be that no action is to be done

abbrev pub is_arm : Act → Bool
is_arm (act.Arm selector constants) = true
is_arm _ = false

-- edges lead away from the point, and each is an arm of a `case`
pub record IsCase (edges : List Edge) (p : ℕ) : Type 0 where
  pub leads : 0 < length (leaving edges p)
  pub arms : (k : ℕ) (e : Edge) → slice_get edges k ≡ Some e → e.from ≡ p → is_arm e.act ≡ true

-- the exit of the program's block, where one activation is there
pub record IsAtEnd (points : List Point) (height p : ℕ) : Type 0 where
  pub alone : height ≡ 1
  pub exit : kind_at points p ≡ Some kind.Exit
