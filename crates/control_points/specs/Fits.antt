-- What holds of the points, edges, checks and assertions of a flow, as its consumers use it.
use Rattle.std.specs.Prelude.{◌≡◌, ℕ, suc, ◌<◌, ◌≤◌, Bool, true, false, List, length, nat_lt, nat_eq, Option, Some, None, slice_get}
use Rattle.std.specs.List.{list_all}
use Rattle.std.specs.Option.{option_map}
use Rattle.pas_program.specs.declared.program.Program.{Program}
use Rattle.pas_program.specs.Tables.{holds_of}
use Rattle.pas_program.specs.Checked.{numbers_in, scope_in, tables}
use Rattle.control_points.specs.declared.check.Check.{Check}
use Rattle.control_points.specs.declared.edge.Act.{Act}
use Rattle.control_points.specs.declared.edge.Act.TheVariants as act
use Rattle.control_points.specs.declared.edge.Edge.{Edge}
use Rattle.control_points.specs.declared.point.Point.{Point}
use Rattle.control_points.specs.declared.point.PointKind.{PointKind}
use Rattle.control_points.specs.declared.point.PointKind.TheVariants as kind
use Rattle.control_points.specs.Acts.{each_act, act_types_fit}
use Rattle.control_points.specs.Chart.{leaving, arriving}

-- the routine of a point
abbrev pub routine_at : List Point → ℕ → Option ℕ
routine_at points p = option_map (λ (q : Point). q.routine) (slice_get points p)

-- the kind of a point
abbrev pub kind_at : List Point → ℕ → Option PointKind
kind_at points p = option_map (λ (q : Point). q.kind) (slice_get points p)

-- the action of an edge
abbrev pub act_at : List Edge → ℕ → Option Act
act_at edges k = option_map (λ (e : Edge). e.act) (slice_get edges k)

-- the routine that an action calls
abbrev pub callee_of : Act → Option ℕ
callee_of (act.Call routine actuals slot at) = Some routine
callee_of _ = None

-- whether it is the return of the call at the edge k
abbrev pub is_return_of : ℕ → Act → Bool
is_return_of k (act.Return j) = nat_eq j k
is_return_of k _ = false

-- each point is of a routine of the program
pub record PointsFit (program : Program) (points : List Point) : Type 0 where
  pub routine : (p : ℕ) (q : Point) → slice_get points p ≡ Some q → q.routine < length program.routines

-- Each edge leads from a point to a point, and the numbers, types and scopes of its action fit, as those of the statements
-- of the routine in which it begins.
pub record EdgesFit (program : Program) (points : List Point) (edges : List Edge) : Type 0 where
  pub source : (k : ℕ) (e : Edge) → slice_get edges k ≡ Some e → e.from < length points
  pub target : (k : ℕ) (e : Edge) → slice_get edges k ≡ Some e → e.to < length points
  pub numbers : (k : ℕ) (e : Edge) → slice_get edges k ≡ Some e → each_act (numbers_in program) e.act ≡ true
  pub types : (k : ℕ) (e : Edge) → slice_get edges k ≡ Some e → act_types_fit (tables program) e.act ≡ true
  pub scopes : (k : ℕ) (e : Edge) (q : Point) → slice_get edges k ≡ Some e → slice_get points e.from ≡ Some q → each_act (scope_in program q.routine) e.act ≡ true

-- A call leads to the entry of its routine. The edge after it is its return, from that routine's exit to a point of the routine
-- in which the call stands. There is no other return.
pub record CallsReturn (points : List Point) (edges : List Edge) : Type 0 where
  pub entry : (k r : ℕ) (e : Edge) → slice_get edges k ≡ Some e → callee_of e.act ≡ Some r → kind_at points e.to ≡ Some kind.Entry
  pub entered : (k r : ℕ) (e : Edge) → slice_get edges k ≡ Some e → callee_of e.act ≡ Some r → routine_at points e.to ≡ Some r
  pub return : (k r : ℕ) (e : Edge) → slice_get edges k ≡ Some e → callee_of e.act ≡ Some r → holds_of (is_return_of k) (act_at edges (suc k)) ≡ true
  pub exit : (k r : ℕ) (e f : Edge) → slice_get edges k ≡ Some e → slice_get edges (suc k) ≡ Some f → callee_of e.act ≡ Some r → kind_at points f.from ≡ Some kind.Exit
  pub exited : (k r : ℕ) (e f : Edge) → slice_get edges k ≡ Some e → slice_get edges (suc k) ≡ Some f → callee_of e.act ≡ Some r → routine_at points f.from ≡ Some r
  pub resumed : (k r : ℕ) (e f : Edge) → slice_get edges k ≡ Some e → slice_get edges (suc k) ≡ Some f → callee_of e.act ≡ Some r → routine_at points f.to ≡ routine_at points e.from
  pub called : (k j : ℕ) (e : Edge) → slice_get edges k ≡ Some e → e.act ≡ act.Return j → k ≡ suc j

-- Each check is of a point, and they stand in the order of their points.
pub record ChecksFit (points : List Point) (checks : List Check) : Type 0 where
  pub point : (k : ℕ) (c : Check) → slice_get checks k ≡ Some c → c.point < length points
  pub order : (j k : ℕ) (c d : Check) → j ≤ k → slice_get checks j ≡ Some c → slice_get checks k ≡ Some d → c.point ≤ d.point

-- Each point has a list of assertions of the program.
pub record AssertsFit (program : Program) (points : List Point) (asserts : List (List ℕ)) : Type 0 where
  pub lists : length asserts ≡ length points
  pub numbers : (p : ℕ) (listed : List ℕ) → slice_get asserts p ≡ Some listed → list_all (λ a. nat_lt a (length program.asserts)) listed ≡ true

-- The numbers of the edges by the point that they leave, and by the point that they lead to.
pub record EdgesListed (points : List Point) (edges : List Edge) (outgoing incoming : List (List ℕ)) : Type 0 where
  pub leaving : (p : ℕ) → p < length points → slice_get outgoing p ≡ Some (leaving edges p)
  pub arriving : (p : ℕ) → p < length points → slice_get incoming p ≡ Some (arriving edges p)
