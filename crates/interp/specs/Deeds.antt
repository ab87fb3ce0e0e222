-- What an action that is to be done may ask of a machine: which activation goes on, what changes in the storage, and the input
-- that is left.
use Rattle.std.specs.Prelude.{◌≡◌, ℕ, suc, ◌+◌, ◌-◌, ◌<◌, ◌≤◌, Bool, false, List, length, ℤ, Option, Some, None, is_some, Result, IfOk, IfSome, slice_get, slice_set, ◌++◌, take, drop}
use Rattle.std.specs.Option.{option_map, option_and_then}
use Rattle.arithmetic.specs.Numbers.{IsNumber}
use Rattle.pas_program.specs.declared.expr.Actual.{Actual}
use Rattle.pas_program.specs.declared.program.Program.{Program}
use Rattle.pas_program.specs.declared.variable.VarDef.{VarDef}
use Rattle.pas_program.specs.declared.variable.VarKind.TheVariants as kind
use Rattle.pas_program.specs.Tables.{Head, Tables, is_kind}
use Rattle.control_points.specs.declared.edge.Act.{Act}
use Rattle.control_points.specs.declared.edge.Act.TheVariants as act
use Rattle.control_points.specs.declared.edge.Edge.{Edge}
use Rattle.control_points.specs.declared.flow.Flow.{Flow}
use Rattle.control_points.specs.declared.fault.Fault.{Fault}
use Rattle.interp.specs.declared.decide.Change.{Change}
use Rattle.interp.specs.declared.decide.Change.TheVariants as change
use Rattle.interp.specs.declared.decide.Deed.{Deed}
use Rattle.interp.specs.declared.decide.Deed.TheVariants as deed
use Rattle.interp.specs.declared.decide.Effect.{Effect}
use Rattle.interp.specs.declared.frame.Frame.{Frame}
use Rattle.interp.specs.Layouts.{count_of}
use Rattle.interp.specs.Machines.{AreItems, end_of, routine_of, top_of, top_point}

-- a value of the type t begins at the scalar a
abbrev pub HasRoom : Program → List Frame → ℕ → ℕ → Type 0
HasRoom p frames t a = a + count_of p t ≤ (end_of p frames).scalars

-- the variable v, which is no variable parameter, is one of the activation at the depth d
pub record IsOwn (p : Program) (frames : List Frame) (d v : ℕ) : Type 0 where
  pub frame : Frame
  pub var : VarDef
  pub activation : slice_get frames d ≡ Some frame
  pub known : slice_get p.vars v ≡ Some var
  pub own : var.routine ≡ frame.routine
  pub no_link : is_kind kind.Var var.kind ≡ false

-- what may be stored
abbrev pub IsContent : Option ℤ → Type 0
IsContent None = Unit {0}
IsContent (Some z) = IsNumber z

abbrev pub IsChange : Program → List Frame → Change → Type 0
IsChange p frames change.Nothing = Unit {0}
IsChange p frames (change.Set a v) = (a < (end_of p frames).scalars) × IsContent v
IsChange p frames (change.Start a x b y) = (a < (end_of p frames).scalars) × (b < (end_of p frames).scalars) × IsNumber x × IsNumber y
IsChange p frames (change.Copy a b n) = (a + n ≤ (end_of p frames).scalars) × (b + n ≤ (end_of p frames).scalars)

-- a change of n scalars, and what comes of it
abbrev pub FitsIn : ℕ → Change → Type 0
FitsIn n change.Nothing = Unit {0}
FitsIn n (change.Set a v) = a < n
FitsIn n (change.Start a x b y) = (a < n) × (b < n)
FitsIn n (change.Copy a b count) = (a + count ≤ n) × (b + count ≤ n)

abbrev pub changed : List (Option ℤ) → Change → List (Option ℤ)
changed scalars change.Nothing = scalars
changed scalars (change.Set a v) = slice_set scalars a v
changed scalars (change.Start a x b y) = slice_set (slice_set scalars a (Some x)) b (Some y)
changed scalars (change.Copy a b count) = take a scalars ++ (take count (drop b scalars) ++ drop (a + count) scalars)

-- an effect is in the bounds of the machine
pub record IsEffect (p : Program) (frames : List Frame) (e : Effect) : Type 0 where
  pub depth : e.depth < length frames
  pub change : IsChange p frames e.change
  pub items : AreItems e.items.now

-- it is one by which the activation at the depth d goes on
abbrev pub LandsAt : Program → List Frame → ℕ → Deed → Type 0
LandsAt p frames d (deed.Lands effect) = (effect.depth ≡ d) × IsEffect p frames effect
LandsAt p frames d (deed.Calls routine actuals) = ⊥

abbrev pub AreSafe : Program → List Frame → ℕ → Result (Option Deed) Fault → Type 0
AreSafe p frames d r = IfOk r (λ o. IfSome o (LandsAt p frames d))

-- the point that an edge leaves, and that to which it leads
abbrev pub source_of : List Edge → ℕ → Option ℕ
source_of edges k = option_map (λ (e : Edge). e.from) (slice_get edges k)

abbrev pub target_of : List Edge → ℕ → Option ℕ
target_of edges k = option_map (λ (e : Edge). e.to) (slice_get edges k)

-- the edge of the call that made the latest activation
abbrev pub top_call : List Frame → Option ℕ
top_call frames = option_and_then (λ (g : Frame). g.call) (slice_get frames (top_of frames))

-- edges that leave the point p
abbrev pub AreOnward : List Edge → ℕ → List ℕ → Type 0
AreOnward edges p ks = (i k : ℕ) → slice_get ks i ≡ Some k → source_of edges k ≡ Some p

-- The latest activation returns by the edge k: it leaves the activation's point, right after the edge of the call that made it.
pub record IsWayBack (edges : List Edge) (frames : List Frame) (k : ℕ) : Type 0 where
  pub call : ℕ
  pub made : top_call frames ≡ Some call
  pub after : k ≡ suc call
  pub leaves : source_of edges k ≡ Some (top_point frames)

abbrev pub IsTheCall : ℕ → List Actual → Deed → Type 0
IsTheCall routine actuals (deed.Lands effect) = ⊥
IsTheCall routine actuals (deed.Calls r passed) = (r ≡ routine) × (passed.now ≡ actuals)

-- What an action may ask: a call, its actuals; a return, that the activation below goes on; a `goto`, that the one of its routine
-- does; any other action, that the latest does.
abbrev pub IsAsked : Program → List Frame → Act → Deed → Type 0
IsAsked p frames (act.Call routine actuals slot at) d = IsTheCall routine actuals d
IsAsked p frames (act.Return call) d = LandsAt p frames (top_of frames - 1) d × (top_call frames ≡ Some call)
IsAsked p frames (act.Goto routine) d = (n : ℕ) × (routine_of frames n ≡ Some routine) × LandsAt p frames n d
IsAsked p frames _ d = LandsAt p frames (top_of frames) d

-- the edge k leaves the point where the latest activation stands, and its action asks for this
pub record IsDeedOf (flow : Flow) (frames : List Frame) (k : ℕ) (d : Deed) : Type 0 where
  pub edge : Edge
  pub known : slice_get flow.edges k ≡ Some edge
  pub leaves : edge.from ≡ top_point frames
  pub asked : IsAsked flow.program frames edge.act d

-- the variable for the result of a routine, and whether there is one
abbrev pub result_in : Tables → ℕ → Option ℕ
result_in t r = option_and_then (λ (h : Head). h.result) (t.head_at r)

abbrev pub is_function : Tables → ℕ → Bool
is_function t r = is_some (result_in t r)
