-- Which state a machine is in.
use Rattle.std.specs.Prelude.{◌≡◌, ℕ, ◌+◌, ◌<◌, true, List, [], ◌∷◌, length, nat_eq, ℤ, Option, Some, None, slice_get, unwrap_or, if◌then◌else◌}
use Rattle.pas_program.specs.declared.program.Program.{Program}
use Rattle.pas_program.specs.declared.variable.VarDef.{VarDef}
use Rattle.pas_program.specs.declared.variable.VarKind.TheVariants as kind
use Rattle.pas_program.specs.Tables.{is_kind}
use Rattle.pas_program.specs.Types.{is_scalar}
use Rattle.control_points.specs.Finding.{bound_to}
use Rattle.control_points.specs.States.{Activation, Stack, State}
use Rattle.control_points.specs.Storage.{Place, Store}
use Rattle.interp.specs.declared.frame.Frame.{Frame}
use Rattle.interp.specs.declared.machine.Machine.{Machine}
use Rattle.interp.specs.Layouts.{extent_before}
use Rattle.interp.specs.Places.{Lies}

-- the activation at a depth of the stack
abbrev pub activation_at : Stack → ℕ → Option Activation
activation_at [] d = None
activation_at (a ∷ below) d = if nat_eq d (length below) then Some a else activation_at below d

-- what a scalar holds
abbrev pub content : List (Option ℤ) → ℕ → Option ℤ
content scalars a = unwrap_or (slice_get scalars a) None

-- the place for which the variable parameter v, which is x, stands in an activation at the depth d: the link leads there
pub record IsBound (p : Program) (frames : List Frame) (links : List ℕ) (d : ℕ) (g : Frame) (a : Activation) (v : ℕ) (x : VarDef) : Type 0 where
  pub place : Place
  pub address : ℕ
  pub bound : bound_to v a.frame.bindings ≡ Some place
  pub below : place.depth < d
  pub link : slice_get links (g.base.links + (extent_before p x.routine v).links) ≡ Some address
  pub lies : Lies p frames place address x.of_type

-- the frame g keeps the activation a, which is at the depth d
pub record IsKept (p : Program) (frames : List Frame) (links : List ℕ) (d : ℕ) (g : Frame) (a : Activation) : Type 0 where
  pub known : a.frame.routine ≡ g.routine
  pub call : a.frame.call ≡ g.call
  pub parent : a.frame.parent ≡ g.parent
  pub point : a.point ≡ g.point
  pub bound : (v : ℕ) (x : VarDef) → slice_get p.vars v ≡ Some x → x.routine ≡ g.routine → is_kind kind.Var x.kind ≡ true → IsBound p frames links d g a v x

-- the frames keep the stack
pub record StackIs (p : Program) (frames : List Frame) (links : List ℕ) (stack : Stack) : Type 0 where
  pub height : length stack ≡ length frames
  pub each : (d : ℕ) (g : Frame) → slice_get frames d ≡ Some g → (a : Activation) × (activation_at stack d ≡ Some a) × IsKept p frames links d g a

-- the scalars keep the store
pub record StoreIs (p : Program) (frames : List Frame) (scalars : List (Option ℤ)) (store : Store) : Type 0 where
  pub held : (q : Place) (a t : ℕ) → Lies p frames q a t → is_scalar (slice_get p.types t) ≡ true → store q ≡ content scalars a
  pub nothing_else : (q : Place) (z : ℤ) → store q ≡ Some z → (a t : ℕ) × Lies p frames q a t × (is_scalar (slice_get p.types t) ≡ true)

-- The machine is in the state. Two such states hold the same at every place.
pub record StandsFor (m : Machine) (s : State) : Type 0 where
  pub stack : StackIs m.flow.now.program m.frames.items m.links.items s.stack
  pub store : StoreIs m.flow.now.program m.frames.items m.scalars.items s.store
  pub items : s.items ≡ m.items.now
  pub output : s.output ≡ m.output.items
