-- What is true of the parts of a machine at each moment, whatever state it is in.
use Rattle.std.specs.Prelude.{◌≡◌, ℕ, suc, ◌+◌, ◌-◌, ◌<◌, ◌≤◌, Bool, true, false, ◌&&◌, List, length, take, sum_by, nat_eq, ℤ, Option, Some, None, slice_get}
use Rattle.std.specs.Option.{option_map, option_and_then, unwrap_or}
use Rattle.arithmetic.specs.Numbers.{IsNumber}
use Rattle.pas_program.specs.declared.program.Program.{Program}
use Rattle.pas_program.specs.declared.variable.VarDef.{VarDef}
use Rattle.pas_program.specs.declared.variable.VarKind.TheVariants as kind
use Rattle.pas_program.specs.Checked.{tables}
use Rattle.pas_program.specs.Scopes.{is_the}
use Rattle.pas_program.specs.Tables.{Head, holds_of, is_kind}
use Rattle.control_points.specs.declared.edge.Edge.{Edge}
use Rattle.control_points.specs.declared.flow.Flow.{Flow}
use Rattle.control_points.specs.declared.item.Item.{Item}
use Rattle.control_points.specs.declared.item.Item.TheVariants.{Number}
use Rattle.control_points.specs.Fits.{callee_of, routine_at}
use Rattle.interp.specs.declared.frame.Extent.{Extent}
use Rattle.interp.specs.declared.frame.Frame.{Frame}
use Rattle.interp.specs.Layouts.{extent_of, extent_before, count_of}

-- the storage of activations
abbrev pub end_of : Program → List Frame → Extent
end_of p frames = record { scalars = sum_by (λ (g : Frame). (extent_of p g.routine).scalars) frames; links = sum_by (λ (g : Frame). (extent_of p g.routine).links) frames }

-- the routine of the activation at a depth
abbrev pub routine_of : List Frame → ℕ → Option ℕ
routine_of frames d = option_map (λ (g : Frame). g.routine) (slice_get frames d)

-- the depth of the latest activation, and its routine and point
abbrev pub top_of : List Frame → ℕ
top_of frames = length frames - 1

abbrev pub top_routine : List Frame → ℕ
top_routine frames = unwrap_or (routine_of frames (top_of frames)) 0

abbrev pub top_point : List Frame → ℕ
top_point frames = unwrap_or (option_map (λ (g : Frame). g.point) (slice_get frames (top_of frames))) 0

-- whether an edge is a call from the point p to the routine r
abbrev pub is_call_from : ℕ → ℕ → Edge → Bool
is_call_from p r e = nat_eq e.from p && is_the r (callee_of e.act)

-- whether a call from the point p made an activation of the routine r
abbrev pub is_made_at : List Edge → ℕ → ℕ → Option ℕ → Bool
is_made_at edges p r None = false
is_made_at edges p r (Some k) = holds_of (is_call_from p r) (slice_get edges k)

-- Activations: their storage lies behind that of those before them; each lies within the one that its parent names; each but the
-- first was made by a call of the one before it, which waits there.
pub record AreFrames (flow : Flow) (frames : List Frame) : Type 0 where
  pub some : 0 < length frames
  pub base : (d : ℕ) (g : Frame) → slice_get frames d ≡ Some g → g.base ≡ end_of flow.program (take d frames)
  pub stands : (d : ℕ) (g : Frame) → slice_get frames d ≡ Some g → routine_at flow.points g.point ≡ Some g.routine
  pub parent : (d : ℕ) (g : Frame) (h : Head) → slice_get frames d ≡ Some g → (tables flow.program).head_at g.routine ≡ Some h → option_and_then (routine_of frames) g.parent ≡ h.parent
  pub parent_below : (d p : ℕ) (g : Frame) → slice_get frames d ≡ Some g → g.parent ≡ Some p → p < d
  pub first : (g : Frame) → slice_get frames 0 ≡ Some g → g.call ≡ None
  pub made : (d : ℕ) (g h : Frame) → slice_get frames d ≡ Some g → slice_get frames (suc d) ≡ Some h → is_made_at flow.edges g.point h.routine h.call ≡ true

-- Links: what a variable parameter stands for lies below the activation.
pub record AreLinks (p : Program) (frames : List Frame) (links : List ℕ) : Type 0 where
  pub room : (end_of p frames).links ≤ length links
  pub below : (d v a : ℕ) (g : Frame) (x : VarDef) → slice_get frames d ≡ Some g → slice_get p.vars v ≡ Some x → x.routine ≡ g.routine → is_kind kind.Var x.kind ≡ true
      → slice_get links (g.base.links + (extent_before p x.routine v).links) ≡ Some a → a + count_of p x.of_type ≤ g.base.scalars

-- Storage: there is room for all activations, and only numbers are stored.
pub record AreScalars (p : Program) (frames : List Frame) (scalars : List (Option ℤ)) : Type 0 where
  pub room : (end_of p frames).scalars ≤ length scalars
  pub numbers : (a : ℕ) (z : ℤ) → slice_get scalars a ≡ Some (Some z) → IsNumber z

-- Each integer of the input is one of the language.
pub record AreItems (items : List Item) : Type 0 where
  pub numbers : (k : ℕ) (z : ℤ) → slice_get items k ≡ Some (Number z) → IsNumber z
