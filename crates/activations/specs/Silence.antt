-- When a class is silent for an assertion that need only hold at some time: between a call into it and the return the assertion is not met.
use Rattle.std.specs.Prelude.{◌≡◌, ◌≢◌, ℕ, ◌<◌, ◌↔◌, Bool, true, List, Contains, Some, slice_get, length}
use Rattle.control_points.specs.declared.edge.Act.TheVariants as act
use Rattle.control_points.specs.declared.edge.Edge.{Edge}
use Rattle.control_points.specs.Fits.{routine_at}
use Rattle.alias_class.specs.Cells.{routine_of}
use Rattle.alias_class.specs.Classes.{class_at}
use Rattle.activations.specs.Arcs.{Site, sites, callee_number}
use Rattle.activations.specs.Unfolding.{Unfolding}

-- the class of the number j is of the reach of that of i: it is the same, or one that a class of the reach calls
pub data Reaches (u : Unfolding) : ℕ → ℕ → Type 0 where
  here : {i : ℕ} → Reaches u i i
  call : {i j : ℕ} (s : Site) → Contains (sites u) s → s.caller ≡ i → Reaches u (callee_number u i s.edge) j → Reaches u i j

-- the routine has a `goto` to a label of another one
pub record Leaves (u : Unfolding) (r : ℕ) : Type 0 where
  pub number : ℕ
  pub edge : Edge
  pub target : ℕ
  pub known : slice_get u.edges number ≡ Some edge
  pub is_goto : edge.act ≡ act.Goto target
  pub stands : routine_at u.points edge.from ≡ Some r
  pub other : target ≢ r

-- a class of the reach has one
pub record IsLeft (u : Unfolding) (i : ℕ) : Type 0 where
  pub class : ℕ
  pub reached : Reaches u i class
  pub leaves : Leaves u (routine_of u.outline (class_at u.classes class))

-- no class of the reach is of the routine in which the assertion stands, and none has such a `goto`
pub record IsSilent (u : Unfolding) (stands : ℕ) (i : ℕ) : Type 0 where
  pub apart : (j : ℕ) → Reaches u i j → routine_of u.outline (class_at u.classes j) ≢ stands
  pub stays : ¬ IsLeft u i

-- the marks of the classes of whose reach one has such a `goto`
pub record AreLeft (u : Unfolding) (left : List Bool) : Type 0 where
  pub number : length left ≡ length u.classes
  pub marks : (i : ℕ) → i < length u.classes → (slice_get left i ≡ Some true) ↔ IsLeft u i

-- the marks of those that are silent for an assertion of a routine
pub record AreSilent (u : Unfolding) (stands : ℕ) (silent : List Bool) : Type 0 where
  pub number : length silent ≡ length u.classes
  pub marks : (i : ℕ) → i < length u.classes → (slice_get silent i ≡ Some true) ↔ IsSilent u stands i
