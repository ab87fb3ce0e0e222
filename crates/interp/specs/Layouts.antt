-- Where the variables of a routine lie in the storage of an activation of it: in the order of their numbers. A variable parameter
-- has a link to what it stands for, and each other variable its scalars.
use Rattle.std.specs.Prelude.{◌≡◌, ℕ, ◌<◌, List, length, take, sum_by, nat_eq, Some, slice_get, if◌then◌else◌}
use Rattle.pas_program.specs.declared.program.Program.{Program}
use Rattle.pas_program.specs.declared.type_def.TypeDef.{TypeDef}
use Rattle.pas_program.specs.declared.variable.VarDef.{VarDef}
use Rattle.pas_program.specs.declared.variable.VarKind.TheVariants as kind
use Rattle.pas_program.specs.Tables.{is_kind}
use Rattle.pas_program.specs.Types.{layout}
use Rattle.interp.specs.declared.frame.Extent.{Extent}
use Rattle.interp.specs.declared.layout.Layout.{Layout}

abbrev pub scalars_of : List TypeDef → VarDef → ℕ
scalars_of types d = if is_kind kind.Var d.kind then 0 else (layout types d.of_type).count

abbrev pub links_of : VarDef → ℕ
links_of d = if is_kind kind.Var d.kind then 1 else 0

-- what a variable needs in an activation of the routine r
abbrev pub need_in : ℕ → (VarDef → ℕ) → VarDef → ℕ
need_in r need d = if nat_eq d.routine r then need d else 0

-- what these variables need in an activation of the routine r
abbrev pub storage : List TypeDef → ℕ → List VarDef → Extent
storage types r vars = record { scalars = sum_by (need_in r (scalars_of types)) vars; links = sum_by (need_in r links_of) vars }

-- the storage of an activation, and that before a variable of it
abbrev pub extent_of : Program → ℕ → Extent
extent_of p r = storage p.types r p.vars

abbrev pub extent_before : Program → ℕ → ℕ → Extent
extent_before p r v = storage p.types r (take v p.vars)

-- how many scalars a value of a type has
abbrev pub count_of : Program → ℕ → ℕ
count_of p t = (layout p.types t).count

-- the counts of the first n types
pub record AreCounts (types : List TypeDef) (counts : List ℕ) (n : ℕ) : Type 0 where
  pub long : length counts ≡ n
  pub each : (t : ℕ) → t < n → slice_get counts t ≡ Some (layout types t).count

-- the tables of a program
pub record IsLayout (p : Program) (l : Layout) : Type 0 where
  pub counts : (t : ℕ) → t < length p.types → slice_get l.counts.items t ≡ Some (count_of p t)
  pub offsets : (v : ℕ) (d : VarDef) → slice_get p.vars v ≡ Some d → slice_get l.offsets.items v ≡ Some (extent_before p d.routine v)
  pub extents : (r : ℕ) → r < length p.routines → slice_get l.extents.items r ≡ Some (extent_of p r)
