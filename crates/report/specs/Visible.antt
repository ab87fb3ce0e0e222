-- Which variables a report names at the points of a routine (ISO 7185, 6.2.2): its own, and those of the routines around it whose names no inner
-- block declares anew. Slots and the kept bounds of `for` have no names.
use Rattle.std.specs.declared.alloc.Global.{Global}
use Rattle.std.specs.declared.vec.Vec.{Vec}
use Rattle.std.specs.Prelude.{◌≡◌, ◌<◌, length, ℕ, zero, suc, Bool, true, false, not, List, [], ◌++◌, map, filter, Option, Some, None, slice_get, unwrap_or, option_map}
use Rattle.std.specs.HashSet.{HashSet, contains_by}
use Rattle.std.specs.List.{list_any}
use Rattle.std.specs.Str.{bytes_eq}
use Rattle.pas_program.specs.declared.program.Program.{Program}
use Rattle.pas_program.specs.declared.routine.Routine.{Routine}
use Rattle.pas_program.specs.declared.variable.VarDef.{VarDef}
use Rattle.pas_program.specs.declared.variable.VarKind.{VarKind}
use Rattle.pas_program.specs.declared.variable.VarKind.TheVariants as kind
use Rattle.pas_program.specs.Tables.{holds_of}
use Rattle.pas_check.specs.Names.{name_at}

abbrev pub Text : Type 0
Text = List ℕ

abbrev pub has_name : VarKind → Bool
has_name kind.Slot = false
has_name kind.Bound = false
has_name _ = true

module _ (p : Program) where
  -- formals and locals by place, and then the result: the order of the routine's list
  abbrev pub own_named : Routine → List ℕ
  own_named r = filter (λ v. holds_of (λ (d : VarDef). has_name d.kind) (slice_get p.vars v)) r.vars

module _ (text : Text) (p : Program) where
  -- the name of a variable, in lower case
  abbrev pub name_of : ℕ → Text
  name_of v = unwrap_or (option_map (λ (d : VarDef). name_at text d.name) (slice_get p.vars v)) []

  -- the names that a routine's block declares: of variables, and of constants, types and routines
  abbrev pub declared : Routine → List Text
  declared r = map name_of (own_named p r) ++ map (name_at text) r.names

  abbrev pub is_declared : Routine → ℕ → Bool
  is_declared r v = list_any (bytes_eq (name_of v)) (declared r)

  -- those of the routine around it whose names it does not declare, and then its own
  abbrev pub seen_by : (ℕ → List ℕ) → Option Routine → List ℕ
  seen_by of_routine None = []
  seen_by of_routine (Some r) = filter (λ v. not (is_declared r v)) (unwrap_or (option_map of_routine r.parent) []) ++ own_named p r

  -- those that a routine sees, outermost first, over so many levels
  abbrev pub seen_within : ℕ → ℕ → List ℕ
  seen_within zero s = []
  seen_within (suc levels) s = seen_by (seen_within levels) (slice_get p.routines s)

  -- the level of a routine is the number of routines around it
  abbrev pub level_of : ℕ → ℕ
  level_of s = unwrap_or (option_map (λ (r : Routine). r.level) (slice_get p.routines s)) 0

  abbrev pub visible : ℕ → List ℕ
  visible s = seen_within (suc (level_of s)) s

-- the set has the names of a list, and no others
pub record HasNames {S : Type 0} (names : HashSet (Vec ℕ Global) S) (listed : List Text) : Type 0 where
  pub each : (name : Vec ℕ Global) → contains_by (λ (other : Vec ℕ Global). bytes_eq name.items other.items) names ≡ list_any (bytes_eq name.items) listed

-- the lists at the greater numbers are those of the routines of these numbers
pub record AreKnown (text : Text) (p : Program) (r : ℕ) (lists : List (Vec ℕ Global)) : Type 0 where
  pub size : length lists ≡ length p.routines
  pub each : (s : ℕ) (list : Vec ℕ Global) → r < s → slice_get lists s ≡ Some list → list.items ≡ visible text p s
