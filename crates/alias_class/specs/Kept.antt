-- What holds of the outline of each program.
use Rattle.std.specs.Prelude.{◌≡◌, ℕ, ◌+◌, ◌<◌, ◌≤◌, ◌^◌, [], length, All, Some}
use Rattle.alias_class.specs.declared.outline.Outline.{Outline}
use Rattle.alias_class.specs.declared.outline.Referent.TheVariants.{Own, Bound}
use Rattle.alias_class.specs.Cells.{IsClass, cell_count, own_count, routine_of}
use Rattle.alias_class.specs.Classes.{Class}
use Rattle.alias_class.specs.Outlines.{owner_of, own_of, formals_of, parent_of, referent_of}

-- A routine stands after those that are declared in it. Each variable is either a cell of its routine's own or a variable parameter of it,
-- so that no class has more cells than the program has variables.
pub record OutlineFits (o : Outline) : Type 0 where
  pub few : length o.variables < 2 ^ 31
  pub main : o.main < length o.routines
  pub main_formals : formals_of o o.main ≡ []
  pub owners : (v : ℕ) → v < length o.variables → owner_of o v < length o.routines
  pub parents : (r p : ℕ) → parent_of o r ≡ Some p → r < p
  pub parents_few : (r p : ℕ) → parent_of o r ≡ Some p → p < length o.routines
  pub own : (r : ℕ) → All (λ v. v < length o.variables) (own_of o r)
  pub formals : (r : ℕ) → All (λ v. v < length o.variables) (formals_of o r)
  pub main_room : own_count o o.main ≤ length o.variables
  pub room : (parent : Class) (r : ℕ) → IsClass o parent → parent_of o r ≡ Some (routine_of o parent) → cell_count o parent + (own_count o r + length (formals_of o r)) ≤ length o.variables
  pub own_rank : (v k : ℕ) → v < length o.variables → referent_of o v ≡ Own k → k < own_count o (owner_of o v)
  pub formal_rank : (v k : ℕ) → v < length o.variables → referent_of o v ≡ Bound k → k < length (formals_of o (owner_of o v))
