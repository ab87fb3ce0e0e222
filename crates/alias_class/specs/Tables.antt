-- What a table of classes holds, as contracts see it, and how it is kept.
use Rattle.std.specs.Prelude.{◌≡◌, ℕ, ◌+◌, ◌<◌, ◌≤◌, ◌^◌, true, List, [], ◌∷◌, ◌++◌, fold, map, length, All, Some, slice_get}
use Rattle.alias_class.specs.declared.classes.Row.{Row}
use Rattle.alias_class.specs.declared.key.Key.{Key}
use Rattle.alias_class.specs.declared.outline.Outline.{Outline}
use Rattle.alias_class.specs.Cells.{IsClass, routine_of, own_count, cell_count, inherited_count, foreign_cells, first_naming}
use Rattle.alias_class.specs.Classes.{Class, class_at, same_class}
use Rattle.alias_class.specs.Kept.{OutlineFits}
use Rattle.alias_class.specs.Outlines.{formals_of}

pub record Table : Type 0 where
  -- what is known of the program
  pub outline : Outline
  -- each class at its number
  pub classes : List Class

-- a cell of the class that isn't one of its static parent's
pub record OwnsCell (o : Outline) (c : Class) (cell : ℕ) : Type 0 where
  pub behind : inherited_count o c ≤ cell
  pub in_range : cell < cell_count o c

-- ---- classes by their keys

-- the class of a key, whose static parent's is one of these
abbrev pub class_of_key : List Class → Key → Class
class_of_key classes key = record { routine = key.routine; site = key.site; bindings = key.bindings.items } ∷ class_at classes key.parent

abbrev pub with_key : List Class → Key → List Class
with_key classes key = classes ++ class_of_key classes key ∷ []

-- the classes of these keys, behind that of the program's block
abbrev pub classes_of : List Key → List Class
classes_of keys = fold with_key ([] ∷ []) keys

-- ---- what is kept of each class

-- for each foreign cell, the variable parameter that first names it
abbrev pub namers_of : Outline → Class → List ℕ
namers_of o [] = []
namers_of o (e ∷ parent) = map (first_naming (formals_of o e.routine) e.bindings) (foreign_cells (cell_count o parent + own_count o e.routine) e.bindings)

abbrev pub row_of : Outline → Class → Row
row_of o c = record { routine = routine_of o c; inherited = inherited_count o c; cells = cell_count o c; namers = namers_of o c }

-- Each class is one, and stands behind that of its static parent; no two are the same.
pub record IsKept (o : Outline) (keys : List Key) (kept : List Row) : Type 0 where
  pub outline : OutlineFits o
  pub rows : kept ≡ map (row_of o) (classes_of keys)
  pub few : length (classes_of keys) < 2 ^ 32
  pub classes : All (IsClass o) (classes_of keys)
  pub parents : (i : ℕ) (key : Key) → slice_get keys i ≡ Some key → key.parent ≤ i
  pub distinct : (i j : ℕ) → i < length (classes_of keys) → j < length (classes_of keys) → same_class (class_at (classes_of keys) i) (class_at (classes_of keys) j) ≡ true → i ≡ j
