-- The cells of a class: those of the class of its static parent, then one for each variable of its routine that has a cell of its own,
-- and then foreign ones, for what variable parameters are bound to elsewhere.
use Rattle.std.specs.Prelude.{◌≡◌, ℕ, ◌+◌, ◌-◌, ◌<◌, Bool, true, ◌&&◌, List, [], ◌∷◌, map, filter, length, nat_eq, nat_lt, nat_le, Option, Some, None, is_some, slice_get, slice_index, slice_index_or, if◌then◌else◌, All}
use Rattle.std.specs.List.{position_or_len, range_with_len}
use Rattle.interval.specs.declared.itv.Itv.{Itv}
use Rattle.pas_program.specs.declared.expr.Access.{Access}
use Rattle.pas_program.specs.declared.expr.Actual.TheViews.{out-Access}
use Rattle.pas_program.specs.Tables.{holds_of}
use Rattle.alias_class.specs.declared.bind.Bind.{Bind}
use Rattle.alias_class.specs.declared.outline.Outline.{Outline}
use Rattle.alias_class.specs.declared.outline.Referent.{Referent}
use Rattle.alias_class.specs.declared.outline.Referent.TheVariants.{Own, Bound}
use Rattle.alias_class.specs.declared.outline.VariableOutline.{VariableOutline}
use Rattle.alias_class.specs.Classes.{Class, Entry}
use Rattle.alias_class.specs.Distinct.{first_occurrences}
use Rattle.alias_class.specs.Outlines.{own_of, formals_of, parent_of, referent_of, owner_of, range_of_variable}

abbrev pub cell_of : Bind → ℕ
cell_of b = b.cell

-- the foreign cells among those that are bound: the cells from the first foreign one on
abbrev pub foreign_cells : ℕ → List Bind → List ℕ
foreign_cells first bindings = first_occurrences nat_eq (filter (λ c. nat_le first c) (map cell_of bindings))

-- the variable parameter that first names a cell
abbrev pub first_naming : List ℕ → List Bind → ℕ → ℕ
first_naming formals bindings cell = slice_index formals (position_or_len (λ b. nat_eq cell (cell_of b)) bindings)

-- what a name stands for that is the whole of a cell
abbrev pub whole_cell : ℕ → Bind
whole_cell cell = record { whole = true; cell = cell }

abbrev pub binding_at : List Bind → ℕ → Bind
binding_at bindings k = slice_index_or bindings k (whole_cell 0)

-- what the name of a variable stands for in a class of its routine, with the first of its own cells and the bindings
abbrev pub referred : ℕ → List Bind → Referent → Bind
referred first_own bindings (Own k) = whole_cell (first_own + k)
referred first_own bindings (Bound k) = binding_at bindings k

module _ (o : Outline) where
  abbrev pub routine_of : Class → ℕ
  routine_of [] = o.main
  routine_of (e ∷ parent) = e.routine

  -- ---- how many cells

  abbrev pub own_count : ℕ → ℕ
  own_count r = length (own_of o r)

  abbrev pub cell_count : Class → ℕ
  cell_count [] = own_count o.main
  cell_count (e ∷ parent) =
      let first_foreign = cell_count parent + own_count e.routine in
      first_foreign + length (foreign_cells first_foreign e.bindings)

  -- how many of them are cells of the static parent's class; they have the same numbers there
  abbrev pub inherited_count : Class → ℕ
  inherited_count [] = 0
  inherited_count (e ∷ parent) = cell_count parent

  -- ---- what is in a cell: the numbers that its variable may be, for a foreign cell those of a variable parameter bound to it

  abbrev pub range_of_cell : Class → ℕ → Itv
  range_of_cell [] cell = range_of_variable o (slice_index (own_of o o.main) cell)
  range_of_cell (e ∷ parent) cell =
      let first_own = cell_count parent in
      let first_foreign = first_own + own_count e.routine in
      if nat_lt cell first_own then range_of_cell parent cell
      else range_of_variable o (if nat_lt cell first_foreign then slice_index (own_of o e.routine) (cell - first_own)
      else first_naming (formals_of o e.routine) e.bindings cell)

  -- ---- classes around a class, by the program's text

  -- the class of the routine r that is the class or around it
  abbrev pub around : Class → ℕ → Option Class
  around [] r = if nat_eq o.main r then Some [] else None
  around (e ∷ parent) r = if nat_eq e.routine r then Some (e ∷ parent) else around parent r

  -- the variable is one of the routine of the class, or of one around it
  abbrev pub is_seen : Class → ℕ → Bool
  is_seen c v = holds_of (λ (x : VariableOutline). is_some (around c x.routine)) (slice_get o.variables v)

  -- ---- what a name stands for

  -- A variable is that of the nearest class of its routine, which has the same cells.
  abbrev pub resolve : Class → ℕ → Bind
  resolve [] v = referred 0 [] (referent_of o v)
  resolve (e ∷ parent) v = if nat_eq e.routine (owner_of o v) then referred (cell_count parent) e.bindings (referent_of o v) else resolve parent v

  -- a variable with subscripts is a part
  abbrev pub resolve_access : Class → Access → Bind
  resolve_access c a =
      let b = resolve c (out-Access a).var in
      record { whole = b.whole && nat_eq (length (out-Access a).subscripts) 0; cell = b.cell }

-- A routine within the class of the routine that declares it. Each of its variable parameters is bound to a cell, and foreign cells are
-- numbered in the order in which variable parameters first name them.
pub record IsEntered (o : Outline) (parent : Class) (e : Entry) : Type 0 where
  pub declared : parent_of o e.routine ≡ Some (routine_of o parent)
  pub known : e.routine < length o.routines
  pub bound : length e.bindings ≡ length (formals_of o e.routine)
  pub cells : All (λ (b : Bind). b.cell < cell_count o (e ∷ parent)) e.bindings
  pub numbered : let first = cell_count o parent + own_count o e.routine in foreign_cells first e.bindings ≡ range_with_len first (length (foreign_cells first e.bindings))

abbrev pub IsClass : Outline → Class → Type 0
IsClass o [] = Unit {0}
IsClass o (e ∷ parent) = IsEntered o parent e × IsClass o parent
