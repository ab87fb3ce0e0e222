-- A walk from a class outwards, to the class that owns a cell; and the variable of a cell there.
use Rattle.std.proofs.Common.{◌≡◌, ℕ, zero, suc, ◌+◌, ◌-◌, ◌<◌, ◌≤◌, Bool, true, false, List, ◌∷◌, length, get_or, Option, Some, None, nat_lt, refl, sym, ap, ◌∙◌, subst, arith}
use Rattle.std.specs.Prelude.{slice_get, slice_index, if◌then◌else◌}
use Rattle.std.proofs.lemmas.Bool.Decides.{nat_tests}
use Rattle.alias_class.specs.declared.classes.Row.{Row}
use Rattle.alias_class.specs.declared.key.Key.{Key}
use Rattle.alias_class.specs.declared.outline.Outline.{Outline}
use Rattle.alias_class.specs.declared.outline.VariableOutline.{VariableOutline}
use Rattle.alias_class.specs.Cells.{cell_count, first_naming, inherited_count, own_count, range_of_cell}
use Rattle.alias_class.specs.Classes.{Class, Entry, class_at}
use Rattle.alias_class.specs.Outlines.{formals_of, own_of, range_of_variable}
use Rattle.alias_class.specs.Tables.{IsKept, OwnsCell, Table, classes_of}
use Rattle.alias_class.proofs.Outside.{inside}
use Rattle.alias_class.proofs.Tabled.{first_class, later_class, length-classes_of, row_is}

-- the walk has come to the owner, which has the cell too
pub record IsOnTheWay (o : Outline) (keys : List Key) (class cell owner : ℕ) : Type 0 where
  pub within : owner ≤ class
  pub in_range : cell < cell_count o (class_at (classes_of keys) owner)
  pub same : range_of_cell o (class_at (classes_of keys) owner) cell ≡ range_of_cell o (class_at (classes_of keys) class) cell

-- an inherited cell is one of the static parent's class
inherited_in : (o : Outline) (e : Entry) (parent : Class) (cell : ℕ) → cell < cell_count o parent → range_of_cell o parent cell ≡ range_of_cell o (e ∷ parent) cell
inherited_in o e parent cell h = by (nat_lt cell (cell_count o parent)) (grind (arith, nat_tests))
  where
    other : Option VariableOutline
    other = None

    by : (b : Bool) → b ≡ true → range_of_cell o parent cell ≡ (if b then range_of_cell o parent cell
        else range_of_variable o (if nat_lt cell (cell_count o parent + own_count o e.routine) then slice_index (own_of o e.routine) (cell - cell_count o parent) else first_naming (formals_of o e.routine) e.bindings cell))
    by true e = refl
    by false e = absurd (grind arith)

module _ (o : Outline) (keys : List Key) (rows : List Row) (kept : IsKept o keys rows) (t : Table) (view : record { outline = o; classes = classes_of keys } ≡ t) where
  module _ (class cell owner : ℕ) (h : class < length t.classes) (way : IsOnTheWay o keys class cell owner) (row : Row) (read : row ≡ get_or rows owner row) where
    owner_inside : owner < length (classes_of keys)
    owner_inside = let within = way.within in let there = inside o keys rows kept t view class h in omega arith

    row_inherited : row.inherited ≡ inherited_count o (class_at (classes_of keys) owner)
    row_inherited = ap (λ (x : Row). x.inherited) (read ∙ row_is o keys rows kept owner row owner_inside)

    module _ (below : cell < row.inherited) where
      -- only a class with a static parent inherits
      pub some_key : 0 < owner
      some_key = by owner refl
        where
          by : (n : ℕ) → owner ≡ n → 0 < n
          by zero e = absurd (let none : row.inherited ≡ 0 = row_inherited ∙ ap (λ (n : ℕ). inherited_count o (class_at (classes_of keys) n)) e ∙ ap (inherited_count o) (first_class keys) in omega arith)
          by (suc n) e = omega arith

      pub key_within : owner - 1 < length keys
      key_within = let some = some_key in let there = owner_inside in let long = length-classes_of keys in omega arith

      module _ (key : Key) (e : slice_get keys (owner - 1) ≡ Some key) where
        pub walk_less : key.parent < owner
        walk_less = let some = some_key in let before = kept.parents (owner - 1) key e in omega arith

        entry : Entry
        entry = record { routine = key.routine; site = key.site; bindings = key.bindings.items }

        opened : class_at (classes_of keys) owner ≡ entry ∷ class_at (classes_of keys) key.parent
        unfolding entry
        opened =
            let some = some_key in
            let at : owner ≡ suc (owner - 1) = omega arith in
            ap (class_at (classes_of keys)) at ∙ later_class keys (owner - 1) key e (kept.parents (owner - 1) key e)

        pub walk_on : IsOnTheWay o keys class cell key.parent
        walk_on =
            let less = walk_less in
            let within = way.within in
            let inherits : cell < cell_count o (class_at (classes_of keys) key.parent) = subst (λ (n : ℕ). cell < n) (row_inherited ∙ ap (inherited_count o) opened) below in
            record {
              within = omega arith;
              in_range = inherits;
              same = inherited_in o entry (class_at (classes_of keys) key.parent) cell inherits ∙ ap (λ (c : Class). range_of_cell o c cell) (sym opened) ∙ way.same;
            }

    pub walk_end : row.inherited ≤ cell → OwnsCell t.outline (class_at t.classes owner) cell
    walk_end behind =
        let same = row_inherited in
        let owns : OwnsCell o (class_at (classes_of keys) owner) cell = record { behind = omega arith; in_range = way.in_range } in
        subst (λ (x : Table). OwnsCell x.outline (class_at x.classes owner) cell) view owns
