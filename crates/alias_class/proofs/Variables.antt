-- The variable of a cell that a class doesn't have from its static parent's.
use Rattle.std.proofs.Common.{◌≡◌, ℕ, ◌+◌, ◌-◌, ◌<◌, ◌≤◌, Bool, true, false, List, [], ◌∷◌, length, get_or, map, nat_eq, nat_lt, refl, sym, ap, ◌∙◌, subst, arith}
use Rattle.std.specs.List.{All, filter, list_any, position_or_len}
use Rattle.std.specs.Prelude.{nat_le, slice_index, if◌then◌else◌}
use Rattle.std.proofs.lemmas.Bool.Decides.{nat_tests}
use Rattle.std.proofs.lemmas.List.{length-map}
use Rattle.std.proofs.lemmas.List.FromFn.{get_or-range_with_len}
use Rattle.alias_class.specs.declared.outline.Outline.{Outline}
use Rattle.alias_class.specs.Cells.{IsClass, IsEntered, cell_count, cell_of, first_naming, foreign_cells, inherited_count, own_count, range_of_cell, routine_of}
use Rattle.alias_class.specs.Classes.{Class, Entry}
use Rattle.alias_class.specs.Distinct.{first_occurrences}
use Rattle.alias_class.specs.Outlines.{formals_of, own_of, range_of_variable}
use Rattle.alias_class.specs.declared.classes.Row.{Row}
use Rattle.alias_class.specs.declared.key.Key.{Key}
use Rattle.alias_class.specs.Classes.{class_at}
use Rattle.alias_class.specs.Tables.{IsKept, OwnsCell, Table, classes_of, namers_of, row_of}
use Rattle.alias_class.proofs.Outside.{class_at_is, inside}
use Rattle.alias_class.proofs.Tabled.{row_is}
use Rattle.std.proofs.lemmas.Option.{get_or_from_slice_get}
use Rattle.pas_program.specs.Scopes.{contains}
use Rattle.alias_class.proofs.Lists.{and_right, any_mapped, contains-filter, map_at, member_at}
use Rattle.alias_class.proofs.Occurrences.{contained}
use Rattle.alias_class.proofs.Ranks.{place_below}

-- a cell of the class's own
pub own_range : (o : Outline) (c : Class) (cell : ℕ) → OwnsCell o c cell → cell - inherited_count o c < own_count o (routine_of o c) → range_of_cell o c cell ≡ range_of_variable o (slice_index (own_of o (routine_of o c)) (cell - inherited_count o c))
own_range o [] cell owns h = let same : cell ≡ cell - 0 = omega arith in ap (λ (k : ℕ). range_of_variable o (slice_index (own_of o o.main) k)) same
own_range o (e ∷ parent) cell owns h =
    let behind = owns.behind in
    by (nat_lt cell (cell_count o parent)) (nat_lt cell (cell_count o parent + own_count o e.routine)) (grind (arith, nat_tests)) (grind (arith, nat_tests))
  where
    by : (a b : Bool) → a ≡ false → b ≡ true
        → (if a then range_of_cell o parent cell else range_of_variable o (if b then slice_index (own_of o e.routine) (cell - cell_count o parent) else first_naming (formals_of o e.routine) e.bindings cell))
        ≡ range_of_variable o (slice_index (own_of o e.routine) (cell - cell_count o parent))
    by false true p q = refl
    by true b p q = absurd (grind arith)
    by false false p q = absurd (grind arith)

-- a foreign cell
module _ (o : Outline) (e : Entry) (parent : Class) (entered : IsEntered o parent e) (cell : ℕ) (owns : OwnsCell o (e ∷ parent) cell) (h : own_count o e.routine ≤ cell - cell_count o parent) where
  pub rank_within : cell - cell_count o parent - own_count o e.routine < length (namers_of o (e ∷ parent))
  rank_within = let behind = owns.behind in let below = owns.in_range in let long = length-map (foreign_cells (cell_count o parent + own_count o e.routine) e.bindings) (first_naming (formals_of o e.routine) e.bindings) in omega arith

  rank_in : cell - cell_count o parent - own_count o e.routine < length (foreign_cells (cell_count o parent + own_count o e.routine) e.bindings)
  rank_in = let behind = owns.behind in let below = owns.in_range in omega arith

  foreign_at : get_or (foreign_cells (cell_count o parent + own_count o e.routine) e.bindings) (cell - cell_count o parent - own_count o e.routine) 0 ≡ cell
  foreign_at =
      let behind = owns.behind in
      let count = length (foreign_cells (cell_count o parent + own_count o e.routine) e.bindings) in
      ap (λ (ns : List ℕ). get_or ns (cell - cell_count o parent - own_count o e.routine) 0) entered.numbered
      ∙ get_or-range_with_len (cell_count o parent + own_count o e.routine) count (cell - cell_count o parent - own_count o e.routine) 0 rank_in
      ∙ omega arith

  namer_is : slice_index (namers_of o (e ∷ parent)) (cell - cell_count o parent - own_count o e.routine) ≡ first_naming (formals_of o e.routine) e.bindings cell
  namer_is =
      map_at (first_naming (formals_of o e.routine) e.bindings) (foreign_cells (cell_count o parent + own_count o e.routine) e.bindings) (cell - cell_count o parent - own_count o e.routine) 0 0 rank_in
      ∙ ap (first_naming (formals_of o e.routine) e.bindings) foreign_at

  pub foreign_range : range_of_cell o (e ∷ parent) cell ≡ range_of_variable o (slice_index (namers_of o (e ∷ parent)) (cell - cell_count o parent - own_count o e.routine))
  foreign_range = let behind = owns.behind in by (nat_lt cell (cell_count o parent)) (nat_lt cell (cell_count o parent + own_count o e.routine)) (grind (arith, nat_tests)) (grind (arith, nat_tests)) ∙ ap (range_of_variable o) (sym namer_is)
    where
      by : (a b : Bool) → a ≡ false → b ≡ false
          → (if a then range_of_cell o parent cell else range_of_variable o (if b then slice_index (own_of o e.routine) (cell - cell_count o parent) else first_naming (formals_of o e.routine) e.bindings cell))
          ≡ range_of_variable o (first_naming (formals_of o e.routine) e.bindings cell)
      by false false p q = refl
      by true b p q = absurd (grind arith)
      by false true p q = absurd (grind arith)

  named : list_any (λ b. nat_eq cell (cell_of b)) e.bindings ≡ true
  named =
      let first = cell_count o parent + own_count o e.routine in
      let kept = filter (λ c. nat_le first c) (map cell_of e.bindings) in
      let here : contains cell (first_occurrences nat_eq kept) ≡ true = subst (λ (n : ℕ). contains n (first_occurrences nat_eq kept) ≡ true) foreign_at (member_at (first_occurrences nat_eq kept) (cell - cell_count o parent - own_count o e.routine) rank_in) in
      sym (any_mapped cell_of (nat_eq cell) e.bindings) ∙ and_right _ _ (sym (contains-filter (λ c. nat_le first c) cell (map cell_of e.bindings)) ∙ contained kept cell here)

  pub namer_below : (n : ℕ) → All (λ v. v < n) (formals_of o e.routine) → slice_index (namers_of o (e ∷ parent)) (cell - cell_count o parent - own_count o e.routine) < n
  namer_below n all =
      let place = place_below (λ b. nat_eq cell (cell_of b)) e.bindings named in
      let bound = entered.bound in
      subst (λ (v : ℕ). v < n) (sym namer_is) (all (position_or_len (λ b. nat_eq cell (cell_of b)) e.bindings) 0 (omega arith))

-- the same of any class
foreign_class : (o : Outline) (c : Class) → IsClass o c → (cell : ℕ) → OwnsCell o c cell → own_count o (routine_of o c) ≤ cell - inherited_count o c → (n : ℕ) → ((r : ℕ) → All (λ v. v < n) (formals_of o r))
    → (slice_index (namers_of o c) (cell - inherited_count o c - own_count o (routine_of o c)) < n)
    × (range_of_cell o c cell ≡ range_of_variable o (slice_index (namers_of o c) (cell - inherited_count o c - own_count o (routine_of o c))))
foreign_class o [] is cell owns h n all = absurd (let below = owns.in_range in omega arith)
foreign_class o (e ∷ parent) is cell owns h n all = (namer_below o e parent is.0 cell owns h n (all e.routine), foreign_range o e parent is.0 cell owns h)

-- ---- in a table that is open

module _ (o : Outline) (keys : List Key) (rows : List Row) (kept : IsKept o keys rows) (t : Table) (view : record { outline = o; classes = classes_of keys } ≡ t) where
  pub is_class : (class : ℕ) → class < length t.classes → IsClass o (class_at (classes_of keys) class)
  is_class class h =
      let there = inside o keys rows kept t view class h in
      subst (IsClass o) (get_or_from_slice_get (classes_of keys) class (class_at (classes_of keys) class) [] (class_at_is (classes_of keys) class there)) (kept.classes class [] there)

  module _ (class cell : ℕ) (h : class < length t.classes) (owns : OwnsCell t.outline (class_at t.classes class) cell) (row : Row) (read : row ≡ get_or rows class row) where
    row_same : row ≡ row_of o (class_at (classes_of keys) class)
    row_same = read ∙ row_is o keys rows kept class row (inside o keys rows kept t view class h)

    owns_inside : OwnsCell o (class_at (classes_of keys) class) cell
    owns_inside = subst (λ (x : Table). OwnsCell x.outline (class_at x.classes class) cell) (sym view) owns

    pub own_variable : (own : List ℕ) → own ≡ own_of o row.routine → cell - row.inherited < length own → range_of_cell t.outline (class_at t.classes class) cell ≡ range_of_variable t.outline (slice_index own (cell - row.inherited))
    own_variable own same below =
        subst (λ (x : Table). range_of_cell x.outline (class_at x.classes class) cell ≡ range_of_variable x.outline (slice_index own (cell - row.inherited))) view
        (subst (λ (vs : List ℕ). range_of_cell o (class_at (classes_of keys) class) cell ≡ range_of_variable o (slice_index vs (cell - row.inherited))) (sym same)
        (subst (λ (x : Row). cell - x.inherited < length (own_of o x.routine) → range_of_cell o (class_at (classes_of keys) class) cell ≡ range_of_variable o (slice_index (own_of o x.routine) (cell - x.inherited))) (sym row_same)
        (own_range o (class_at (classes_of keys) class) cell owns_inside) (subst (λ (vs : List ℕ). cell - row.inherited < length vs) same below)))

    foreign_variable : (own : List ℕ) → own ≡ own_of o row.routine → length own ≤ cell - row.inherited
        → (slice_index row.namers (cell - row.inherited - length own) < length o.variables) × (range_of_cell o (class_at (classes_of keys) class) cell ≡ range_of_variable o (slice_index row.namers (cell - row.inherited - length own)))
    foreign_variable own same over =
        subst (λ (vs : List ℕ). (slice_index row.namers (cell - row.inherited - length vs) < length o.variables) × (range_of_cell o (class_at (classes_of keys) class) cell ≡ range_of_variable o (slice_index row.namers (cell - row.inherited - length vs)))) (sym same)
        (subst (λ (x : Row). length (own_of o x.routine) ≤ cell - x.inherited → (slice_index x.namers (cell - x.inherited - length (own_of o x.routine)) < length o.variables) × (range_of_cell o (class_at (classes_of keys) class) cell ≡ range_of_variable o (slice_index x.namers (cell - x.inherited - length (own_of o x.routine))))) (sym row_same)
        (λ over. foreign_class o (class_at (classes_of keys) class) (is_class class h) cell owns_inside over (length o.variables) kept.outline.formals)
        (subst (λ (vs : List ℕ). length vs ≤ cell - row.inherited) same over))

    pub namer_in_range : (own : List ℕ) → own ≡ own_of o row.routine → length own ≤ cell - row.inherited → slice_index row.namers (cell - row.inherited - length own) < length t.outline.variables
    namer_in_range own same over = subst (λ (x : Table). slice_index row.namers (cell - row.inherited - length own) < length x.outline.variables) view (foreign_variable own same over).0

    pub namer_range : (own : List ℕ) → own ≡ own_of o row.routine → length own ≤ cell - row.inherited → range_of_cell t.outline (class_at t.classes class) cell ≡ range_of_variable t.outline (slice_index row.namers (cell - row.inherited - length own))
    namer_range own same over = subst (λ (x : Table). range_of_cell x.outline (class_at x.classes class) cell ≡ range_of_variable x.outline (slice_index row.namers (cell - row.inherited - length own))) view (foreign_variable own same over).1
