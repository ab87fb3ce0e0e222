-- A key is added to a table that is open.
use Rattle.std.proofs.Common.{◌≡◌, ℕ, suc, ◌+◌, ◌<◌, ◌^◌, Bool, true, false, not, List, [], ◌∷◌, ◌++◌, length, get_or, Option, Some, refl, sym, ap, ◌∙◌, subst, arith}
use Rattle.std.specs.List.{list_any}
use Rattle.std.specs.Option.{unwrap_or}
use Rattle.std.specs.Prelude.{slice_get, if◌then◌else◌}
use Rattle.std.proofs.lemmas.Grind.{common_steps}
use Rattle.std.proofs.lemmas.List.{length-map}
use Rattle.std.proofs.lemmas.Option.{slice_get_within}
use Rattle.alias_class.specs.declared.classes.Row.{Row}
use Rattle.alias_class.specs.declared.key.Key.{Key}
use Rattle.alias_class.specs.declared.outline.Outline.{Outline}
use Rattle.alias_class.specs.Cells.{IsClass, cell_count, first_naming, foreign_cells, own_count}
use Rattle.alias_class.specs.Classes.{Class, class_at, same_class}
use Rattle.alias_class.specs.Distinct.{with_member}
use Rattle.alias_class.specs.Outlines.{formals_of, own_of}
use Rattle.alias_class.specs.Tables.{IsKept, Table, class_of_key, classes_of, namers_of, row_of}
use Rattle.alias_class.proofs.Adding.{class_is, class_there, classes_after, kept_more, key_same, parent_there, same_key}
use Rattle.alias_class.proofs.Lists.{not_true}
use Rattle.alias_class.proofs.Outside.{inside}
use Rattle.alias_class.proofs.Rooms.{class_fits}
use Rattle.alias_class.proofs.Tabled.{classes_of-push, get_before, length-classes_of, row_is}

-- a key that is found is that of the class
found_in : (o : Outline) (keys : List Key) (rows : List Row) → IsKept o keys rows → (key : Key) → key.parent < length (classes_of keys) → (n : ℕ) (k : Key) → slice_get keys n ≡ Some k → same_key key k ≡ true
    → slice_get (classes_of keys) (n + 1) ≡ Some (class_of_key (classes_of keys) key)
found_in o keys rows kept key h n k at same =
    let next : n + 1 ≡ suc n = omega arith in
    let alike = sym (key_same o keys rows kept key k h (parent_there o keys rows kept n k at)) ∙ same in
    ap (slice_get (classes_of keys)) next ∙ class_there o keys rows kept n k at ∙ ap Some (sym (class_is (class_of_key (classes_of keys) key) (class_of_key (classes_of keys) k) alike))

module _ (o : Outline) (keys : List Key) (rows : List Row) (kept : IsKept o keys rows) (t : Table) (view : record { outline = o; classes = classes_of keys } ≡ t) (key : Key) (parent : key.parent < length t.classes) where
  parent_in : key.parent < length (classes_of keys)
  parent_in = inside o keys rows kept t view key.parent parent

  -- ---- the table afterwards

  pub table_after : (after : List Key) → after ≡ (if list_any (same_key key) keys then keys else keys ++ key ∷ [])
      → ◌≡◌ {A = Table} (record { outline = o; classes = classes_of after }) (record { outline = t.outline; classes = with_member same_class t.classes (class_of_key t.classes key) })
  table_after after e =
      ap (λ (cs : List Class). record { outline = o; classes = cs }) (classes_after o keys rows kept key parent_in after e)
      ∙ ap (λ (x : Table). record { outline = x.outline; classes = with_member same_class x.classes (class_of_key x.classes key) }) view

  module _ (is : IsClass t.outline (class_of_key t.classes key)) (room : length t.classes < 4294967295) where
    is_in : IsClass o (class_of_key (classes_of keys) key)
    is_in = subst (λ (x : Table). IsClass x.outline (class_of_key x.classes key)) (sym view) is

    room_in : length (classes_of keys) + 1 < 2 ^ 32
    room_in = let same = ap (λ (x : Table). length x.classes) view in omega arith

    parent_stays : class_of_key (classes_of (keys ++ key ∷ [])) key ≡ class_of_key (classes_of keys) key
    parent_stays =
        let same = classes_of-push keys key in
        ap (λ (cs : List Class). class_of_key cs key) same
        ∙ ap (λ (x : Option Class). record { routine = key.routine; site = key.site; bindings = key.bindings.items } ∷ unwrap_or x []) (get_before (classes_of keys) (class_of_key (classes_of keys) key ∷ []) key.parent parent_in)

    -- the class stands at the number after that of its key
    pub class_entered : (after : List Key) → after ≡ (if list_any (same_key key) keys then keys else keys ++ key ∷ []) → (n : ℕ) (k : Key) → slice_get after n ≡ Some k → same_key key k ≡ true
        → slice_get (classes_of after) (n + 1) ≡ Some (class_of_key t.classes key)
    class_entered after e n k at same =
        subst (λ (x : Table). slice_get (classes_of after) (n + 1) ≡ Some (class_of_key x.classes key)) view
        (by (list_any (same_key key) keys) refl e)
      where
        by : (b : Bool) → list_any (same_key key) keys ≡ b → after ≡ (if b then keys else keys ++ key ∷ []) → slice_get (classes_of after) (n + 1) ≡ Some (class_of_key (classes_of keys) key)
        by true h f =
            subst (λ (ks : List Key). slice_get (classes_of ks) (n + 1) ≡ Some (class_of_key (classes_of keys) key)) (sym f)
            (found_in o keys rows kept key parent_in n k (ap (λ (ks : List Key). slice_get ks n) (sym f) ∙ at) same)
        by false h f =
            let long = length-classes_of keys in
            let longer = length-classes_of (keys ++ key ∷ []) in
            let count : length (keys ++ key ∷ []) ≡ length keys + 1 = grind (arith, common_steps) in
            let fewer = parent_in in
            let within : key.parent < length (classes_of (keys ++ key ∷ [])) = omega arith in
            subst (λ (ks : List Key). slice_get (classes_of ks) (n + 1) ≡ Some (class_of_key (classes_of keys) key)) (sym f)
            (found_in o (keys ++ key ∷ []) (rows ++ row_of o (class_of_key (classes_of keys) key) ∷ []) (kept_more o keys rows kept key parent_in is_in room_in h) key within n k (ap (λ (ks : List Key). slice_get ks n) (sym f) ∙ at) same
            ∙ ap Some parent_stays)

    pub number_fits : (after : List Key) → after ≡ (if list_any (same_key key) keys then keys else keys ++ key ∷ []) → (n : ℕ) (k : Key) → slice_get after n ≡ Some k → n + 1 < 2 ^ 32
    number_fits after e n k at = by (list_any (same_key key) keys) e
      where
        by : (b : Bool) → after ≡ (if b then keys else keys ++ key ∷ []) → n + 1 < 2 ^ 32
        by true f = let within = slice_get_within after n k at in let long = length-classes_of keys in let same = ap length f in let few = room_in in omega arith
        by false f =
            let within = slice_get_within after n k at in
            let long = length-classes_of keys in
            let count : length (keys ++ key ∷ []) ≡ length keys + 1 = grind (arith, common_steps) in
            let same = ap length f in
            let few = room_in in
            omega arith

    -- ---- its row

    module _ (namers : List ℕ) (named : namers ≡ namers_of t.outline (class_of_key t.classes key)) (items : List Row) (same_rows : items ≡ rows) (row : Row) (read : row ≡ get_or items key.parent row) (own : List ℕ) (own_is : own ≡ own_of o key.routine) (many : ℕ) (many_is : many ≡ length namers) where
      named_in : namers ≡ namers_of o (class_of_key (classes_of keys) key)
      named_in = named ∙ ap (λ (x : Table). namers_of x.outline (class_of_key x.classes key)) (sym view)

      row_at : row ≡ row_of o (class_at (classes_of keys) key.parent)
      row_at = read ∙ ap (λ (xs : List Row). get_or xs key.parent row) same_rows ∙ row_is o keys rows kept key.parent row parent_in

      count : row.cells + (length own + many) ≡ cell_count o (class_of_key (classes_of keys) key)
      count =
          let cells = ap (λ (x : Row). x.cells) row_at in
          let owns = ap length own_is in
          let first = cell_count o (class_at (classes_of keys) key.parent) + own_count o key.routine in
          let names = ap length named_in ∙ length-map (foreign_cells first key.bindings.items) (first_naming (formals_of o key.routine) key.bindings.items) in
          omega arith

      pub cells_fit : row.cells + (length own + many) < 2 ^ 32
      cells_fit =
          let fits = class_fits o kept.outline (class_of_key (classes_of keys) key) is_in in
          let few = kept.outline.few in
          let all = count in
          omega arith

      pub kept_after : (after : List Key) → after ≡ (if list_any (same_key key) keys then keys else keys ++ key ∷ []) → (is_new : Bool) → is_new ≡ not (list_any (same_key key) keys) → is_new ≡ true
          → (made : List Row) → made ≡ items ++ record { routine = key.routine; inherited = row.cells; cells = row.cells + (length own + many); namers = namers } ∷ [] → IsKept o after made
      kept_after after e is_new test new made pushed =
          let none : list_any (same_key key) keys ≡ false = not_true (list_any (same_key key) keys) (sym test ∙ new) in
          let keys_are : after ≡ keys ++ key ∷ [] = e ∙ ap (λ (b : Bool). if b then keys else keys ++ key ∷ []) none in
          let rows_are : made ≡ rows ++ row_of o (class_of_key (classes_of keys) key) ∷ [] =
          pushed
          ∙ ap (λ (xs : List Row). xs ++ record { routine = key.routine; inherited = row.cells; cells = row.cells + (length own + many); namers = namers } ∷ []) same_rows
          ∙ ap (λ (n : ℕ). rows ++ record { routine = key.routine; inherited = n; cells = row.cells + (length own + many); namers = namers } ∷ []) (ap (λ (x : Row). x.cells) row_at)
          ∙ ap (λ (n : ℕ). rows ++ record { routine = key.routine; inherited = cell_count o (class_at (classes_of keys) key.parent); cells = n; namers = namers } ∷ []) count
          ∙ ap (λ (ns : List ℕ). rows ++ record { routine = key.routine; inherited = cell_count o (class_at (classes_of keys) key.parent); cells = cell_count o (class_of_key (classes_of keys) key); namers = ns } ∷ []) named_in in
          subst (λ (ks : List Key). IsKept o ks made) (sym keys_are)
          (subst (IsKept o (keys ++ key ∷ [])) (sym rows_are) (kept_more o keys rows kept key parent_in is_in room_in none))
