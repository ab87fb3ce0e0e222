-- What a name stands for, by the class of its variable's routine.
use Rattle.std.proofs.Common.{◌≡◌, ℕ, ◌+◌, ◌<◌, ◌≤◌, ◌^◌, Bool, true, false, List, [], ◌∷◌, length, get_or, Option, Some, None, nat_eq, refl, sym, ap, ◌∙◌, subst, arith}
use Rattle.std.specs.Option.{option_map, unwrap_or}
use Rattle.std.specs.Prelude.{slice_get, if◌then◌else◌}
use Rattle.std.proofs.lemmas.Bool.Decides.{nat_tests}
use Rattle.std.proofs.lemmas.Grind.{common_steps}
use Rattle.std.proofs.lemmas.Option.{slice_get_within}
use Rattle.alias_class.specs.declared.bind.Bind.{Bind}
use Rattle.alias_class.specs.declared.classes.Row.{Row}
use Rattle.alias_class.specs.declared.key.Key.{Key}
use Rattle.alias_class.specs.declared.outline.Outline.{Outline}
use Rattle.alias_class.specs.declared.outline.Referent.TheVariants.{Own, Bound}
use Rattle.alias_class.specs.declared.outline.VariableOutline.{VariableOutline}
use Rattle.alias_class.specs.Cells.{IsClass, around, cell_count, inherited_count, own_count, referred, resolve, routine_of, whole_cell}
use Rattle.alias_class.specs.Classes.{Class, bindings_of, class_at}
use Rattle.alias_class.specs.Kept.{OutlineFits}
use Rattle.alias_class.specs.Outlines.{formals_of, owner_of, referent_of}
use Rattle.alias_class.specs.Tables.{IsKept, Table, classes_of}
use Rattle.alias_class.proofs.Outside.{class_at_is, inside}
use Rattle.alias_class.proofs.Rooms.{class_fits}
use Rattle.alias_class.proofs.Tabled.{row_is}
use Rattle.alias_class.proofs.Variables.{is_class}

-- ---- the class of a routine, around a class

-- it is of the routine, it has no more cells, and it is a class
pub record IsAround (o : Outline) (c : Class) (r : ℕ) (d : Class) : Type 0 where
  pub routine : routine_of o d ≡ r
  pub fewer : cell_count o d ≤ cell_count o c

pub is_around_of : (o : Outline) (c : Class) (r : ℕ) (d : Class) → around o c r ≡ Some d → IsAround o c r d
is_around_of o [] r d e = by (nat_eq o.main r) refl e
  where
    by : (b : Bool) → nat_eq o.main r ≡ b → ◌≡◌ {A = Option Class} (if b then Some [] else None) (Some d) → IsAround o [] r d
    by true same e = let here : [] ≡ d = grind arith in subst (IsAround o [] r) here (record { routine = grind (arith, nat_tests); fewer = omega arith })
    by false same e = absurd (grind arith)
is_around_of o (x ∷ parent) r d e = by (nat_eq x.routine r) refl e (is_around_of o parent r d)
  where
    by : (b : Bool) → nat_eq x.routine r ≡ b → (if b then Some (x ∷ parent) else around o parent r) ≡ Some d → (around o parent r ≡ Some d → IsAround o parent r d) → IsAround o (x ∷ parent) r d
    by true same e rest = let here : x ∷ parent ≡ d = grind arith in subst (IsAround o (x ∷ parent) r) here (record { routine = grind (arith, nat_tests); fewer = omega arith })
    by false same e rest = let outer = rest e in let fewer = outer.fewer in record { routine = outer.routine; fewer = omega arith }

pub resolve_around : (o : Outline) (c : Class) (v : ℕ) (d : Class) → around o c (owner_of o v) ≡ Some d → resolve o c v ≡ referred (inherited_count o d) (bindings_of d) (referent_of o v)
resolve_around o [] v d e = by (nat_eq o.main (owner_of o v)) e
  where
    by : (b : Bool) → ◌≡◌ {A = Option Class} (if b then Some [] else None) (Some d) → referred 0 [] (referent_of o v) ≡ referred (inherited_count o d) (bindings_of d) (referent_of o v)
    by true e = let here : [] ≡ d = grind arith in subst (λ (x : Class). referred 0 [] (referent_of o v) ≡ referred (inherited_count o x) (bindings_of x) (referent_of o v)) here refl
    by false e = absurd (grind arith)
resolve_around o (x ∷ parent) v d e = by (nat_eq x.routine (owner_of o v)) e (resolve_around o parent v d)
  where
    by : (b : Bool) → (if b then Some (x ∷ parent) else around o parent (owner_of o v)) ≡ Some d
        → (around o parent (owner_of o v) ≡ Some d → resolve o parent v ≡ referred (inherited_count o d) (bindings_of d) (referent_of o v))
        → (if b then referred (cell_count o parent) x.bindings (referent_of o v) else resolve o parent v) ≡ referred (inherited_count o d) (bindings_of d) (referent_of o v)
    by true e rest = let here : x ∷ parent ≡ d = grind arith in subst (λ (y : Class). referred (cell_count o parent) x.bindings (referent_of o v) ≡ referred (inherited_count o y) (bindings_of y) (referent_of o v)) here refl
    by false e rest = rest e

-- ---- ranks within a class

get_or_any : {A : Type 0} (xs : List A) (k : ℕ) (d e : A) → k < length xs → get_or xs k d ≡ get_or xs k e
get_or_any xs k d e h = grind (arith, common_steps)

pub own_within : (o : Outline) (d : Class) (k : ℕ) → k < own_count o (routine_of o d) → inherited_count o d + k < cell_count o d
own_within o [] k h = omega arith
own_within o (e ∷ parent) k h = omega arith

pub bound_within : (o : Outline) (d : Class) → OutlineFits o → IsClass o d → (k : ℕ) → k < length (formals_of o (routine_of o d)) → k < length (bindings_of d)
bound_within o [] fits is k h = absurd (let none = ap length fits.main_formals in omega arith)
bound_within o (e ∷ parent) fits is k h = let bound = is.0.bound in omega arith

pub binding_within : (o : Outline) (d : Class) → IsClass o d → (k : ℕ) (b : Bind) → k < length (bindings_of d) → (get_or (bindings_of d) k b).cell < cell_count o d
binding_within o [] is k b h = absurd (omega arith)
binding_within o (e ∷ parent) is k b h = is.0.cells k b h

-- ---- in a table that is open

module _ (o : Outline) (keys : List Key) (rows : List Row) (kept : IsKept o keys rows) (t : Table) (view : record { outline = o; classes = classes_of keys } ≡ t) (class v : ℕ) (h : class < length t.classes) where
  module _ (x : VariableOutline) (at : slice_get o.variables v ≡ Some x) (owner : ℕ) (found : around t.outline (class_at t.classes class) x.routine ≡ slice_get t.classes owner) (below : owner ≤ class) where
    owner_in : owner < length t.classes
    owner_in = omega arith

    owner_is : owner_of o v ≡ x.routine
    owner_is = ap (λ (y : Option VariableOutline). unwrap_or (option_map (λ (x : VariableOutline). x.routine) y) 0) at

    referent_is : referent_of o v ≡ x.referent
    referent_is = ap (λ (y : Option VariableOutline). unwrap_or (option_map (λ (x : VariableOutline). x.referent) y) (Own 0)) at

    around_is : around o (class_at (classes_of keys) class) x.routine ≡ Some (class_at (classes_of keys) owner)
    around_is =
        subst (λ (y : Table). around y.outline (class_at y.classes class) x.routine ≡ slice_get y.classes owner) (sym view) found
        ∙ class_at_is (classes_of keys) owner (inside o keys rows kept t view owner owner_in)

    resolved : resolve o (class_at (classes_of keys) class) v ≡ referred (inherited_count o (class_at (classes_of keys) owner)) (bindings_of (class_at (classes_of keys) owner)) x.referent
    resolved =
        resolve_around o (class_at (classes_of keys) class) v (class_at (classes_of keys) owner) (ap (around o (class_at (classes_of keys) class)) owner_is ∙ around_is)
        ∙ ap (referred (inherited_count o (class_at (classes_of keys) owner)) (bindings_of (class_at (classes_of keys) owner))) referent_is

    lies : IsAround o (class_at (classes_of keys) class) x.routine (class_at (classes_of keys) owner)
    lies = is_around_of o (class_at (classes_of keys) class) x.routine (class_at (classes_of keys) owner) around_is

    -- a cell of the owner's own
    module _ (k : ℕ) (is : x.referent ≡ Own k) (row : Row) (read : row ≡ get_or rows owner row) where
      row_inherited : row.inherited ≡ inherited_count o (class_at (classes_of keys) owner)
      row_inherited = ap (λ (y : Row). y.inherited) (read ∙ row_is o keys rows kept owner row (inside o keys rows kept t view owner owner_in))

      pub own_in_range : row.inherited + k < cell_count t.outline (class_at t.classes class)
      own_in_range =
          let fewer = lies.fewer in
          let rank = kept.outline.own_rank v k (slice_get_within o.variables v x at) (referent_is ∙ is) in
          let rank_here : k < own_count o (routine_of o (class_at (classes_of keys) owner)) = subst (λ (r : ℕ). k < own_count o r) (owner_is ∙ sym lies.routine) rank in
          let within = own_within o (class_at (classes_of keys) owner) k rank_here in
          let same = row_inherited in
          subst (λ (y : Table). row.inherited + k < cell_count y.outline (class_at y.classes class)) view (omega arith)

      pub own_fits : row.inherited + k < 2 ^ 32
      own_fits =
          let within = own_in_range in
          let fits = class_fits o kept.outline (class_at (classes_of keys) class) (is_class o keys rows kept t view class h) in
          let same : cell_count t.outline (class_at t.classes class) ≡ cell_count o (class_at (classes_of keys) class) = ap (λ (y : Table). cell_count y.outline (class_at y.classes class)) (sym view) in
          let few = kept.outline.few in
          omega arith

      pub own_value : record { whole = true; cell = row.inherited + k } ≡ resolve t.outline (class_at t.classes class) v
      own_value =
          subst (λ (y : Table). record { whole = true; cell = row.inherited + k } ≡ resolve y.outline (class_at y.classes class) v) view
          (ap (λ (n : ℕ). whole_cell (n + k)) row_inherited ∙ sym (resolved ∙ ap (referred (inherited_count o (class_at (classes_of keys) owner)) (bindings_of (class_at (classes_of keys) owner))) is))

    -- what a variable parameter of the owner is bound to
    module _ (k : ℕ) (is : x.referent ≡ Bound k) (bindings : List Bind) (bound : bindings ≡ bindings_of (class_at t.classes owner)) where
      bound_here : bindings ≡ bindings_of (class_at (classes_of keys) owner)
      bound_here = bound ∙ ap (λ (y : Table). bindings_of (class_at y.classes owner)) (sym view)

      pub rank_in_range : k < length bindings
      rank_in_range =
          let rank = kept.outline.formal_rank v k (slice_get_within o.variables v x at) (referent_is ∙ is) in
          let rank_here : k < length (formals_of o (routine_of o (class_at (classes_of keys) owner))) = subst (λ (r : ℕ). k < length (formals_of o r)) (owner_is ∙ sym lies.routine) rank in
          let within = bound_within o (class_at (classes_of keys) owner) kept.outline (is_class o keys rows kept t view owner owner_in) k rank_here in
          subst (λ (bs : List Bind). k < length bs) (sym bound_here) within

      pub bound_value : (b : Bind) → get_or bindings k b ≡ resolve t.outline (class_at t.classes class) v
      bound_value b =
          subst (λ (y : Table). get_or bindings k b ≡ resolve y.outline (class_at y.classes class) v) view
          (let within = rank_in_range in
          get_or_any bindings k b (whole_cell 0) within ∙ ap (λ (bs : List Bind). get_or bs k (whole_cell 0)) bound_here ∙ sym (resolved ∙ ap (referred (inherited_count o (class_at (classes_of keys) owner)) (bindings_of (class_at (classes_of keys) owner))) is))

      pub bound_in_range : (b : Bind) → (get_or bindings k b).cell < cell_count t.outline (class_at t.classes class)
      bound_in_range b =
          let fewer = lies.fewer in
          let here = binding_within o (class_at (classes_of keys) owner) (is_class o keys rows kept t view owner owner_in) k b (subst (λ (bs : List Bind). k < length bs) bound_here rank_in_range) in
          let same : (get_or bindings k b).cell ≡ (get_or (bindings_of (class_at (classes_of keys) owner)) k b).cell = ap (λ (bs : List Bind). (get_or bs k b).cell) bound_here in
          subst (λ (y : Table). (get_or bindings k b).cell < cell_count y.outline (class_at y.classes class)) view (omega arith)
