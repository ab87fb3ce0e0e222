-- A walk from a class outwards, to the class of a routine.
use Rattle.std.proofs.Common.{◌≡◌, ℕ, suc, ◌-◌, ◌<◌, ◌≤◌, Bool, true, false, List, [], ◌∷◌, length, get_or, Option, Some, None, nat_eq, refl, sym, ap, ◌∙◌, subst, arith}
use Rattle.std.specs.Option.{IsSome, unwrap_or}
use Rattle.std.specs.Prelude.{slice_get, if◌then◌else◌}
use Rattle.std.proofs.lemmas.Bool.Decides.{nat_tests}
use Rattle.alias_class.specs.declared.classes.Row.{Row}
use Rattle.alias_class.specs.declared.key.Key.{Key}
use Rattle.alias_class.specs.declared.outline.Outline.{Outline}
use Rattle.alias_class.specs.Cells.{around, routine_of}
use Rattle.alias_class.specs.Classes.{Class, class_at}
use Rattle.alias_class.specs.Tables.{IsKept, Table, class_of_key, classes_of}
use Rattle.alias_class.proofs.Lists.{found}
use Rattle.alias_class.proofs.Tabled.{around_step, first_class, later_class, length-classes_of, many_rows, row_is}

-- the walk has come to the owner, which is the class or around it
pub record IsOnTheWay (o : Outline) (keys : List Key) (class r owner : ℕ) : Type 0 where
  pub within : owner ≤ class
  pub same : around o (class_at (classes_of keys) owner) r ≡ around o (class_at (classes_of keys) class) r

pub around_here : (o : Outline) (c : Class) (r : ℕ) → routine_of o c ≡ r → around o c r ≡ Some c
around_here o [] r e = by (nat_eq o.main r) (grind (arith, nat_tests))
  where
    by : (b : Bool) → b ≡ true → ◌≡◌ {A = Option Class} (if b then Some [] else None) (Some [])
    by true same = refl
    by false same = absurd (grind arith)
around_here o (d ∷ parent) r e = by (nat_eq d.routine r) (grind (arith, nat_tests))
  where
    by : (b : Bool) → b ≡ true → (if b then Some (d ∷ parent) else around o parent r) ≡ Some (d ∷ parent)
    by true same = refl
    by false same = absurd (grind arith)

pub class_at_is : (classes : List Class) (n : ℕ) → n < length classes → slice_get classes n ≡ Some (class_at classes n)
class_at_is classes n h = let c = found classes n h in c.1 ∙ ap (λ (o : Option Class). Some (unwrap_or o [])) (sym c.1)

-- what is known of a table that is open
module _ (o : Outline) (keys : List Key) (rows : List Row) (kept : IsKept o keys rows) (t : Table) (view : record { outline = o; classes = classes_of keys } ≡ t) where
  pub inside : (class : ℕ) → class < length t.classes → class < length (classes_of keys)
  inside class h = subst (λ (x : Table). class < length x.classes) (sym view) h

  pub has_row : (class owner : ℕ) → class < length t.classes → owner ≤ class → owner < length rows
  has_row class owner h within = let many = many_rows o keys rows kept in let there = inside class h in omega arith

  -- the key of a class, which only that of the program's block has not
  pub key_inside : (class : ℕ) → class < length t.classes → (class ≡ 0 → ⊥) → class - 1 < length keys
  key_inside class h some = let there = inside class h in let long = length-classes_of keys in omega arith

  pub outermost_is : (class : ℕ) → class ≡ 0 → class_at t.classes class ≡ []
  outermost_is class e = subst (λ (x : Table). class_at x.classes class ≡ []) view (ap (class_at (classes_of keys)) e ∙ first_class keys)

  pub class_is : (class : ℕ) → class < length t.classes → (class ≡ 0 → ⊥) → (key : Key) → slice_get keys (class - 1) ≡ Some key → class_at t.classes class ≡ class_of_key t.classes key
  class_is class h some key e =
      let at : class ≡ suc (class - 1) = omega arith in
      subst (λ (x : Table). class_at x.classes class ≡ class_of_key x.classes key) view (ap (class_at (classes_of keys)) at ∙ later_class keys (class - 1) key e (kept.parents (class - 1) key e))

  pub parent_before : (class : ℕ) → (class ≡ 0 → ⊥) → (key : Key) → slice_get keys (class - 1) ≡ Some key → key.parent < class
  parent_before class some key e = let before = kept.parents (class - 1) key e in omega arith

  module _ (class r owner : ℕ) (h : class < length t.classes) (seen : IsSome (around t.outline (class_at t.classes class) r)) (way : IsOnTheWay o keys class r owner) (row : Row) (read : row ≡ get_or rows owner row) where
    owner_inside : owner < length (classes_of keys)
    owner_inside = let within = way.within in let there = inside class h in omega arith

    row_routine : row.routine ≡ routine_of o (class_at (classes_of keys) owner)
    row_routine = ap (λ (x : Row). x.routine) (read ∙ row_is o keys rows kept owner row owner_inside)

    seen_inside : IsSome (around o (class_at (classes_of keys) class) r)
    seen_inside = subst (λ (x : Table). IsSome (around x.outline (class_at x.classes class) r)) (sym view) seen

    module _ (other : row.routine ≡ r → ⊥) where
      step : (0 < owner) × ((key : Key) → slice_get keys (owner - 1) ≡ Some key → (key.parent < owner) × (around o (class_at (classes_of keys) key.parent) r ≡ around o (class_at (classes_of keys) owner) r))
      step = around_step o keys rows kept owner r owner_inside (λ e. other (row_routine ∙ e)) (subst (λ (x : Option Class). IsSome x) (sym way.same) seen_inside)

      -- where the class there is of another routine, the walk goes on to that of its static parent
      pub some_key : 0 < owner
      some_key = step.0

      pub key_within : owner - 1 < length keys
      key_within = let some = step.0 in let there = owner_inside in let long = length-classes_of keys in omega arith

      pub walk_less : (key : Key) → slice_get keys (owner - 1) ≡ Some key → key.parent < owner
      walk_less key e = (step.1 key e).0

      pub walk_on : (key : Key) → slice_get keys (owner - 1) ≡ Some key → IsOnTheWay o keys class r key.parent
      walk_on key e = let next = step.1 key e in let less = next.0 in let within = way.within in record { within = omega arith; same = next.1 ∙ way.same }

    pub walk_end : row.routine ≡ r → around t.outline (class_at t.classes class) r ≡ slice_get t.classes owner
    walk_end here =
        subst (λ (x : Table). around x.outline (class_at x.classes class) r ≡ slice_get x.classes owner) view
        (sym way.same ∙ around_here o (class_at (classes_of keys) owner) r (sym row_routine ∙ here) ∙ sym (class_at_is (classes_of keys) owner owner_inside))
