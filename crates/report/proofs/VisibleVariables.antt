-- What a routine sees by name is in scope there.
use Rattle.std.proofs.Common.{◌≡◌, ℕ, zero, suc, ◌<◌, ◌≤◌, map, Bool, true, false, not, Global, List, Vec, [], ◌∷◌, ◌++◌, get_or, length, nat_eq, refl, sym, ap, subst, ◌∙◌, Option, None, Some, unwrap_or, arith}
use Rattle.std.specs.Prelude.{◌||◌, ◌&&◌, nat_lt}
use Rattle.std.specs.List.{All, filter, list_all, range_with_len, slice_get}
use Rattle.std.specs.Option.{option_map}
use Rattle.std.proofs.lemmas.Bool.Decides.{nat_tests}
use Rattle.std.proofs.lemmas.List.{length-map}
use Rattle.std.proofs.lemmas.List.FromFn.{fill_by_all}
use Rattle.activations.specs.Parts.{lists_of}
use Rattle.std.proofs.lemmas.List.Elements.{All-append, All-filter}
use Rattle.std.proofs.lemmas.List.Folds.{list_all_at, list_any_at}
use Rattle.std.proofs.lemmas.Option.{get_or_from_slice_get, none-some, same_Some, slice_get-map, slice_get_read, slice_get_within}
use Rattle.pas_program.specs.declared.program.Program.{Program}
use Rattle.pas_program.specs.declared.routine.Routine.{Routine}
use Rattle.pas_program.specs.declared.variable.VarDef.{VarDef}
use Rattle.pas_program.specs.Checked.{tables}
use Rattle.pas_program.specs.Scopes.{contains, parent_fits}
use Rattle.pas_program.specs.Tables.{Head, head_of, holds_of, is_visible, leads_within}
use Rattle.pas_program.specs.Each.{true_if_some}
use Rattle.control_points.specs.declared.flow.Flow.{Flow}
use Rattle.control_points.specs.declared.point.Point.{Point}
use Rattle.report.specs.Nodes.{SeesVariable}
use Rattle.report.specs.Visible.{AreKnown, has_name, is_declared, level_of, own_named, seen_by, seen_within, visible}

-- the element at a number
record Found {X : Type 0} (xs : List X) (i : ℕ) : Type 0 where
  element : X
  there : slice_get xs i ≡ Some element

found : {X : Type 0} (xs : List X) (i : ℕ) → i < length xs → Found xs i
found [] i h = absurd (omega (arith, h))
found (x ∷ xs) zero h = record { element = x; there = refl }
found (x ∷ xs) (suc i) h = let f = found xs i (omega (arith, h)) in record { element = f.element; there = f.there }

and_right : (a b : Bool) → (a && b) ≡ true → b ≡ true
and_right true b h = h
and_right false true h = refl
and_right false false h = h

false_true : true ≡ false → ⊥
false_true h = grind (arith, h)

below_by : (n : ℕ) (xs : List ℕ) (k d : ℕ) → list_all (λ v. nat_lt v n) xs ≡ true → k < length xs → (b : Bool) → nat_lt (get_or xs k d) n ≡ b → get_or xs k d < n
below_by n xs k d all inside true is = grind (arith, nat_tests, is)
below_by n xs k d all inside false is =
    let none = list_all_at (λ v. nat_lt v n) xs k d inside is in
    absurd (grind (arith, none, all))

all_below : (n : ℕ) (xs : List ℕ) → list_all (λ v. nat_lt v n) xs ≡ true → All (λ v. v < n) xs
all_below n xs all = λ k d inside. below_by n xs k d all inside (nat_lt (get_or xs k d) n) refl

-- the variables of a routine are some of the program's
pub own_within : (p : Program) (s : ℕ) (r : Routine) → slice_get p.routines s ≡ Some r → All (λ v. v < length p.vars) r.vars
own_within p s r there =
    all_below (length p.vars) r.vars (and_right (list_all (λ v. nat_lt v (length p.vars)) r.formals) (list_all (λ v. nat_lt v (length p.vars)) r.vars)
    (and_right (true_if_some (option_map (λ q. nat_lt q (length p.routines)) r.parent) && true_if_some (option_map (λ v. nat_lt v (length p.vars)) r.result)) _ (p.in_range.routine s r there)))

module _ (text : List ℕ) (p : Program) where
  -- the variable is one of the routine or of one that is at most so many levels around it
  abbrev Leads : ℕ → ℕ → ℕ → Type 0
  Leads n s v = holds_of (λ (d : VarDef). leads_within n (tables p) s d.routine) (slice_get p.vars v) ≡ true

  leads_to_itself : (n s : ℕ) → leads_within n (tables p) s s ≡ true
  leads_to_itself zero s = grind (arith, nat_tests)
  leads_to_itself (suc n) s = grind (arith, nat_tests)

  own_leads : (n s : ℕ) (r : Routine) → slice_get p.routines s ≡ Some r → All (Leads n s) r.vars
  own_leads n s r there = λ k d inside. by (get_or r.vars k d) (slice_get p.vars (get_or r.vars k d)) refl
      (list_any_at (λ m. nat_eq (get_or r.vars k d) m) r.vars k d inside (grind (arith, nat_tests))) (own_within p s r there k d inside)
    where
      by : (v : ℕ) (o : Option VarDef) → slice_get p.vars v ≡ o → contains v r.vars ≡ true → v < length p.vars → holds_of (λ (d : VarDef). leads_within n (tables p) s d.routine) o ≡ true
      by v None at listed within = let f = found p.vars v within in absurd (none-some f.element (sym at ∙ f.there))
      by v (Some x) at listed within =
          let own : nat_eq x.routine s ≡ true = sym ((p.in_scope.lists s r there).vars_all v x at) ∙ listed in
          let same : x.routine ≡ s = grind (arith, nat_tests, own) in
          ap (λ q. leads_within n (tables p) s q) same ∙ leads_to_itself n s

  or_true : (b : Bool) → (b || true) ≡ true
  or_true true = refl
  or_true false = refl

  around_by : (n s q : ℕ) (r : Routine) (o : Option VarDef) → slice_get p.routines s ≡ Some r → r.parent ≡ Some q
      → holds_of (λ (d : VarDef). leads_within n (tables p) q d.routine) o ≡ true → holds_of (λ (d : VarDef). leads_within (suc n) (tables p) s d.routine) o ≡ true
  around_by n s q r None there around h = h
  around_by n s q r (Some x) there around h =
      let head : holds_of (λ (e : Head). holds_of (λ m. leads_within n (tables p) m x.routine) e.parent) ((tables p).head_at s) ≡ true =
      ap (λ (o : Option Routine). holds_of (λ (e : Head). holds_of (λ m. leads_within n (tables p) m x.routine) e.parent) (option_map head_of o)) there
      ∙ ap (λ (o : Option ℕ). holds_of (λ m. leads_within n (tables p) m x.routine) o) around ∙ h in
      ap (λ b. nat_eq s x.routine || b) head ∙ or_true (nat_eq s x.routine)

  step : (n s : ℕ) (o : Option Routine) → slice_get p.routines s ≡ o → ((r : Routine) (q : ℕ) → slice_get p.routines s ≡ Some r → r.parent ≡ Some q → All (Leads n s) (seen_within text p n q))
      → All (Leads n s) (seen_by text p (seen_within text p n) o)
  step n s None there next = λ k d h. absurd (omega (arith, h))
  step n s (Some r) there next =
      All-append (Leads n s) (filter (λ v. not (is_declared text p r v)) (unwrap_or (option_map (seen_within text p n) r.parent) [])) (own_named p r)
      (All-filter (λ v. not (is_declared text p r v)) (Leads n s) (unwrap_or (option_map (seen_within text p n) r.parent) []) (around r.parent refl))
      (All-filter (λ v. holds_of (λ (d : VarDef). has_name d.kind) (slice_get p.vars v)) (Leads n s) r.vars (own_leads n s r there))
    where
      around : (o : Option ℕ) → r.parent ≡ o → All (Leads n s) (unwrap_or (option_map (seen_within text p n) o) [])
      around None is = λ k d h. absurd (omega (arith, h))
      around (Some q) is = next r q there is

  pub seen_leads : (n s : ℕ) → All (Leads n s) (seen_within text p (suc n) s)
  seen_leads zero s = step zero s (slice_get p.routines s) refl (λ r q there around. λ k d h. absurd (omega (arith, h)))
  seen_leads (suc n) s = step (suc n) s (slice_get p.routines s) refl
      (λ r q there around. λ k d h. around_by n s q r (slice_get p.vars (get_or (seen_within text p (suc n) q) k d)) there around (seen_leads n q k d h))

  pub visible_from : (s v : ℕ) (r : Routine) → slice_get p.routines s ≡ Some r → Leads (level_of text p s) s v → is_visible (tables p) s v ≡ true
  visible_from s v r there leads =
      ap (λ (o : Option Routine). holds_of (λ (d : VarDef). holds_of (λ (h : Head). leads_within h.level (tables p) s d.routine) (option_map head_of o)) (slice_get p.vars v)) there
      ∙ sym (ap (λ (o : Option Routine). holds_of (λ (d : VarDef). leads_within (unwrap_or (option_map (λ (x : Routine). x.level) o) 0) (tables p) s d.routine) (slice_get p.vars v)) there)
      ∙ leads

  -- where the routine around another stands
  pub record IsAround (s q : ℕ) : Type 0 where
    pub later : s < q
    pub inside : q < length p.routines
    pub level : level_of text p s ≡ suc (level_of text p q)

  around_of : (s q : ℕ) (r : Routine) (o : Option Routine) → slice_get p.routines s ≡ Some r → slice_get p.routines q ≡ o
      → (nat_lt s q && holds_of (λ (e : Routine). nat_eq r.level (suc e.level)) o) ≡ true → IsAround s q
  around_of s q r None there at fits = absurd (false_true (sym (and_right (nat_lt s q) false fits)))
  around_of s q r (Some e) there at fits =
      let level : nat_eq r.level (suc e.level) ≡ true = and_right (nat_lt s q) (nat_eq r.level (suc e.level)) fits in
      let same : r.level ≡ suc e.level = grind (arith, nat_tests, level) in
      record {
        later = grind (arith, nat_tests, fits);
        inside = slice_get_within p.routines q e at;
        level = ap (λ (o : Option Routine). unwrap_or (option_map (λ (x : Routine). x.level) o) 0) there ∙ same
            ∙ ap suc (sym (ap (λ (o : Option Routine). unwrap_or (option_map (λ (x : Routine). x.level) o) 0) at));
      }

  pub is_around : (s q : ℕ) (r : Routine) → slice_get p.routines s ≡ Some r → r.parent ≡ Some q → IsAround s q
  is_around s q r there around =
      let P : Option ℕ → Type 0 = λ o. parent_fits p.routines s r o ≡ true in
      around_of s q r (slice_get p.routines q) there refl (subst P around (p.in_scope.parent s r there))

  pub visible_inside : (s q : ℕ) (r : Routine) → slice_get p.routines s ≡ Some r → r.parent ≡ Some q
      → visible text p s ≡ filter (λ v. not (is_declared text p r v)) (visible text p q) ++ own_named p r
  visible_inside s q r there around =
      ap (seen_by text p (seen_within text p (level_of text p s))) there
      ∙ ap (λ (o : Option ℕ). filter (λ v. not (is_declared text p r v)) (unwrap_or (option_map (seen_within text p (level_of text p s)) o) []) ++ own_named p r) around
      ∙ ap (λ n. filter (λ v. not (is_declared text p r v)) (seen_within text p n q) ++ own_named p r) (is_around s q r there around).level

  pub visible_outermost : (s : ℕ) (r : Routine) → slice_get p.routines s ≡ Some r → r.parent ≡ None → visible text p s ≡ own_named p r
  visible_outermost s r there outermost =
      ap (seen_by text p (seen_within text p (level_of text p s))) there
      ∙ ap (λ (o : Option ℕ). filter (λ v. not (is_declared text p r v)) (unwrap_or (option_map (seen_within text p (level_of text p s)) o) []) ++ own_named p r) outermost

  known_by : (n s v : ℕ) (o : Option VarDef) → slice_get p.vars v ≡ o → holds_of (λ (d : VarDef). leads_within n (tables p) s d.routine) o ≡ true → v < length p.vars
  known_by n s v None there h = absurd (false_true (sym h))
  known_by n s v (Some d) there h = slice_get_within p.vars v d there

  pub visible_within : (s : ℕ) → All (λ v. v < length p.vars) (visible text p s)
  visible_within s = λ k d inside. known_by (level_of text p s) s (get_or (visible text p s) k d) (slice_get p.vars (get_or (visible text p s) k d)) refl (seen_leads (level_of text p s) s k d inside)

pub all_seen : (text : List ℕ) (f : Flow) (p : ℕ) (q : Point) → slice_get f.points p ≡ Some q → All (SeesVariable f p) (visible text f.program q.routine)
all_seen text f p q there = λ k d inside r at.
    let v = get_or (visible text f.program q.routine) k d in
    let same : q.routine ≡ r = same_Some q.routine r (sym (ap (option_map (λ (x : Point). x.routine)) there) ∙ at) in
    let routine = found f.program.routines q.routine (f.points_fit.routine p q there) in
    let Visible : ℕ → Type 0 = λ s. is_visible (tables f.program) s v ≡ true in
    subst Visible same (visible_from text f.program q.routine v routine.element routine.there (seen_leads text f.program (level_of text f.program q.routine) q.routine k d inside))

-- ---- as the code reads them

pub routine_there : (p : Program) (listed : List Routine) (r : ℕ) (x : Routine) → listed ≡ p.routines → r < length p.routines → x ≡ get_or listed r x → slice_get p.routines r ≡ Some x
routine_there p listed r x is inside at =
    let P : List Routine → Type 0 = λ rs. x ≡ get_or rs r x in
    slice_get_read p.routines (length p.routines) r x refl inside (subst P is at)

module _ (text : List ℕ) (p : Program) (s q : ℕ) (r : Routine) (lists : List (Vec ℕ Global)) where
  pub parent_inside : AreKnown text p s lists → slice_get p.routines s ≡ Some r → r.parent ≡ Some q → q < length lists
  parent_inside known there around = omega (arith, (is_around text p s q r there around).inside, known.size)

  pub parent_list : (row : Vec ℕ Global) → AreKnown text p s lists → slice_get p.routines s ≡ Some r → r.parent ≡ Some q → row ≡ get_or lists q row → row.items ≡ visible text p q
  parent_list row known there around at =
      known.each q row (is_around text p s q r there around).later (slice_get_read lists (length lists) q row refl (parent_inside known there around) at)

pub lists_are : (text : List ℕ) (p : Program) (lists : List (Vec ℕ Global)) (r : ℕ) → length lists ≡ length p.routines → r ≤ 0
    → ((s : ℕ) (list : Vec ℕ Global) → r ≤ s → slice_get lists s ≡ Some list → list.items ≡ visible text p s) → lists_of lists ≡ map (visible text p) (range_with_len 0 (length p.routines))
lists_are text p lists r size none each =
    let items = λ (v : Vec ℕ Global). v.items in
    fill_by_all (visible text p) (lists_of lists) (length p.routines) [] (length-map lists items ∙ size)
    (λ k inside.
    let f = found lists k (omega (arith, inside, size)) in
    get_or_from_slice_get (lists_of lists) k f.element.items [] (slice_get-map items lists k ∙ ap (option_map items) f.there)
    ∙ each k f.element (omega (arith, none)) f.there)
