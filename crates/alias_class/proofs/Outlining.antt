-- What holds of the outline of each program.
use Rattle.std.proofs.Common.{◌≡◌, ℕ, suc, ◌+◌, ◌<◌, ◌≤◌, Bool, true, ◌&&◌, cond, List, [], ◌∷◌, length, map, Option, Some, None, nat_eq, nat_lt, refl, sym, ap, ◌∙◌, subst, arith}
use Rattle.std.specs.List.{count_by, filter, list_all, sum}
use Rattle.std.specs.Option.{option_map, unwrap_or}
use Rattle.std.specs.Prelude.{nat_le, slice_get}
use Rattle.std.proofs.lemmas.Bool.Decides.{nat_tests}
use Rattle.std.proofs.lemmas.Grind.{common_steps}
use Rattle.std.proofs.lemmas.List.{length-map}
use Rattle.std.proofs.lemmas.List.Sums.{length-filter, count_by-le-length, sum_by-cons}
use Rattle.std.proofs.lemmas.Option.{slice_get-map}
use Rattle.pas_program.specs.declared.program.Program.{Program}
use Rattle.pas_program.specs.declared.routine.Routine.{Routine}
use Rattle.pas_program.specs.declared.statement.Statement.{Statement}
use Rattle.pas_program.specs.declared.variable.VarDef.{VarDef}
use Rattle.pas_program.specs.Each.{true_if_some}
use Rattle.pas_program.specs.Scopes.{ListsFit, contains, is_formal, parent_fits}
use Rattle.pas_program.specs.declared.statement.Body.TheFolds.{fold-roll-Statement}
use Rattle.pas_program.specs.declared.statement.Body.TheViews.{out-Statement, roll-out-Statement}
use Rattle.pas_program.specs.Size.{Inner, arm_sum_step, body_sum_step, statement_size, statement_sum_step}
use Rattle.pas_program.specs.Valid.{counts_of, most_parts, routine_in_range}
use Rattle.control_points.specs.Chart.{numbers_from}
use Rattle.alias_class.specs.declared.bind.Bind.{Bind}
use Rattle.alias_class.specs.declared.outline.RoutineOutline.{RoutineOutline}
use Rattle.alias_class.specs.Cells.{IsClass, cell_count, cell_of, foreign_cells, own_count, routine_of}
use Rattle.alias_class.specs.Classes.{Class}
use Rattle.alias_class.specs.Outlines.{formals_of, no_outline, outline_at, is_var_formal, outline_of_program, own_of, own_variables, parent_of, routine_outline, var_formals}
use Rattle.alias_class.proofs.Occurrences.{length-first_occurrences}
use Rattle.alias_class.proofs.Lists.{all_of, and_both, and_left, and_right, contains-filter, contains-numbers_from, found, is_distinct-filter, length-le, length-numbers_from, length-parts}

-- ---- a routine of a program

named : (p : Program) (r : ℕ) (d : Routine) → slice_get p.routines r ≡ Some d → outline_at (outline_of_program p).routines r ≡ routine_outline p.vars d
named p r d e = ap (λ (o : Option RoutineOutline). unwrap_or o no_outline) (slice_get-map (routine_outline p.vars) p.routines r ∙ ap (option_map (routine_outline p.vars)) e)

nameless : (p : Program) (r : ℕ) → slice_get p.routines r ≡ None → outline_at (outline_of_program p).routines r ≡ no_outline
nameless p r e = ap (λ (o : Option RoutineOutline). unwrap_or o no_outline) (slice_get-map (routine_outline p.vars) p.routines r ∙ ap (option_map (routine_outline p.vars)) e)

pub own_is : (p : Program) (r : ℕ) (d : Routine) → slice_get p.routines r ≡ Some d → own_of (outline_of_program p) r ≡ own_variables p.vars d
own_is p r d e = ap (λ (o : RoutineOutline). o.own) (named p r d e)

pub formals_are : (p : Program) (r : ℕ) (d : Routine) → slice_get p.routines r ≡ Some d → formals_of (outline_of_program p) r ≡ var_formals p.vars d
formals_are p r d e = ap (λ (o : RoutineOutline). o.formals) (named p r d e)

-- the routine of a number, or none
pub by_routine : (p : Program) (P : RoutineOutline → Type 0) (r : ℕ) → P no_outline → ((d : Routine) → slice_get p.routines r ≡ Some d → P (routine_outline p.vars d)) → P (outline_at (outline_of_program p).routines r)
by_routine p P r none some = by (slice_get p.routines r) refl
  where
    by : (o : Option Routine) → slice_get p.routines r ≡ o → P (outline_at (outline_of_program p).routines r)
    by None e = subst P (sym (nameless p r e)) none
    by (Some d) e = subst P (sym (named p r d e)) (some d e)

-- ---- few routines and variables

one_more : (a n m : ℕ) → a ≡ 1 + n + m → 1 ≤ a
one_more a n m e = omega arith

statement_counts : (s : Statement) → 1 ≤ statement_size s
statement_counts s =
    one_more _ _ _ (ap statement_size (sym (roll-out-Statement s)) ∙ fold-roll-Statement Inner ℕ ℕ body_sum_step arm_sum_step (statement_sum_step (λ label asserts parts. 1 + parts)) (out-Statement s))

at_least : {A : Type 0} (f : A → ℕ) → ((x : A) → 1 ≤ f x) → (xs : List A) → length xs ≤ sum (map f xs)
at_least f h [] = omega arith
at_least f h (x ∷ xs) = let rest = at_least f h xs in let here = h x in grind (arith, common_steps)

pub routines_few : (p : Program) → length p.routines ≤ most_parts
routines_few p = let all = at_least (λ (d : Routine). statement_size d.body) (λ d. statement_counts d.body) p.routines in let parts = p.bounded.parts in omega arith

-- ---- the variables of a routine

-- what passes the first or the second test passes the third, and nothing passes both
counts_apart : {A : Type 0} (f g h : A → Bool) → ((x : A) → cond (f x) 1 0 + cond (g x) 1 0 ≤ cond (h x) 1 0) → (xs : List A) → count_by f xs + count_by g xs ≤ count_by h xs
counts_apart f g h each [] = omega arith
counts_apart f g h each (x ∷ xs) = let rest = counts_apart f g h each xs in let here = each x in omega (arith, sum_by-cons (λ x. cond (f x) 1 0) x xs, sum_by-cons (λ x. cond (g x) 1 0) x xs, sum_by-cons (λ x. cond (h x) 1 0) x xs)

pub length-foreign_cells : (first : ℕ) (bindings : List Bind) → length (foreign_cells first bindings) ≤ length bindings
length-foreign_cells first bindings =
    let kept = filter (λ c. nat_le first c) (map cell_of bindings) in
    let few = length-first_occurrences nat_eq kept in
    let some = length-filter (λ c. nat_le first c) (map cell_of bindings) in
    let less = count_by-le-length (λ c. nat_le first c) (map cell_of bindings) in
    let all = length-map bindings cell_of in
    omega arith

module _ (p : Program) where
  abbrev pub is_of : ℕ → VarDef → Bool
  is_of r d = nat_eq d.routine r

  -- how many variables a routine has
  abbrev pub owned : ℕ → ℕ
  owned r = count_by (is_of r) p.vars

  module _ (r : ℕ) (d : Routine) (e : slice_get p.routines r ≡ Some d) where
    lists : ListsFit p.vars r d
    lists = p.in_scope.lists r d e

    in_range : routine_in_range (counts_of p.types p.vars p.routines p.asserts) d ≡ true
    in_range = p.in_range.routine r d e

    pub vars_in_range : list_all (λ v. nat_lt v (length p.vars)) d.vars ≡ true
    vars_in_range = and_right _ _ (and_right _ _ in_range)

    pub formals_in_range : list_all (λ v. nat_lt v (length p.vars)) d.formals ≡ true
    formals_in_range = and_left _ _ (and_right _ _ in_range)

    -- a variable that is listed is one of the program
    pub listed : (v : ℕ) → contains v d.vars ≡ true → (x : VarDef) × (slice_get p.vars v ≡ Some x)
    listed v h = let below = all_of (λ v. nat_lt v (length p.vars)) v d.vars vars_in_range h in found p.vars v (grind (arith, nat_tests))

    formal_listed : (v : ℕ) → contains v d.formals ≡ true → (x : VarDef) × (slice_get p.vars v ≡ Some x)
    formal_listed v h = let below = all_of (λ v. nat_lt v (length p.vars)) v d.formals formals_in_range h in found p.vars v (grind (arith, nat_tests))

    -- formals are among all variables
    formal_is_listed : (v : ℕ) → contains v d.formals ≡ true → contains v d.vars ≡ true
    formal_is_listed v h =
        let x = formal_listed v h in
        lists.vars_all v x.0 x.1 ∙ and_left (nat_eq x.0.routine r) (is_formal x.0.kind) (sym (lists.formals_all v x.0 x.1) ∙ h)

    all_few : length d.vars ≤ owned r
    all_few =
        let ones = numbers_from 0 (is_of r) p.vars in
        let member : (v : ℕ) → contains v d.vars ≡ true → contains v ones ≡ true = λ v h.
        let x = listed v h in
        let zero : 0 + v ≡ v = omega arith in
        subst (λ (k : ℕ). contains k ones ≡ true) zero (contains-numbers_from 0 (is_of r) p.vars v x.0 x.1 (sym (lists.vars_all v x.0 x.1) ∙ h)) in
        subst (λ (n : ℕ). length d.vars ≤ n) (length-numbers_from 0 (is_of r) p.vars) (length-le d.vars ones lists.vars_once member)

    formals_few : length (var_formals p.vars d) ≤ length (filter (λ v. is_var_formal p.vars v) d.vars)
    formals_few =
        let test : ℕ → Bool = λ v. is_var_formal p.vars v in
        let member : (v : ℕ) → contains v (filter test d.formals) ≡ true → contains v (filter test d.vars) ≡ true = λ v h.
        let both = sym (contains-filter test v d.formals) ∙ h in
        contains-filter test v d.vars ∙ and_both (test v) (contains v d.vars) (and_left _ _ both) (formal_is_listed v (and_right _ _ both)) in
        length-le (filter test d.formals) (filter test d.vars) (is_distinct-filter test d.formals lists.formals_once) member

    -- a routine's own cells and variable parameters are as many as its variables at most
    pub shares_few : length (own_variables p.vars d) + length (var_formals p.vars d) ≤ owned r
    shares_few = let parts = length-parts (λ v. is_var_formal p.vars v) d.vars in let few = formals_few in let all = all_few in omega arith

  -- ---- rooms

  -- how many variables the routines from r on have
  abbrev above : ℕ → ℕ
  above r = count_by (λ (d : VarDef). nat_le r d.routine) p.vars

  above_split : (r q : ℕ) → r < q → owned r + above q ≤ above r
  above_split r q h = counts_apart (is_of r) (λ d. nat_le q d.routine) (λ d. nat_le r d.routine) (λ d. by d.routine) p.vars
    where
      by : (n : ℕ) → cond (nat_eq n r) 1 0 + cond (nat_le q n) 1 0 ≤ cond (nat_le r n) 1 0
      by n = grind (arith, nat_tests)

  above_all : (r : ℕ) → above r ≤ length p.vars
  above_all r = count_by-le-length (λ (d : VarDef). nat_le r d.routine) p.vars

  pub parents_rise : (r q : ℕ) → parent_of (outline_of_program p) r ≡ Some q → r < q
  parents_rise r = by_routine p (λ (x : RoutineOutline). (q : ℕ) → x.parent ≡ Some q → r < q) r (λ q e. absurd (grind arith)) (λ d is q e. by d is q e)
    where
      by : (d : Routine) → slice_get p.routines r ≡ Some d → (q : ℕ) → d.parent ≡ Some q → r < q
      by d is q e = let fits = subst (λ (x : Option ℕ). parent_fits p.routines r d x ≡ true) e (p.in_scope.parent r d is) in let rises = and_left (nat_lt r q) _ fits in grind (arith, nat_tests)

  pub parents_few : (r q : ℕ) → parent_of (outline_of_program p) r ≡ Some q → q < length p.routines
  parents_few r = by_routine p (λ (x : RoutineOutline). (q : ℕ) → x.parent ≡ Some q → q < length p.routines) r (λ q e. absurd (grind arith)) (λ d is q e. by d is q e)
    where
      by : (d : Routine) → slice_get p.routines r ≡ Some d → (q : ℕ) → d.parent ≡ Some q → q < length p.routines
      by d is q e =
          let ranges = and_left _ _ (p.in_range.routine r d is) in
          let below : nat_lt q (length p.routines) ≡ true = and_left _ _ (subst (λ (x : Option ℕ). (true_if_some (option_map (λ n. nat_lt n (length p.routines)) x) && true_if_some (option_map (λ v. nat_lt v (length p.vars)) d.result)) ≡ true) e ranges) in
          grind (arith, nat_tests)

  shares : (r : ℕ) → own_count (outline_of_program p) r + length (formals_of (outline_of_program p) r) ≤ owned r
  shares r = by_routine p (λ (x : RoutineOutline). length x.own + length x.formals ≤ owned r) r (omega arith) (λ d is. shares_few r d is)

  -- a class has at most as many cells as the routines from its own on have variables
  class_few : (c : Class) → IsClass (outline_of_program p) c → cell_count (outline_of_program p) c ≤ above (routine_of (outline_of_program p) c)
  class_few [] h = let main = outline_of_program p in let few = shares (main.main) in let split = above_split main.main (suc main.main) (omega arith) in omega arith
  class_few (e ∷ parent) h =
      let o = outline_of_program p in
      let around = class_few parent h.1 in
      let split = above_split e.routine (routine_of o parent) (parents_rise e.routine (routine_of o parent) h.0.declared) in
      let few = shares e.routine in
      let bound = h.0.bound in
      let foreign = length-foreign_cells (cell_count o parent + own_count o e.routine) e.bindings in
      omega arith

  -- there is room for one more class within it
  pub room : (parent : Class) (r : ℕ) → IsClass (outline_of_program p) parent → parent_of (outline_of_program p) r ≡ Some (routine_of (outline_of_program p) parent)
      → cell_count (outline_of_program p) parent + (own_count (outline_of_program p) r + length (formals_of (outline_of_program p) r)) ≤ length p.vars
  room parent r h e =
      let o = outline_of_program p in
      let around = class_few parent h in
      let split = above_split r (routine_of o parent) (parents_rise r (routine_of o parent) e) in
      let few = shares r in
      let all = above_all r in
      omega arith

  pub main_room : own_count (outline_of_program p) (outline_of_program p).main ≤ length p.vars
  main_room = let main = (outline_of_program p).main in let few = shares main in let split = above_split main (suc main) (omega arith) in let all = above_all main in omega arith
