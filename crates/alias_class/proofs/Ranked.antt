-- The places of a program's variables, routine by routine.
use Rattle.std.proofs.Common.{◌≡◌, ℕ, ◌+◌, ◌<◌, ◌≤◌, ◌^◌, Bool, true, false, ◌&&◌, not, List, length, map, Option, Some, nat_eq, refl, sym, ap, ◌∙◌, arith}
use Rattle.std.specs.List.{All, position_or_len}
use Rattle.std.specs.Option.{option_map, unwrap_or}
use Rattle.std.specs.Prelude.{slice_get, slice_index}
use Rattle.std.proofs.lemmas.Bool.Decides.{nat_tests}
use Rattle.std.proofs.lemmas.List.Elements.{All-filter}
use Rattle.std.proofs.lemmas.Map.Steps.{length-le_from_distinct_below}
use Rattle.std.proofs.lemmas.Option.{slice_get-map}
use Rattle.pas_program.specs.declared.program.Program.{Program}
use Rattle.pas_program.specs.declared.routine.Routine.{Routine}
use Rattle.pas_program.specs.declared.variable.VarDef.{VarDef}
use Rattle.pas_program.specs.declared.variable.VarKind.{VarKind}
use Rattle.pas_program.specs.declared.variable.VarKind.TheVariants as kind
use Rattle.pas_program.specs.Scopes.{contains, is_distinct, is_formal}
use Rattle.pas_program.specs.Tables.{holds_of, is_kind}
use Rattle.alias_class.specs.declared.outline.RoutineOutline.{RoutineOutline}
use Rattle.alias_class.specs.Outlines.{is_var_formal, no_outline, outline_at, own_variables, routine_outline, var_formals}
use Rattle.alias_class.specs.Ranks.{AreRanks, IsListed, rank_in}
use Rattle.alias_class.proofs.Lists.{all_below, and_both, and_false, contains-filter, distinct, is_distinct-filter, member_below}
use Rattle.alias_class.proofs.Outlining.{formals_in_range, vars_in_range}

module _ (p : Program) (r : ℕ) (d : Routine) (e : slice_get p.routines r ≡ Some d) where
  pub vars_below : All (λ v. v < length p.vars) d.vars
  vars_below = all_below (length p.vars) d.vars (vars_in_range p r d e)

  pub formals_below : All (λ v. v < length p.vars) d.formals
  formals_below = all_below (length p.vars) d.formals (formals_in_range p r d e)

  pub own_below : All (λ v. v < length p.vars) (own_variables p.vars d)
  own_below = All-filter (λ v. not (is_var_formal p.vars v)) (λ v. v < length p.vars) d.vars vars_below

  pub var_formals_below : All (λ v. v < length p.vars) (var_formals p.vars d)
  var_formals_below = All-filter (λ v. is_var_formal p.vars v) (λ v. v < length p.vars) d.formals formals_below

  pub own_distinct : is_distinct (own_variables p.vars d) ≡ true
  own_distinct = is_distinct-filter (λ v. not (is_var_formal p.vars v)) d.vars (p.in_scope.lists r d e).vars_once

  pub formals_distinct : is_distinct (var_formals p.vars d) ≡ true
  formals_distinct = is_distinct-filter (λ v. is_var_formal p.vars v) d.formals (p.in_scope.lists r d e).formals_once

  few : (vars : List ℕ) → is_distinct vars ≡ true → All (λ v. v < length p.vars) vars → length vars < 2 ^ 32
  few vars apart below =
      let fits : length vars ≤ length p.vars = length-le_from_distinct_below vars (length p.vars) (distinct vars apart) (λ q e. member_below (length p.vars) vars below q e) in
      let bound = p.bounded.vars_few in
      omega arith

  pub own_listed : IsListed (length p.vars) (own_variables p.vars d)
  own_listed = record { below = own_below; distinct = own_distinct; few = few (own_variables p.vars d) own_distinct own_below }

  pub formals_listed : IsListed (length p.vars) (var_formals p.vars d)
  formals_listed = record { below = var_formals_below; distinct = formals_distinct; few = few (var_formals p.vars d) formals_distinct var_formals_below }

  module _ (v : ℕ) (x : VarDef) (is : slice_get p.vars v ≡ Some x) where
    formal_is : is_var_formal p.vars v ≡ is_kind kind.Var x.kind
    formal_is = ap (holds_of (λ (d : VarDef). is_kind kind.Var d.kind)) is

    pub own_contains : contains v (own_variables p.vars d) ≡ (not (is_kind kind.Var x.kind) && nat_eq x.routine r)
    own_contains =
        contains-filter (λ v. not (is_var_formal p.vars v)) v d.vars
        ∙ ap (λ (b : Bool). not b && contains v d.vars) formal_is
        ∙ ap (λ (b : Bool). not (is_kind kind.Var x.kind) && b) ((p.in_scope.lists r d e).vars_all v x is)

    pub formals_contain : contains v (var_formals p.vars d) ≡ (is_kind kind.Var x.kind && (nat_eq x.routine r && is_formal x.kind))
    formals_contain =
        contains-filter (λ v. is_var_formal p.vars v) v d.formals
        ∙ ap (λ (b : Bool). b && contains v d.formals) formal_is
        ∙ ap (λ (b : Bool). is_kind kind.Var x.kind && b) ((p.in_scope.lists r d e).formals_all v x is)

-- ---- one routine more

-- the places of a list's variables were put
pub record Puts (vars old new : List ℕ) : Type 0 where
  pub placed : (v : ℕ) → contains v vars ≡ true → slice_index new v ≡ position_or_len (λ w. nat_eq v w) vars
  pub others : (v : ℕ) → contains v vars ≡ false → slice_index new v ≡ slice_index old v

module _ (p : Program) (n : ℕ) (d : Routine) (e : slice_get p.routines n ≡ Some d) (old middle new : List ℕ) (own : Puts (own_variables p.vars d) old middle) (formals : Puts (var_formals p.vars d) middle new) where
  of_this : (v : ℕ) (x : VarDef) → slice_get p.vars v ≡ Some x → x.routine ≡ n → (k : VarKind) → x.kind ≡ k → slice_index new v ≡ rank_in (routine_outline p.vars d) v k
  of_this v x is here k same = cases k same
    where
      routine_same : nat_eq x.routine n ≡ true
      routine_same = grind (arith, nat_tests)

      as_own : is_kind kind.Var x.kind ≡ false → slice_index new v ≡ position_or_len (λ w. nat_eq v w) (own_variables p.vars d)
      as_own other =
          let no_formal : contains v (var_formals p.vars d) ≡ false = formals_contain p n d e v x is ∙ ap (λ (b : Bool). b && (nat_eq x.routine n && is_formal x.kind)) other in
          let listed : contains v (own_variables p.vars d) ≡ true = own_contains p n d e v x is ∙ and_both (not (is_kind kind.Var x.kind)) (nat_eq x.routine n) (ap not other) routine_same in
          formals.others v no_formal ∙ own.placed v listed

      cases : (k : VarKind) → x.kind ≡ k → slice_index new v ≡ rank_in (routine_outline p.vars d) v k
      cases kind.Var same =
          let listed : contains v (var_formals p.vars d) ≡ true =
          formals_contain p n d e v x is ∙ and_both (is_kind kind.Var x.kind) (nat_eq x.routine n && is_formal x.kind) (ap (is_kind kind.Var) same) (and_both (nat_eq x.routine n) (is_formal x.kind) routine_same (ap is_formal same)) in
          formals.placed v listed
      cases kind.Local same = as_own (ap (is_kind kind.Var) same)
      cases kind.Value same = as_own (ap (is_kind kind.Var) same)
      cases kind.Result same = as_own (ap (is_kind kind.Var) same)
      cases kind.Slot same = as_own (ap (is_kind kind.Var) same)
      cases kind.Bound same = as_own (ap (is_kind kind.Var) same)

  of_others : (v : ℕ) (x : VarDef) → slice_get p.vars v ≡ Some x → nat_eq x.routine n ≡ false → slice_index new v ≡ slice_index old v
  of_others v x is other =
      let no_formal : contains v (var_formals p.vars d) ≡ false =
      formals_contain p n d e v x is ∙ ap (λ (b : Bool). is_kind kind.Var x.kind && (b && is_formal x.kind)) other ∙ and_false (is_kind kind.Var x.kind) in
      let no_own : contains v (own_variables p.vars d) ≡ false = own_contains p n d e v x is ∙ ap (λ (b : Bool). not (is_kind kind.Var x.kind) && b) other ∙ and_false (not (is_kind kind.Var x.kind)) in
      formals.others v no_formal ∙ own.others v no_own

  pub ranks_more : length new ≡ length old → AreRanks p.vars (map (routine_outline p.vars) p.routines) n old → AreRanks p.vars (map (routine_outline p.vars) p.routines) (n + 1) new
  ranks_more long ranks = record { long = long ∙ ranks.long; each = λ v x is below. by v x is below (nat_eq x.routine n) refl }
    where
      outline_is : (r : ℕ) → r ≡ n → outline_at (map (routine_outline p.vars) p.routines) r ≡ routine_outline p.vars d
      outline_is r same =
          ap (λ (o : Option RoutineOutline). unwrap_or o no_outline) (slice_get-map (routine_outline p.vars) p.routines r ∙ ap (option_map (routine_outline p.vars)) (ap (slice_get p.routines) same ∙ e))

      by : (v : ℕ) (x : VarDef) → slice_get p.vars v ≡ Some x → x.routine < n + 1 → (b : Bool) → nat_eq x.routine n ≡ b → slice_index new v ≡ rank_in (outline_at (map (routine_outline p.vars) p.routines) x.routine) v x.kind
      by v x is below true same =
          let here : x.routine ≡ n = grind (arith, nat_tests) in
          of_this v x is here x.kind refl ∙ ap (λ (o : RoutineOutline). rank_in o v x.kind) (sym (outline_is x.routine here))
      by v x is below false other = of_others v x is other ∙ ranks.each v x is (grind (arith, nat_tests))
