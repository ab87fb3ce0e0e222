-- What the names of a program's variables stand for, and that an outline fits.
use Rattle.std.proofs.Common.{◌≡◌, ℕ, zero, suc, ◌+◌, ◌-◌, ◌<◌, Bool, true, false, ◌&&◌, not, cond, List, [], ◌∷◌, ◌++◌, take, length, Option, Some, None, nat_eq, nat_lt, refl, sym, ap, ◌∙◌, subst, arith}
use Rattle.std.specs.List.{All, enumerate_from, filter, list_any, position_or_len}
use Rattle.std.specs.Option.{option_map, unwrap_or}
use Rattle.std.specs.Prelude.{is_none, slice_get, slice_index}
use Rattle.std.proofs.lemmas.Bool.Decides.{nat_tests}
use Rattle.std.proofs.lemmas.List.Elements.{All-nil}
use Rattle.std.proofs.lemmas.List.FromFn.{length-enumerate_from}
use Rattle.std.proofs.lemmas.List.{length-map, take_more}
use Rattle.std.proofs.lemmas.Option.{get_or_from_slice_get, slice_get-map, slice_get_within}
use Rattle.pas_program.specs.declared.program.Program.{Program}
use Rattle.pas_program.specs.declared.routine.Routine.{Routine}
use Rattle.pas_program.specs.declared.type_def.TypeDef.{TypeDef}
use Rattle.pas_program.specs.declared.variable.VarDef.{VarDef}
use Rattle.pas_program.specs.declared.variable.VarKind.{VarKind}
use Rattle.pas_program.specs.declared.variable.VarKind.TheVariants as kind
use Rattle.pas_program.specs.Scopes.{contains, is_formal, parent_fits}
use Rattle.pas_program.specs.Tables.{holds_of, is_kind}
use Rattle.alias_class.specs.declared.outline.Referent.{Referent}
use Rattle.alias_class.specs.declared.outline.Referent.TheVariants.{Own, Bound}
use Rattle.alias_class.specs.declared.outline.RoutineOutline.{RoutineOutline}
use Rattle.alias_class.specs.declared.outline.VariableOutline.{VariableOutline}
use Rattle.alias_class.specs.Cells.{own_count}
use Rattle.alias_class.specs.Kept.{OutlineFits}
use Rattle.alias_class.specs.Outlines.{formals_of, is_var_formal, outline_at, outline_of_program, own_of, own_variables, owner_of, range_of_type, referent_in, referent_of, routine_outline, var_formals, variable_outline, variable_outlines}
use Rattle.alias_class.specs.Ranks.{AreRanks, rank_in, ranked, ranked_outline}
use Rattle.alias_class.proofs.Lists.{and_both, and_left, and_right, contains-filter, found, or_right}
use Rattle.alias_class.proofs.Outlining.{by_routine, formals_are, main_room, own_is, parents_few, parents_rise, room}
use Rattle.alias_class.proofs.Ranked as ranked

-- ---- the outline of a variable

enumerated : {A : Type 0} (n : ℕ) (xs : List A) (k : ℕ) → slice_get (enumerate_from n xs) k ≡ option_map (λ x. (n + k, x)) (slice_get xs k)
enumerated n [] k = refl
enumerated {A} n (x ∷ xs) zero = let same : n ≡ n + 0 = omega arith in ap (λ (m : ℕ). Some (m, x)) same
enumerated {A} n (x ∷ xs) (suc k) = let same : n + 1 + k ≡ n + suc k = omega arith in enumerated (n + 1) xs k ∙ ap (λ (m : ℕ). option_map (λ (y : A). (m, y)) (slice_get xs k)) same

twice_mapped : {A B C : Type 0} (f : B → C) (g : A → B) (o : Option A) → option_map f (option_map g o) ≡ option_map (λ x. f (g x)) o
twice_mapped f g None = refl
twice_mapped f g (Some x) = refl

-- what is in a list has its place there
pub place_below : {A : Type 0} (test : A → Bool) (xs : List A) → list_any test xs ≡ true → position_or_len test xs < length xs
place_below test [] e = absurd (grind arith)
place_below test (x ∷ xs) e = by (test x) (λ other. place_below test xs (or_right (test x) (list_any test xs) other e)) refl
  where
    by : (b : Bool) → (test x ≡ false → position_or_len test xs < length xs) → test x ≡ b → cond (not b) (1 + position_or_len test xs) 0 < suc (length xs)
    by true rest same = omega arith
    by false rest same = let less = rest same in omega arith

pub outlined_at : (types : List TypeDef) (routines : List RoutineOutline) (vars : List VarDef) (v : ℕ) → slice_get (variable_outlines types routines vars) v ≡ option_map (variable_outline types routines v) (slice_get vars v)
outlined_at types routines vars v =
    slice_get-map (λ (e : ℕ × VarDef). variable_outline types routines e.0 e.1) (enumerate_from 0 vars) v
    ∙ ap (option_map (λ (e : ℕ × VarDef). variable_outline types routines e.0 e.1)) (enumerated 0 vars v)
    ∙ twice_mapped (λ (e : ℕ × VarDef). variable_outline types routines e.0 e.1) (λ (x : VarDef). (0 + v, x)) (slice_get vars v)
    ∙ (let same : 0 + v ≡ v = omega arith in ap (λ (k : ℕ). option_map (variable_outline types routines k) (slice_get vars v)) same)

pub length-outlines : (types : List TypeDef) (routines : List RoutineOutline) (vars : List VarDef) → length (variable_outlines types routines vars) ≡ length vars
length-outlines types routines vars = length-map (enumerate_from 0 vars) (λ (e : ℕ × VarDef). variable_outline types routines e.0 e.1) ∙ length-enumerate_from 0 vars

-- the outline of a variable by its place
ranked_is : (r : RoutineOutline) (v : ℕ) (k : VarKind) → ranked (rank_in r v k) k ≡ referent_in r v k
ranked_is r v kind.Var = refl
ranked_is r v kind.Local = refl
ranked_is r v kind.Value = refl
ranked_is r v kind.Result = refl
ranked_is r v kind.Slot = refl
ranked_is r v kind.Bound = refl

pub ranked_outline_is : (types : List TypeDef) (routines : List RoutineOutline) (v : ℕ) (d : VarDef) → ranked_outline types (rank_in (outline_at routines d.routine) v d.kind) d ≡ variable_outline types routines v d
ranked_outline_is types routines v d = ap (λ (r : Referent). record { routine = d.routine; referent = r; range = range_of_type types d.of_type }) (ranked_is (outline_at routines d.routine) v d.kind)

-- one variable more
pub outlines_more : (p : Program) (routines : List RoutineOutline) (ranks : List ℕ) → AreRanks p.vars routines (length p.routines) ranks → (v : ℕ) (d : VarDef) → slice_get p.vars v ≡ Some d
    → take (v + 1) (variable_outlines p.types routines p.vars) ≡ take v (variable_outlines p.types routines p.vars) ++ ranked_outline p.types (slice_index ranks v) d ∷ []
outlines_more p routines ranks are v d e =
    let all = variable_outlines p.types routines p.vars in
    let at : slice_get all v ≡ Some (variable_outline p.types routines v d) = outlined_at p.types routines p.vars v ∙ ap (option_map (variable_outline p.types routines v)) e in
    let in_range = and_left (nat_lt d.routine (length p.routines)) _ (p.in_range.var v d e) in
    let rank : slice_index ranks v ≡ rank_in (outline_at routines d.routine) v d.kind = are.each v d e (grind (arith, nat_tests)) in
    let here : ranked_outline p.types (slice_index ranks v) d ≡ variable_outline p.types routines v d = ap (λ (n : ℕ). ranked_outline p.types n d) rank ∙ ranked_outline_is p.types routines v d in
    take_more all v (ranked_outline p.types (slice_index ranks v) d) (slice_get_within all v _ at)
    ∙ ap (λ (x : VariableOutline). take v all ++ x ∷ []) (get_or_from_slice_get all v (variable_outline p.types routines v d) (ranked_outline p.types (slice_index ranks v) d) at ∙ sym here)

module _ (p : Program) where
  pub variable_at : (v : ℕ) → slice_get (outline_of_program p).variables v ≡ option_map (variable_outline p.types (outline_of_program p).routines v) (slice_get p.vars v)
  variable_at v = outlined_at p.types (outline_of_program p).routines p.vars v

  pub length-variables : length (outline_of_program p).variables ≡ length p.vars
  length-variables = length-outlines p.types (outline_of_program p).routines p.vars

  pub length-routines : length (outline_of_program p).routines ≡ length p.routines
  length-routines = length-map p.routines (routine_outline p.vars)

  module _ (v : ℕ) (x : VarDef) (e : slice_get p.vars v ≡ Some x) where
    known : slice_get (outline_of_program p).variables v ≡ Some (variable_outline p.types (outline_of_program p).routines v x)
    known = variable_at v ∙ ap (option_map (variable_outline p.types (outline_of_program p).routines v)) e

    pub owner_is : owner_of (outline_of_program p) v ≡ x.routine
    owner_is = ap (λ (o : Option VariableOutline). unwrap_or (option_map (λ (x : VariableOutline). x.routine) o) 0) known

    pub referent_is : referent_of (outline_of_program p) v ≡ referent_in (outline_at (outline_of_program p).routines x.routine) v x.kind
    referent_is = ap (λ (o : Option VariableOutline). unwrap_or (option_map (λ (x : VariableOutline). x.referent) o) (Own 0)) known

    in_range : (nat_lt x.routine (length p.routines) && nat_lt x.of_type (length p.types)) ≡ true
    in_range = p.in_range.var v x e

    owner_below : x.routine < length p.routines
    owner_below = let below = and_left (nat_lt x.routine (length p.routines)) _ in_range in grind (arith, nat_tests)

    routine : (d : Routine) × (slice_get p.routines x.routine ≡ Some d)
    routine = found p.routines x.routine owner_below

    formal_is : is_var_formal p.vars v ≡ is_kind kind.Var x.kind
    formal_is = ap (holds_of (λ (d : VarDef). is_kind kind.Var d.kind)) e

    listed : contains v routine.0.vars ≡ true
    listed = (p.in_scope.lists x.routine routine.0 routine.1).vars_all v x e ∙ (grind (arith, nat_tests))

    own_listed : is_kind kind.Var x.kind ≡ false → contains v (own_of (outline_of_program p) x.routine) ≡ true
    own_listed other =
        ap (contains v) (own_is p x.routine routine.0 routine.1)
        ∙ contains-filter (λ v. not (is_var_formal p.vars v)) v routine.0.vars
        ∙ and_both (not (is_var_formal p.vars v)) (contains v routine.0.vars) (ap not (formal_is ∙ other)) listed

    formal_listed : is_kind kind.Var x.kind ≡ true → contains v (formals_of (outline_of_program p) x.routine) ≡ true
    formal_listed same =
        ap (contains v) (formals_are p x.routine routine.0 routine.1)
        ∙ contains-filter (λ v. is_var_formal p.vars v) v routine.0.formals
        ∙ and_both (is_var_formal p.vars v) (contains v routine.0.formals) (formal_is ∙ same) (is_formal_listed x.kind refl same)
      where
        all : contains v routine.0.formals ≡ (nat_eq x.routine x.routine && is_formal x.kind)
        all = (p.in_scope.lists x.routine routine.0 routine.1).formals_all v x e

        is_formal_listed : (k : VarKind) → x.kind ≡ k → is_kind kind.Var k ≡ true → contains v routine.0.formals ≡ true
        is_formal_listed kind.Var is same = all ∙ and_both (nat_eq x.routine x.routine) (is_formal x.kind) (grind (arith, nat_tests)) (ap is_formal is)
        is_formal_listed kind.Local is same = absurd (grind arith)
        is_formal_listed kind.Value is same = absurd (grind arith)
        is_formal_listed kind.Result is same = absurd (grind arith)
        is_formal_listed kind.Slot is same = absurd (grind arith)
        is_formal_listed kind.Bound is same = absurd (grind arith)

  -- ---- the outline fits

  own_rank : (v k : ℕ) → v < length p.vars → referent_of (outline_of_program p) v ≡ Own k → k < own_count (outline_of_program p) (owner_of (outline_of_program p) v)
  own_rank v k h e =
      let x = found p.vars v h in
      by x.0 x.1 x.0.kind refl
    where
      below : (x : VarDef) (is : slice_get p.vars v ≡ Some x) → is_kind kind.Var x.kind ≡ false → Own (position_or_len (λ w. nat_eq v w) (own_of (outline_of_program p) x.routine)) ≡ Own k → k < own_count (outline_of_program p) (owner_of (outline_of_program p) v)
      below x is other same =
          let rank : position_or_len (λ w. nat_eq v w) (own_of (outline_of_program p) x.routine) ≡ k = grind arith in
          let less = place_below (λ w. nat_eq v w) (own_of (outline_of_program p) x.routine) (own_listed v x is other) in
          let owner = owner_is v x is in
          subst (λ (r : ℕ). k < own_count (outline_of_program p) r) (sym owner) (omega arith)

      by : (x : VarDef) (is : slice_get p.vars v ≡ Some x) (l : VarKind) → x.kind ≡ l → k < own_count (outline_of_program p) (owner_of (outline_of_program p) v)
      by x is l same =
          let named : referent_in (outline_at (outline_of_program p).routines x.routine) v l ≡ Own k = ap (referent_in (outline_at (outline_of_program p).routines x.routine) v) (sym same) ∙ sym (referent_is v x is) ∙ e in
          cases l same named
        where
          cases : (l : VarKind) → x.kind ≡ l → referent_in (outline_at (outline_of_program p).routines x.routine) v l ≡ Own k → k < own_count (outline_of_program p) (owner_of (outline_of_program p) v)
          cases kind.Var same named = absurd (cc)
          cases kind.Local same named = below x is (ap (is_kind kind.Var) same) named
          cases kind.Value same named = below x is (ap (is_kind kind.Var) same) named
          cases kind.Result same named = below x is (ap (is_kind kind.Var) same) named
          cases kind.Slot same named = below x is (ap (is_kind kind.Var) same) named
          cases kind.Bound same named = below x is (ap (is_kind kind.Var) same) named

  formal_rank : (v k : ℕ) → v < length p.vars → referent_of (outline_of_program p) v ≡ Bound k → k < length (formals_of (outline_of_program p) (owner_of (outline_of_program p) v))
  formal_rank v k h e =
      let x = found p.vars v h in
      by x.0 x.1 x.0.kind refl
    where
      below : (x : VarDef) (is : slice_get p.vars v ≡ Some x) → is_kind kind.Var x.kind ≡ true → Bound (position_or_len (λ w. nat_eq v w) (formals_of (outline_of_program p) x.routine)) ≡ Bound k → k < length (formals_of (outline_of_program p) (owner_of (outline_of_program p) v))
      below x is var same =
          let rank : position_or_len (λ w. nat_eq v w) (formals_of (outline_of_program p) x.routine) ≡ k = grind arith in
          let less = place_below (λ w. nat_eq v w) (formals_of (outline_of_program p) x.routine) (formal_listed v x is var) in
          let owner = owner_is v x is in
          subst (λ (r : ℕ). k < length (formals_of (outline_of_program p) r)) (sym owner) (omega arith)

      by : (x : VarDef) (is : slice_get p.vars v ≡ Some x) (l : VarKind) → x.kind ≡ l → k < length (formals_of (outline_of_program p) (owner_of (outline_of_program p) v))
      by x is l same =
          let named : referent_in (outline_at (outline_of_program p).routines x.routine) v l ≡ Bound k = ap (referent_in (outline_at (outline_of_program p).routines x.routine) v) (sym same) ∙ sym (referent_is v x is) ∙ e in
          cases l same named
        where
          cases : (l : VarKind) → x.kind ≡ l → referent_in (outline_at (outline_of_program p).routines x.routine) v l ≡ Bound k → k < length (formals_of (outline_of_program p) (owner_of (outline_of_program p) v))
          cases kind.Var same named = below x is (ap (is_kind kind.Var) same) named
          cases kind.Local same named = absurd (cc)
          cases kind.Value same named = absurd (cc)
          cases kind.Result same named = absurd (cc)
          cases kind.Slot same named = absurd (cc)
          cases kind.Bound same named = absurd (cc)

  -- of a list of numbers of variables
  below : (ns : List ℕ) → All (λ v. v < length p.vars) ns → All (λ v. v < length (outline_of_program p).variables) ns
  below ns all = subst (λ (n : ℕ). All (λ v. v < n) ns) (sym length-variables) all

  own_below : (r : ℕ) → All (λ v. v < length (outline_of_program p).variables) (own_of (outline_of_program p) r)
  own_below r = by_routine p (λ (x : RoutineOutline). All (λ v. v < length (outline_of_program p).variables) x.own) r (All-nil (λ v. v < length (outline_of_program p).variables)) (λ d e. below (own_variables p.vars d) (ranked.own_below p r d e))

  formals_below : (r : ℕ) → All (λ v. v < length (outline_of_program p).variables) (formals_of (outline_of_program p) r)
  formals_below r = by_routine p (λ (x : RoutineOutline). All (λ v. v < length (outline_of_program p).variables) x.formals) r (All-nil (λ v. v < length (outline_of_program p).variables)) (λ d e. below (var_formals p.vars d) (ranked.var_formals_below p r d e))

  owners_below : (v : ℕ) → v < length p.vars → owner_of (outline_of_program p) v < length p.routines
  owners_below v h = let x = found p.vars v h in subst (λ (r : ℕ). r < length p.routines) (sym (owner_is v x.0 x.1)) (owner_below v x.0 x.1)

  none_kept : (test : ℕ → Bool) (ns : List ℕ) → length ns ≡ 0 → filter test ns ≡ []
  none_kept test [] e = refl
  none_kept test (n ∷ ns) e = absurd (omega arith)

  main_formals : formals_of (outline_of_program p) (outline_of_program p).main ≡ []
  main_formals =
      let some = p.in_scope.last in
      let d = found p.routines (length p.routines - 1) (omega arith) in
      formals_are p (length p.routines - 1) d.0 d.1 ∙ none_kept (λ v. is_var_formal p.vars v) d.0.formals (by d.0 d.0.parent (p.in_scope.parent (length p.routines - 1) d.0 d.1))
    where
      by : (d : Routine) (parent : Option ℕ) → parent_fits p.routines (length p.routines - 1) d parent ≡ true → length d.formals ≡ 0
      by d None fits = let none : nat_eq (length d.formals) 0 ≡ true = and_left (nat_eq (length d.formals) 0) (is_none d.result) (and_right (nat_eq (suc (length p.routines - 1)) (length p.routines) && nat_eq d.level 0) (nat_eq (length d.formals) 0 && is_none d.result) fits) in grind (arith, nat_tests)
      by d (Some q) fits =
          let rises : nat_lt (length p.routines - 1) q ≡ true = and_left _ _ fits in
          let rest = and_right (nat_lt (length p.routines - 1) q) _ fits in
          absurd (over (slice_get p.routines q) refl rest)
        where
          over : (x : Option Routine) → slice_get p.routines q ≡ x → holds_of (λ e. nat_eq d.level (suc e.level)) x ≡ true → ⊥
          over None e h = grind arith
          over (Some e) is h = let within = slice_get_within p.routines q e is in let rises : nat_lt (length p.routines - 1) q ≡ true = and_left _ _ fits in let less : length p.routines - 1 < q = grind (arith, nat_tests) in omega arith

  pub outline_fits : OutlineFits (outline_of_program p)
  outline_fits =
      let long = length-variables in
      let routines = length-routines in
      record {
        few = let few = p.bounded.vars_few in omega arith;
        main = let some = p.in_scope.last in omega arith;
        main_formals = main_formals;
        owners = λ v h. let below = owners_below v (omega arith) in omega arith;
        parents = parents_rise p;
        parents_few = λ r q e. let few = parents_few p r q e in omega arith;
        own = own_below;
        formals = formals_below;
        main_room = let few = main_room p in omega arith;
        room = λ c r h e. let few = room p c r h e in omega arith;
        own_rank = λ v k h e. own_rank v k (omega arith) e;
        formal_rank = λ v k h e. formal_rank v k (omega arith) e;
      }
