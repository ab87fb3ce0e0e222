-- The variables of a routine that are no variable parameters name the cells that its class has of its own, each of them another one.
use Rattle.std.proofs.Common.{◌≡◌, ℕ, zero, suc, ◌+◌, ◌-◌, ◌<◌, ◌≤◌, Bool, true, false, ◌&&◌, ◌||◌, not, cond, List, [], ◌∷◌, length, get_or, Option, Some, nat_eq, nat_le, nat_lt, unwrap_or, refl, sym, ap, ◌∙◌, subst, arith}
use Rattle.std.specs.List.{enumerate_from, filter, list_any, position_or_len}
use Rattle.std.specs.Option.{option_map}
use Rattle.std.specs.Prelude.{slice_get, if◌then◌else◌}
use Rattle.std.proofs.lemmas.Bool.{and_from, and_parts, eq-eqb, eqb-true, false≢true, ltb-true}
use Rattle.std.proofs.lemmas.Bool.Decides.{nat_tests}
use Rattle.std.proofs.lemmas.List.Sums.{passes_at_first}
use Rattle.std.proofs.lemmas.Map.Views.{any-filter_same}
use Rattle.std.proofs.lemmas.Option.{slice_get-map}
use Rattle.pas_program.specs.declared.program.Program.{Program}
use Rattle.pas_program.specs.declared.routine.Routine.{Routine}
use Rattle.pas_program.specs.declared.variable.VarDef.{VarDef}
use Rattle.pas_program.specs.declared.variable.VarKind.{VarKind}
use Rattle.pas_program.specs.declared.variable.VarKind.TheVariants as kind
use Rattle.pas_program.specs.Scopes.{contains, is_distinct}
use Rattle.pas_program.specs.Tables.{holds_of, is_kind}
use Rattle.alias_class.specs.declared.outline.Outline.{Outline}
use Rattle.alias_class.specs.declared.outline.Referent.{Referent}
use Rattle.alias_class.specs.declared.outline.Referent.TheVariants.{Own}
use Rattle.alias_class.specs.declared.outline.RoutineOutline.{RoutineOutline}
use Rattle.alias_class.specs.declared.outline.VariableOutline.{VariableOutline}
use Rattle.alias_class.specs.Cells.{cell_count, inherited_count, own_count, referred, resolve, routine_of}
use Rattle.alias_class.specs.Classes.{Class}
use Rattle.alias_class.specs.Linked.{is_own_cell}
use Rattle.alias_class.specs.Outlines.{is_var_formal, no_outline, outline_at, outline_of_program, own_of, own_variables, owner_of, referent_in, referent_of, routine_outline, variable_outline}
use Rattle.transfer_fwd.proofs.Called.{all_of, found}

-- ---- places in a list of numbers

place_below : {A : Type 0} (test : A → Bool) (xs : List A) → list_any test xs ≡ true → position_or_len test xs < length xs
place_below test [] e = absurd (false≢true e)
place_below test (x ∷ xs) e = by (test x) e (place_below test xs)
  where
    by : (b : Bool) → (b || list_any test xs) ≡ true → (list_any test xs ≡ true → position_or_len test xs < length xs) → cond (not b) (1 + position_or_len test xs) 0 < suc (length xs)
    by true e rest = omega arith
    by false e rest = let less = rest e in omega arith

pub member_at : (ns : List ℕ) (k : ℕ) → k < length ns → contains (get_or ns k 0) ns ≡ true
member_at [] k h = absurd (omega arith)
member_at (n ∷ ns) zero h = ap (λ (b : Bool). b || contains n ns) (eq-eqb n n refl)
member_at (n ∷ ns) (suc k) h = later (nat_eq (get_or ns k 0) n) (member_at ns k (omega arith))
  where
    later : (b : Bool) → contains (get_or ns k 0) ns ≡ true → (b || contains (get_or ns k 0) ns) ≡ true
    later true e = refl
    later false e = e

not_first : (n m : ℕ) (ns : List ℕ) → contains n ns ≡ false → contains m ns ≡ true → nat_eq m n ≡ false
not_first n m ns out within = by (nat_eq m n) refl
  where
    by : (b : Bool) → nat_eq m n ≡ b → b ≡ false
    by true e = absurd (false≢true (sym out ∙ ap (λ (k : ℕ). contains k ns) (sym (eqb-true m n e)) ∙ within))
    by false e = refl

pub not_true : (a : Bool) → not a ≡ true → a ≡ false
not_true true e = sym e
not_true false e = refl

place_at : (ns : List ℕ) (k : ℕ) → is_distinct ns ≡ true → k < length ns → position_or_len (λ w. nat_eq (get_or ns k 0) w) ns ≡ k
place_at [] k d h = absurd (omega arith)
place_at (n ∷ ns) zero d h = ap (λ (b : Bool). cond (not b) (1 + position_or_len (λ w. nat_eq n w) ns) 0) (eq-eqb n n refl)
place_at (n ∷ ns) (suc k) d h =
    let m = get_or ns k 0 in
    let parts = and_parts (not (contains n ns)) (is_distinct ns) d in
    ap (λ (b : Bool). cond (not b) (1 + position_or_len (λ w. nat_eq m w) ns) 0) (not_first n m ns (not_true (contains n ns) parts.0) (member_at ns k (omega arith)))
    ∙ (let rest = place_at ns k parts.1 (omega arith) in omega arith)

-- a number in a filtered list passes, and is in the list
contains-filter : (p : ℕ → Bool) (n : ℕ) (ns : List ℕ) → contains n (filter p ns) ≡ (p n && contains n ns)
contains-filter p n ns = any-filter_same (nat_eq n) p (p n) (λ k e. ap p (sym (eqb-true n k e))) ns

is_distinct-filter : (p : ℕ → Bool) (ns : List ℕ) → is_distinct ns ≡ true → is_distinct (filter p ns) ≡ true
is_distinct-filter p [] e = refl
is_distinct-filter p (n ∷ ns) e =
    let parts = and_parts (not (contains n ns)) (is_distinct ns) e in
    by (p n) (contains-filter p n ns) (not_true (contains n ns) parts.0) (is_distinct-filter p ns parts.1)
  where
    by : (b : Bool) → contains n (filter p ns) ≡ (b && contains n ns) → contains n ns ≡ false → is_distinct (filter p ns) ≡ true → is_distinct (cond b (n ∷ filter p ns) (filter p ns)) ≡ true
    by true members out rest = and_from (not (contains n (filter p ns))) (is_distinct (filter p ns)) (ap not (members ∙ out)) rest
    by false members out rest = rest

-- ---- what names stand for

slice_get-enumerate_from : {A : Type 0} (n : ℕ) (xs : List A) (k : ℕ) → slice_get (enumerate_from n xs) k ≡ option_map (λ x. (n + k, x)) (slice_get xs k)
slice_get-enumerate_from n [] k = refl
slice_get-enumerate_from {A} n (x ∷ xs) zero = let same : n ≡ n + 0 = omega arith in ap (λ (m : ℕ). Some (m, x)) same
slice_get-enumerate_from {A} n (x ∷ xs) (suc k) = let same : n + 1 + k ≡ n + suc k = omega arith in slice_get-enumerate_from (n + 1) xs k ∙ ap (λ (m : ℕ). option_map (λ (y : A). (m, y)) (slice_get xs k)) same

outline_of_variable : (p : Program) (v : ℕ) (x : VarDef) → slice_get p.vars v ≡ Some x → slice_get (outline_of_program p).variables v ≡ Some (variable_outline p.types (outline_of_program p).routines v x)
outline_of_variable p v x e =
    let routines = (outline_of_program p).routines in
    let made : ℕ × VarDef → VariableOutline = λ e. variable_outline p.types routines e.0 e.1 in
    slice_get-map made (enumerate_from 0 p.vars) v
    ∙ ap (option_map made) (slice_get-enumerate_from 0 p.vars v ∙ ap (option_map (λ (x : VarDef). (0 + v, x))) e)
    ∙ (let same : 0 + v ≡ v = omega arith in ap (λ (k : ℕ). Some (variable_outline p.types routines k x)) same)

own_referent : (r : RoutineOutline) (v : ℕ) (k : VarKind) → is_kind kind.Var k ≡ false → referent_in r v k ≡ Own (position_or_len (λ w. nat_eq v w) r.own)
own_referent r v kind.Var e = absurd (false≢true (sym e))
own_referent r v kind.Local e = refl
own_referent r v kind.Value e = refl
own_referent r v kind.Result e = refl
own_referent r v kind.Slot e = refl
own_referent r v kind.Bound e = refl

resolve_own : (o : Outline) (d : Class) (v k : ℕ) → owner_of o v ≡ routine_of o d → referent_of o v ≡ Own k → (resolve o d v).cell ≡ inherited_count o d + k
resolve_own o [] v k owned e = ap (λ (x : Referent). (referred 0 [] x).cell) e
resolve_own o (e ∷ parent) v k owned is =
    ap (λ (b : Bool). (if b then referred (cell_count o parent) e.bindings (referent_of o v) else resolve o parent v).cell) (eq-eqb e.routine (owner_of o v) (sym owned))
    ∙ ap (λ (x : Referent). (referred (cell_count o parent) e.bindings x).cell) is

own_below : (o : Outline) (d : Class) (k : ℕ) → k < own_count o (routine_of o d) → inherited_count o d + k < cell_count o d
own_below o [] k h = omega arith
own_below o (e ∷ parent) k h = omega arith

-- ---- the variables of a routine, in a class of it

module _ (p : Program) (o : Outline) (is : o ≡ outline_of_program p) (d : Class) (rt : Routine) (known : slice_get p.routines (routine_of o d) ≡ Some rt) where
  abbrev r : ℕ
  r = routine_of o d

  outline_is : outline_at (outline_of_program p).routines r ≡ routine_outline p.vars rt
  outline_is = ap (λ (x : Option RoutineOutline). unwrap_or x no_outline) (slice_get-map (routine_outline p.vars) p.routines r ∙ ap (option_map (routine_outline p.vars)) known)

  abbrev own_list : List ℕ
  own_list = own_variables p.vars rt

  own_is : own_of o r ≡ own_list
  own_is = ap (λ (o : Outline). own_of o r) is ∙ ap (λ (x : RoutineOutline). x.own) outline_is

  -- a variable of the routine that is no variable parameter
  pub record IsOwn (v : ℕ) : Type 0 where
    pub item : VarDef
    pub at : slice_get p.vars v ≡ Some item
    pub of : item.routine ≡ r
    pub stored : is_kind kind.Var item.kind ≡ false

  own_member : (v : ℕ) → IsOwn v → contains v own_list ≡ true
  own_member v x =
      contains-filter (λ v. not (is_var_formal p.vars v)) v rt.vars
      ∙ and_from (not (is_var_formal p.vars v)) (contains v rt.vars) (ap not (ap (holds_of (λ (d : VarDef). is_kind kind.Var d.kind)) x.at ∙ x.stored))
      ((p.in_scope.lists r rt known).vars_all v x.item x.at ∙ eq-eqb x.item.routine r x.of)

  pub in_list : (v : ℕ) (x : VarDef) → slice_get p.vars v ≡ Some x → contains v rt.vars ≡ true → x.routine ≡ r
  in_list v x at e = eqb-true x.routine r (sym ((p.in_scope.lists r rt known).vars_all v x at) ∙ e)

  -- where the variable stands among those
  abbrev rank : ℕ → ℕ
  rank v = position_or_len (λ w. nat_eq v w) own_list

  cell_is : (v : ℕ) → IsOwn v → (resolve o d v).cell ≡ inherited_count o d + rank v
  cell_is v x =
      let there : slice_get o.variables v ≡ Some (variable_outline p.types (outline_of_program p).routines v x.item) = ap (λ (o : Outline). slice_get o.variables v) is ∙ outline_of_variable p v x.item x.at in
      let owner : owner_of o v ≡ r = ap (λ (y : Option VariableOutline). unwrap_or (option_map (λ (z : VariableOutline). z.routine) y) 0) there ∙ x.of in
      let referent : referent_of o v ≡ Own (rank v) =
      ap (λ (y : Option VariableOutline). unwrap_or (option_map (λ (z : VariableOutline). z.referent) y) (Own 0)) there
      ∙ ap (λ (s : ℕ). referent_in (outline_at (outline_of_program p).routines s) v x.item.kind) x.of
      ∙ ap (λ (y : RoutineOutline). referent_in y v x.item.kind) outline_is
      ∙ own_referent (routine_outline p.vars rt) v x.item.kind x.stored in
      resolve_own o d v (rank v) owner referent

  rank_less : (v : ℕ) → IsOwn v → rank v < own_count o r
  rank_less v x = subst (λ (ns : List ℕ). rank v < length ns) (sym own_is) (place_below (λ w. nat_eq v w) own_list (own_member v x))

  pub in_class : (v : ℕ) → IsOwn v → (resolve o d v).cell < cell_count o d
  in_class v x = subst (λ (n : ℕ). n < cell_count o d) (sym (cell_is v x)) (own_below o d (rank v) (rank_less v x))

  pub is_its_own : (v : ℕ) → IsOwn v → is_own_cell o d (resolve o d v).cell ≡ true
  is_its_own v x =
      let less = rank_less v x in
      ap (is_own_cell o d) (cell_is v x)
      ∙ and_from (nat_le (inherited_count o d) (inherited_count o d + rank v)) (nat_lt (inherited_count o d + rank v) (inherited_count o d + own_count o r)) (grind (arith, nat_tests)) (grind (arith, nat_tests))

  at_rank : (v : ℕ) → IsOwn v → v ≡ get_or own_list (rank v) 0
  at_rank v x = eqb-true v (get_or own_list (rank v) 0) (passes_at_first (λ w. nat_eq v w) own_list 0 (place_below (λ w. nat_eq v w) own_list (own_member v x)))

  pub same_variable : (v w : ℕ) → IsOwn v → IsOwn w → (resolve o d v).cell ≡ (resolve o d w).cell → v ≡ w
  same_variable v w x y e =
      let first = cell_is v x in
      let second = cell_is w y in
      let same : rank v ≡ rank w = omega arith in
      at_rank v x ∙ ap (λ (k : ℕ). get_or own_list k 0) same ∙ sym (at_rank w y)

  -- a variable that names a cell
  pub record IsNamed (cell : ℕ) : Type 0 where
    pub variable : ℕ
    pub is_own : IsOwn variable
    pub listed : contains variable rt.vars ≡ true
    pub names : (resolve o d variable).cell ≡ cell

  pub in_range : (v : ℕ) → contains v rt.vars ≡ true → v < length p.vars
  in_range v e =
      ltb-true v (length p.vars)
      (all_of (λ v. nat_lt v (length p.vars)) v rt.vars (and_parts _ _ (and_parts _ _ (p.in_range.routine r rt known)).1).1 e)

  own_from_member : (v : ℕ) → contains v own_list ≡ true → IsOwn v × (contains v rt.vars ≡ true)
  own_from_member v e =
      let parts = and_parts (not (is_var_formal p.vars v)) (contains v rt.vars) (sym (contains-filter (λ v. not (is_var_formal p.vars v)) v rt.vars) ∙ e) in
      let x = found p.vars v (in_range v parts.1) in (
        record {
          item = x.item;
          at = x.known;
          of = in_list v x.item x.known parts.1;
          stored = ap (holds_of (λ (d : VarDef). is_kind kind.Var d.kind)) (sym x.known) ∙ not_true (is_var_formal p.vars v) parts.0;
        },
        parts.1,
      )

  -- each cell of the class's own is named
  pub own_cell_is_named : (cell : ℕ) → is_own_cell o d cell ≡ true → IsNamed cell
  own_cell_is_named cell e =
      let parts = and_parts (nat_le (inherited_count o d) cell) (nat_lt cell (inherited_count o d + own_count o r)) e in
      let behind : inherited_count o d ≤ cell = grind (arith, nat_tests) in
      let before : cell < inherited_count o d + own_count o r = ltb-true cell (inherited_count o d + own_count o r) parts.1 in
      let k = cell - inherited_count o d in
      let less : k < length own_list = subst (λ (ns : List ℕ). k < length ns) own_is (omega arith) in
      let v = get_or own_list k 0 in
      let x = own_from_member v (member_at own_list k less) in
      let distinct = is_distinct-filter (λ v. not (is_var_formal p.vars v)) rt.vars (p.in_scope.lists r rt known).vars_once in
      let at : rank v ≡ k = place_at own_list k distinct less in
      record { variable = v; is_own = x.0; listed = x.1; names = cell_is v x.0 ∙ omega arith }
