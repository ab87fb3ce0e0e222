-- A further call joins each cell of the class that it enters once: the cells that are linked, those of value parameters, and those of the
-- routine's other variables.
use Rattle.std.proofs.Common.{◌≡◌, ℕ, zero, suc, ◌<◌, ◌&&◌, ◌||◌, not, Bool, true, false, List, [], ◌∷◌, length, map, nat_eq, Option, Some, None, refl, sym, ap, ◌∙◌, subst, arith}
use Rattle.std.specs.Prelude.{is_some, replicate, slice_get}
use Rattle.std.proofs.lemmas.Bool.{and_from, and_parts, eq-eqb, eqb-true, false≢true}
use Rattle.alias_class.specs.declared.bind.Link.{Link}
use Rattle.alias_class.specs.declared.outline.Outline.{Outline}
use Rattle.alias_class.specs.Cells.{cell_count, resolve, routine_of}
use Rattle.alias_class.specs.Classes.{Class}
use Rattle.alias_class.specs.Linked.{LinksShare, is_own_cell}
use Rattle.alias_class.specs.Outlines.{outline_of_program}
use Rattle.environment.specs.Environments.{Environment, env_join, is_reachable, undefined, value_at}
use Rattle.environment.specs.Environments.Environment.{Reachable}
use Rattle.interval.specs.declared.val.Val.{Val}
use Rattle.interval.specs.Values.{allows_nothing}
use Rattle.pas_program.specs.declared.expr.Access.{Access}
use Rattle.pas_program.specs.declared.expr.Actual.{Actual}
use Rattle.pas_program.specs.declared.expr.Actual.TheFolds.{fold_out-Actual, map-Actual}
use Rattle.pas_program.specs.declared.expr.Actual.TheOpen.{Actual-F}
use Rattle.pas_program.specs.declared.expr.Actual.TheViews.{out-Actual}
use Rattle.pas_program.specs.declared.expr.Expr.{Expr}
use Rattle.pas_program.specs.declared.expr.ExprForm.{ExprForm}
use Rattle.pas_program.specs.declared.program.Program.{Program}
use Rattle.pas_program.specs.declared.routine.Routine.{Routine}
use Rattle.pas_program.specs.declared.variable.VarDef.{VarDef}
use Rattle.pas_program.specs.declared.variable.VarKind.{VarKind}
use Rattle.pas_program.specs.declared.variable.VarKind.TheVariants as kind
use Rattle.pas_program.specs.Checked.{tables}
use Rattle.pas_program.specs.Scopes.{contains, is_distinct, is_formal}
use Rattle.pas_program.specs.Tables.{holds_of, is_kind}
use Rattle.pas_program.specs.Typed.{Hosted, Passed, Reached, access_type_step, actual_type_step, are_passed_to, expr_type_step, form_type_step, hosted, hosted_form, is_passed_to, passed, reached}
use Rattle.abstract_expr.specs.Expressions.{Scope}
use Rattle.transfer_fwd.specs.Crossings.{formals_given, linked_in, may_all_be_undefined, passed_value}
use Rattle.transfer_fwd.proofs.Called.{found}
use Rattle.transfer_fwd.proofs.Joining.{AreFresh, AreLeft, AreOpen, Joins, all_joined, begin, formals_joined, is_given, is_left, is_linked, is_parameter, links_joined, vars_joined}
use Rattle.transfer_fwd.proofs.OwnCells.{IsNamed, IsOwn, in_class, in_list, in_range, is_its_own, not_true, own_cell_is_named, same_variable}

-- ---- truth values

either : (a b : Bool) (A : Type 0) → (a ≡ true → A) → (b ≡ true → A) → (a || b) ≡ true → A
either true b A first second e = first refl
either false b A first second e = second e

or_first : (a b : Bool) → a ≡ true → (a || b) ≡ true
or_first true b e = refl
or_first false b e = absurd (false≢true e)

or_second : (a b : Bool) → b ≡ true → (a || b) ≡ true
or_second true b e = refl
or_second false b e = e

-- what cannot be true
false_from : (b : Bool) → (b ≡ true → ⊥) → b ≡ false
false_from true never = absurd (never refl)
false_from false never = refl

-- ---- the kinds of parameters

value_stored : (k : VarKind) → is_kind kind.Value k ≡ true → is_kind kind.Var k ≡ false
value_stored kind.Value h = refl
value_stored kind.Var h = absurd (false≢true h)
value_stored kind.Local h = refl
value_stored kind.Result h = refl
value_stored kind.Slot h = refl
value_stored kind.Bound h = refl

other_stored : (k : VarKind) → is_formal k ≡ false → is_kind kind.Var k ≡ false
other_stored kind.Value h = refl
other_stored kind.Var h = sym (absurd (false≢true (sym h)))
other_stored kind.Local h = refl
other_stored kind.Result h = refl
other_stored kind.Slot h = refl
other_stored kind.Bound h = refl

-- ---- links

links_lead : (links : List Link) (i : ℕ) (l : Link) → slice_get links i ≡ Some l → is_linked links l.callee ≡ true
links_lead [] i l e = absurd (grind arith)
links_lead (m ∷ links) zero l e = let same : m ≡ l = grind arith in or_first (nat_eq l.callee m.callee) (is_linked links l.callee) (eq-eqb l.callee m.callee (ap (λ (x : Link). x.callee) (sym same)))
links_lead (m ∷ links) (suc i) l e = or_second (nat_eq l.callee m.callee) (is_linked links l.callee) (links_lead links i l e)

-- what no link leads to
links_elsewhere : (links : List Link) (cell : ℕ) (shared : ℕ → Bool) → ((i : ℕ) (l : Link) → slice_get links i ≡ Some l → shared l.callee ≡ true) → shared cell ≡ false → is_linked links cell ≡ false
links_elsewhere [] cell shared each e = refl
links_elsewhere (l ∷ links) cell shared each e = false_from (is_linked (l ∷ links) cell) (either (nat_eq cell l.callee) (is_linked links cell) ⊥ here (λ h. false≢true (sym (links_elsewhere links cell shared (λ i m at. each (suc i) m at) e) ∙ h)))
  where
    here : nat_eq cell l.callee ≡ true → ⊥
    here h = false≢true (sym e ∙ ap shared (eqb-true cell l.callee h) ∙ each zero l refl)

-- ---- what an actual is passed to

module _ (p : Program) (outside : Scope) (left : Environment) where
  form_passed : Actual-F Actual ExprForm Access Expr → Passed
  form_passed d = actual_type_step (map-Actual Actual ExprForm Access Expr Passed Hosted Reached Hosted (passed (tables p)) (hosted_form (tables p)) (reached (tables p)) (hosted (tables p)) d)

  passed_is : (a : Actual) → passed (tables p) a ≡ form_passed (out-Actual a)
  unfolding form_passed
  passed_is a = fold_out-Actual Passed Hosted Reached Hosted actual_type_step (form_type_step (tables p)) (access_type_step (tables p)) expr_type_step a

  -- a value goes to a value parameter, and a variable to a variable parameter
  kind_passed : (v : ℕ) (d : Actual-F Actual ExprForm Access Expr) (x : VarDef) → is_passed_to (tables p) (form_passed d) x ≡ true → is_some (passed_value outside left v d) ≡ not (is_kind kind.Var x.kind)
  unfolding form_passed
  kind_passed v (Actual-F.«Actual::Value» value) x h = ap not (sym (value_stored x.kind (and_parts (is_kind kind.Value x.kind) _ (and_parts (hosted (tables p) value).fits _ h).1).0))
  kind_passed v (Actual-F.Whole access) x h = ap not (sym (value_stored x.kind (and_parts (is_kind kind.Value x.kind) _ (and_parts (reached (tables p) access).fits _ h).1).0))
  kind_passed v (Actual-F.Var access) x h = ap not (sym (and_parts (is_kind kind.Var x.kind) _ (and_parts (reached (tables p) access).fits _ h).1).0)

  pub record IsPassed (a : Actual) (v : ℕ) : Type 0 where
    pub item : VarDef
    pub at : slice_get p.vars v ≡ Some item
    pub by_value : is_some (passed_value outside left v (out-Actual a)) ≡ not (is_kind kind.Var item.kind)

  pub is_passed : (a : Actual) (v : ℕ) → holds_of (is_passed_to (tables p) (passed (tables p) a)) (slice_get p.vars v) ≡ true → IsPassed a v
  is_passed a v e = by (slice_get p.vars v) refl e
    where
      by : (o : Option VarDef) → slice_get p.vars v ≡ o → holds_of (is_passed_to (tables p) (passed (tables p) a)) o ≡ true → IsPassed a v
      by None at h = absurd (false≢true h)
      by (Some x) at h = record { item = x; at = at; by_value = kind_passed v (out-Actual a) x (ap (λ (y : Passed). is_passed_to (tables p) y x) (sym (passed_is a)) ∙ h) }

-- ---- the cells of a class that is entered

module _ (p : Program) (o : Outline) (is : o ≡ outline_of_program p) (d : Class) (rt : Routine) (known : slice_get p.routines (routine_of o d) ≡ Some rt) where
  abbrev inside : Scope
  inside = record { tables = tables p; bind = resolve o d }

  abbrev named_by : ℕ → ℕ
  named_by v = (resolve o d v).cell

  -- one of the listed variables that names the cell
  record Names (vars : List ℕ) (cell : ℕ) : Type 0 where
    variable : ℕ
    listed : contains variable vars ≡ true
    is_own : IsOwn p o is d rt known variable
    names : named_by variable ≡ cell

  later : (v : ℕ) (vars : List ℕ) (cell : ℕ) → Names vars cell → Names (v ∷ vars) cell
  later v vars cell x = record { variable = x.variable; listed = or_second (nat_eq x.variable v) (contains x.variable vars) x.listed; is_own = x.is_own; names = x.names }

  here : (v : ℕ) (vars : List ℕ) (cell : ℕ) → IsOwn p o is d rt known v → nat_eq cell (named_by v) ≡ true → Names (v ∷ vars) cell
  here v vars cell own e = record { variable = v; listed = or_first (nat_eq v v) (contains v vars) (eq-eqb v v refl); is_own = own; names = sym (eqb-true cell (named_by v) e) }

  -- another variable names another cell
  names_another : (v : ℕ) (vars : List ℕ) → IsOwn p o is d rt known v → contains v vars ≡ false → Names vars (named_by v) → ⊥
  names_another v vars own out x =
      let same : x.variable ≡ v = same_variable p o is d rt known x.variable v x.is_own own x.names in
      false≢true (sym out ∙ ap (λ (w : ℕ). contains w vars) (sym same) ∙ x.listed)

  first_out : (v : ℕ) (vars : List ℕ) → is_distinct (v ∷ vars) ≡ true → contains v vars ≡ false
  first_out v vars e = not_true (contains v vars) (and_parts (not (contains v vars)) (is_distinct vars) e).0

  -- ---- value parameters

  module _ (outside : Scope) (left : Environment) where
    abbrev fit : List Actual → List ℕ → Bool
    fit actuals formals = are_passed_to (tables p) (map (passed (tables p)) actuals) formals

    formal_own : (a : Actual) (v : ℕ) → IsPassed p outside left a v → contains v rt.formals ≡ true → is_some (passed_value outside left v (out-Actual a)) ≡ true → IsOwn p o is d rt known v
    formal_own a v x e some = record {
      item = x.item;
      at = x.at;
      of = eqb-true x.item.routine (routine_of o d) (and_parts (nat_eq x.item.routine (routine_of o d)) _ (sym ((p.in_scope.lists (routine_of o d) rt known).formals_all v x.item x.at) ∙ e)).0;
      stored = not_true (is_kind kind.Var x.item.kind) (sym x.by_value ∙ some);
    }

    abbrev AreFormals : List ℕ → Type 0
    AreFormals formals = (v : ℕ) → contains v formals ≡ true → contains v rt.formals ≡ true

    head_among : (v : ℕ) (formals : List ℕ) → AreFormals (v ∷ formals) → contains v rt.formals ≡ true
    head_among v formals among = among v (or_first (nat_eq v v) (contains v formals) (eq-eqb v v refl))

    tail_among : (v : ℕ) (formals : List ℕ) → AreFormals (v ∷ formals) → AreFormals formals
    tail_among v formals among w e = among w (or_second (nat_eq w v) (contains w formals) e)

    given_names : (actuals : List Actual) (formals : List ℕ) → fit actuals formals ≡ true → AreFormals formals → (cell : ℕ) → is_given outside inside left actuals formals cell ≡ true → Names formals cell
    given_names [] formals fits among cell e = absurd (false≢true e)
    given_names (a ∷ actuals) [] fits among cell e = absurd (false≢true e)
    given_names (a ∷ actuals) (v ∷ formals) fits among cell e =
        let parts = and_parts (holds_of (is_passed_to (tables p) (passed (tables p) a)) (slice_get p.vars v)) (fit actuals formals) fits in
        let some = is_some (passed_value outside left v (out-Actual a)) in
        either (some && nat_eq cell (named_by v)) (is_given outside inside left actuals formals cell) (Names (v ∷ formals) cell)
        (λ h.
        (let both = and_parts some (nat_eq cell (named_by v)) h in
        here v formals cell (formal_own a v (is_passed p outside left a v parts.0) (head_among v formals among) both.0) both.1))
        (λ h. later v formals cell (given_names actuals formals parts.1 (tail_among v formals among) cell h))
        e

    pub are_open : (ws : List Val) (done : ℕ → Bool) → length ws ≡ cell_count o d → ((cell : ℕ) → is_own_cell o d cell ≡ true → done cell ≡ false)
        → (actuals : List Actual) (formals : List ℕ) → fit actuals formals ≡ true → is_distinct formals ≡ true → AreFormals formals → AreOpen outside inside left ws done actuals formals
    are_open ws done long free [] formals fits once among = tt
    are_open ws done long free (a ∷ actuals) [] fits once among = tt
    are_open ws done long free (a ∷ actuals) (v ∷ formals) fits once among =
        let parts = and_parts (holds_of (is_passed_to (tables p) (passed (tables p) a)) (slice_get p.vars v)) (fit actuals formals) fits in (
          λ some.
              (let own = formal_own a v (is_passed p outside left a v parts.0) (head_among v formals among) some in (
                subst (λ (n : ℕ). named_by v < n) (sym long) (in_class p o is d rt known v own),
                (
                  free (named_by v) (is_its_own p o is d rt known v own),
                  false_from (is_given outside inside left actuals formals (named_by v))
                      (λ h. names_another v formals own (first_out v formals once) (given_names actuals formals parts.1 (tail_among v formals among) (named_by v) h)),
                ),
              )),
          are_open ws done long free actuals formals parts.1 (and_parts (not (contains v formals)) (is_distinct formals) once).1 (tail_among v formals among),
        )

    -- a value parameter is given
    pub formal_given : (v : ℕ) → IsOwn p o is d rt known v → (actuals : List Actual) (formals : List ℕ) → fit actuals formals ≡ true → contains v formals ≡ true → is_given outside inside left actuals formals (named_by v) ≡ true
    formal_given v own [] [] fits e = absurd (false≢true e)
    formal_given v own [] (w ∷ formals) fits e = absurd (false≢true fits)
    formal_given v own (a ∷ actuals) [] fits e = absurd (false≢true e)
    formal_given v own (a ∷ actuals) (w ∷ formals) fits e =
        let parts = and_parts (holds_of (is_passed_to (tables p) (passed (tables p) a)) (slice_get p.vars w)) (fit actuals formals) fits in
        let some = is_some (passed_value outside left w (out-Actual a)) in
        let first = some && nat_eq (named_by v) (named_by w) in
        let rest = is_given outside inside left actuals formals (named_by v) in
        either (nat_eq v w) (contains v formals) ((first || rest) ≡ true)
        (λ h. or_first first rest (at (is_passed p outside left a w parts.0) (eqb-true v w h)))
        (λ h. or_second first rest (formal_given v own actuals formals parts.1 h))
        e
      where
        at : IsPassed p outside left a w → v ≡ w → (is_some (passed_value outside left w (out-Actual a)) && nat_eq (named_by v) (named_by w)) ≡ true
        at x same =
            let item : Some x.item ≡ Some own.item = sym x.at ∙ ap (slice_get p.vars) (sym same) ∙ own.at in
            let stored : is_kind kind.Var x.item.kind ≡ false = ap (holds_of (λ (y : VarDef). is_kind kind.Var y.kind)) item ∙ own.stored in
            and_from (is_some (passed_value outside left w (out-Actual a))) (nat_eq (named_by v) (named_by w)) (x.by_value ∙ ap not stored) (eq-eqb (named_by v) (named_by w) (ap named_by same))

  -- ---- the routine's other variables

  abbrev AreVars : List ℕ → Type 0
  AreVars vars = (v : ℕ) → contains v vars ≡ true → contains v rt.vars ≡ true

  head_var : (v : ℕ) (vars : List ℕ) → AreVars (v ∷ vars) → contains v rt.vars ≡ true
  head_var v vars among = among v (or_first (nat_eq v v) (contains v vars) (eq-eqb v v refl))

  tail_vars : (v : ℕ) (vars : List ℕ) → AreVars (v ∷ vars) → AreVars vars
  tail_vars v vars among w e = among w (or_second (nat_eq w v) (contains w vars) e)

  var_own : (v : ℕ) → contains v rt.vars ≡ true → is_parameter inside v ≡ false → IsOwn p o is d rt known v
  var_own v e other =
      let x = found p.vars v (in_range p o is d rt known v e) in
      record {
        item = x.item;
        at = x.known;
        of = in_list p o is d rt known v x.item x.known e;
        stored = other_stored x.item.kind (ap (holds_of (λ (y : VarDef). is_formal y.kind)) (sym x.known) ∙ other);
      }

  left_names : (vars : List ℕ) → AreVars vars → (cell : ℕ) → is_left inside vars cell ≡ true → Names vars cell
  left_names [] among cell e = absurd (false≢true e)
  left_names (v ∷ vars) among cell e =
      either (not (is_parameter inside v) && nat_eq cell (named_by v)) (is_left inside vars cell) (Names (v ∷ vars) cell)
      (λ h.
      (let both = and_parts (not (is_parameter inside v)) (nat_eq cell (named_by v)) h in
      here v vars cell (var_own v (head_var v vars among) (not_true (is_parameter inside v) both.0)) both.1))
      (λ h. later v vars cell (left_names vars (tail_vars v vars among) cell h))
      e

  pub are_left : (ws : List Val) (done : ℕ → Bool) → length ws ≡ cell_count o d → ((v : ℕ) → IsOwn p o is d rt known v → is_parameter inside v ≡ false → done (named_by v) ≡ false)
      → (vars : List ℕ) → is_distinct vars ≡ true → AreVars vars → AreLeft inside ws done vars
  are_left ws done long free [] once among = tt
  are_left ws done long free (v ∷ vars) once among = (
    λ other.
        (let own = var_own v (head_var v vars among) other in (
          subst (λ (n : ℕ). named_by v < n) (sym long) (in_class p o is d rt known v own),
          (
            free v own other,
            false_from (is_left inside vars (named_by v)) (λ h. names_another v vars own (first_out v vars once) (left_names vars (tail_vars v vars among) (named_by v) h)),
          ),
        )),
    are_left ws done long free vars (and_parts (not (contains v vars)) (is_distinct vars) once).1 (tail_vars v vars among),
  )

  pub var_left : (v : ℕ) → is_parameter inside v ≡ false → (vars : List ℕ) → contains v vars ≡ true → is_left inside vars (named_by v) ≡ true
  var_left v other [] e = absurd (false≢true e)
  var_left v other (w ∷ vars) e =
      let first = not (is_parameter inside w) && nat_eq (named_by v) (named_by w) in
      let rest = is_left inside vars (named_by v) in
      either (nat_eq v w) (contains v vars) ((first || rest) ≡ true)
      (λ h.
      (let same = eqb-true v w h in
      or_first first rest (and_from (not (is_parameter inside w)) (nat_eq (named_by v) (named_by w)) (ap (λ (u : ℕ). not (is_parameter inside u)) (sym same) ∙ ap not other) (eq-eqb (named_by v) (named_by w) (ap named_by same)))))
      (λ h. or_second first rest (var_left v other vars h))
      e

  -- ---- all cells

  -- a parameter is among the formals
  formal_iff : (v : ℕ) (own : IsOwn p o is d rt known v) → contains v rt.formals ≡ is_parameter inside v
  formal_iff v own =
      (p.in_scope.lists (routine_of o d) rt known).formals_all v own.item own.at
      ∙ ap (λ (b : Bool). b && is_formal own.item.kind) (eq-eqb own.item.routine (routine_of o d) own.of)
      ∙ ap (holds_of (λ (y : VarDef). is_formal y.kind)) (sym own.at)

  module _ (caller : Class) (links : List Link) (share : LinksShare o caller d links) (outside : Scope) (left : Environment) (actuals : List Actual) (fits : fit outside left actuals rt.formals ≡ true) where
    abbrev linked_done : ℕ → Bool
    linked_done k = is_linked links k || false

    abbrev given_done : ℕ → Bool
    given_done k = is_given outside inside left actuals rt.formals k || linked_done k

    abbrev all_done : ℕ → Bool
    all_done k = is_left inside rt.vars k || given_done k

    own_unlinked : (cell : ℕ) → is_own_cell o d cell ≡ true → linked_done cell ≡ false
    own_unlinked cell own =
        ap (λ (b : Bool). b || false)
        (links_elsewhere links cell (λ k. not (is_own_cell o d k)) (λ i l e. ap not (share.to_shared i l e)) (ap not own))

    other_not_given : (v : ℕ) → IsOwn p o is d rt known v → is_parameter inside v ≡ false → given_done (named_by v) ≡ false
    other_not_given v own other =
        false_from (given_done (named_by v))
        (either (is_given outside inside left actuals rt.formals (named_by v)) (linked_done (named_by v)) ⊥
        (λ h. names_another v rt.formals own (formal_iff v own ∙ other) (given_names outside left actuals rt.formals fits (λ w e. e) (named_by v) h))
        (λ h. false≢true (sym (own_unlinked (named_by v) (is_its_own p o is d rt known v own)) ∙ h)))

    each_is_done : (cell : ℕ) → cell < cell_count o d → all_done cell ≡ true
    each_is_done cell less = by (is_own_cell o d cell) refl
      where
        stands : (x : IsNamed p o is d rt known cell) (b : Bool) → is_parameter inside x.variable ≡ b → all_done (named_by x.variable) ≡ true
        stands x false other = or_first (is_left inside rt.vars (named_by x.variable)) (given_done (named_by x.variable)) (var_left x.variable other rt.vars x.listed)
        stands x true formal =
            or_second (is_left inside rt.vars (named_by x.variable)) (given_done (named_by x.variable))
            (or_first (is_given outside inside left actuals rt.formals (named_by x.variable)) (linked_done (named_by x.variable))
            (formal_given outside left x.variable x.is_own actuals rt.formals fits (formal_iff x.variable x.is_own ∙ formal)))

        by : (b : Bool) → is_own_cell o d cell ≡ b → all_done cell ≡ true
        by false shared =
            let x = share.each_shared cell less shared in
            or_second (is_left inside rt.vars cell) (given_done cell)
            (or_second (is_given outside inside left actuals rt.formals cell) (linked_done cell)
            (or_first (is_linked links cell) false (subst (λ (k : ℕ). is_linked links k ≡ true) x.leads (links_lead links x.place x.link x.known))))
        by true own =
            let x = own_cell_is_named p o is d rt known cell own in
            subst (λ (k : ℕ). all_done k ≡ true) x.names (stands x (is_parameter inside x.variable) refl)

    module _ (ws : List Val) (long : length ws ≡ cell_count o d) (something : (i : ℕ) (l : Link) → slice_get links i ≡ Some l → allows_nothing (value_at left l.caller) ≡ false) where
      abbrev entry_linked : Environment
      entry_linked = linked_in true left links (Reachable (replicate (length ws) undefined))

      abbrev out_linked : Environment
      out_linked = linked_in false left links (Reachable ws)

      abbrev entry : Environment
      entry = formals_given true outside inside left actuals rt.formals entry_linked

      abbrev out_given : Environment
      out_given = formals_given false outside inside left actuals rt.formals out_linked

      are_fresh : AreFresh ws (λ k. false) left links
      are_fresh = record {
        within = λ i l e. subst (λ (n : ℕ). l.callee < n) (sym long) (share.to_cells i l e);
        fresh = λ i l e. refl;
        differ = λ i k l m e f. share.to_different i k l m e f;
        something = something;
      }

      -- each cell is joined once, so the outcome is the join
      pub joined_again : is_reachable entry ≡ true → may_all_be_undefined inside rt.vars out_given ≡ env_join (Reachable ws) entry
      joined_again reached =
          let lists = p.in_scope.lists (routine_of o d) rt known in
          let first : Joins ws linked_done out_linked entry_linked = links_joined ws left links (λ k. false) (Reachable ws) (Reachable (replicate (length ws) undefined)) are_fresh (begin ws) in
          let second : Joins ws given_done out_given entry =
          formals_joined outside inside left ws actuals rt.formals linked_done out_linked entry_linked
          (are_open outside left ws linked_done long own_unlinked actuals rt.formals fits lists.formals_once (λ v e. e)) first reached in
          let third : Joins ws all_done (may_all_be_undefined inside rt.vars out_given) entry =
          vars_joined inside ws rt.vars given_done out_given entry (are_left ws given_done long other_not_given rt.vars lists.vars_once (λ v e. e)) second in
          all_joined ws all_done (may_all_be_undefined inside rt.vars out_given) entry third (λ k h. each_is_done k (subst (λ (n : ℕ). k < n) long h))
