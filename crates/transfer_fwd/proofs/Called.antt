-- What a call is given stands in the class that calls, and the variables of its routine are seen from the class that it enters.
use Rattle.std.proofs.Common.{◌≡◌, ℕ, zero, suc, ◌<◌, Bool, true, false, ◌&&◌, ◌||◌, List, [], ◌∷◌, length, map, Option, Some, None, nat_eq, nat_lt, refl, sym, ap, ◌∙◌, subst, arith}
use Rattle.std.specs.List.{list_all}
use Rattle.std.specs.Option.{option_and_then, option_map}
use Rattle.std.specs.Prelude.{slice_get, slice_index_or}
use Rattle.std.proofs.lemmas.Bool.{and_from, and_parts, eq-eqb, eqb-true, ltb-true}
use Rattle.pas_program.specs.declared.expr.Access.{Access}
use Rattle.pas_program.specs.declared.expr.Actual.{Actual}
use Rattle.pas_program.specs.declared.expr.Actual.TheFolds.{fold-roll-Access, fold_out-Actual, map-Actual}
use Rattle.pas_program.specs.declared.expr.Actual.TheOpen.{Access-F, Actual-F}
use Rattle.pas_program.specs.declared.expr.Actual.TheViews.{out-Actual, roll-Access}
use Rattle.pas_program.specs.declared.expr.Expr.{Expr}
use Rattle.pas_program.specs.declared.expr.ExprForm.{ExprForm}
use Rattle.pas_program.specs.declared.program.Program.{Program}
use Rattle.pas_program.specs.declared.routine.Routine.{Routine}
use Rattle.pas_program.specs.declared.variable.VarDef.{VarDef}
use Rattle.pas_program.specs.declared.variable.VarKind.TheVariants as kind
use Rattle.pas_program.specs.Checked.{numbers_in, scope_in, tables}
use Rattle.pas_program.specs.Each as Each
use Rattle.pas_program.specs.Each.{Rule, all_true, each_access, each_actual, each_expr, each_form, true_if_some}
use Rattle.pas_program.specs.Scopes.{contains, is_the}
use Rattle.pas_program.specs.Tables.{Head, Tables, head_of, holds_of, is_around, is_callable, is_kind, is_visible, leads_within}
use Rattle.pas_program.specs.Typed.{are_passed_to, function_fits, passed, procedure_fits}
use Rattle.control_points.specs.declared.edge.Act.{Act}
use Rattle.control_points.specs.declared.edge.Act.TheVariants as act
use Rattle.control_points.specs.declared.edge.Edge.{Edge}
use Rattle.control_points.specs.declared.flow.Flow.{Flow}
use Rattle.control_points.specs.declared.point.Point.{Point}
use Rattle.control_points.specs.Acts.{act_types_fit, callee_fits, callee_passes, each_act}
use Rattle.control_points.specs.Checking.{formals_of}
use Rattle.control_points.specs.Fits.{act_at, callee_of, routine_at}
use Rattle.control_points.specs.Judgements.{result_of}
use Rattle.alias_class.specs.Calls.{IsSite, callee, callee_by, links_at}
use Rattle.alias_class.specs.Cells.{IsClass, routine_of}
use Rattle.alias_class.specs.Classes.{Class, class_at}
use Rattle.alias_class.specs.Linked.{LinksShare}
use Rattle.alias_class.specs.Outlines.{outline_of, outline_of_program}
use Rattle.alias_class.specs.Tables.{Table}
use Rattle.abstract_expr.specs.Standing.{class_in, seen_in, seen_rule}
use Rattle.transfer_fwd.specs.Standing.{ActualsStand, Called, IsCall, called_by}

-- ---- what is visible is seen, as its law says

abbrev pub ExprsSeen : Type 0
ExprsSeen = (p : Program) (c : Class) (e : Expr) → IsClass (outline_of_program p) c → each_expr (scope_in p (routine_of (outline_of_program p) c)) e ≡ true → each_expr (seen_rule (outline_of_program p) c) e ≡ true

abbrev pub AccessesSeen : Type 0
AccessesSeen = (p : Program) (c : Class) (a : Access) → IsClass (outline_of_program p) c → each_access (scope_in p (routine_of (outline_of_program p) c)) a ≡ true → each_access (seen_rule (outline_of_program p) c) a ≡ true

module _ (q seen : Rule) (exprs : (e : Expr) → each_expr q e ≡ true → each_expr seen e ≡ true) (accesses : (a : Access) → each_access q a ≡ true → each_access seen a ≡ true) where
  abbrev opened : Rule → Actual-F Actual ExprForm Access Expr → Bool
  opened r d = Each.actual_step (map-Actual Actual ExprForm Access Expr Bool Bool Bool Bool (each_actual r) (each_form r) (each_access r) (each_expr r) d)

  opened_is : (r : Rule) (a : Actual) → each_actual r a ≡ opened r (out-Actual a)
  opened_is r a = fold_out-Actual Bool Bool Bool Bool Each.actual_step (Each.form_step r) (Each.access_step r) Each.expr_step a

  opened_seen : (d : Actual-F Actual ExprForm Access Expr) → opened q d ≡ true → opened seen d ≡ true
  opened_seen (Actual-F.«Actual::Value» value) h = exprs value h
  opened_seen (Actual-F.Whole access) h = accesses access h
  opened_seen (Actual-F.Var access) h = accesses access h

  actuals_seen : (actuals : List Actual) → all_true (map (each_actual q) actuals) ≡ true → all_true (map (each_actual seen) actuals) ≡ true
  actuals_seen [] h = refl
  actuals_seen (a ∷ actuals) h =
      let parts = and_parts (each_actual q a) (all_true (map (each_actual q) actuals)) h in
      let here : each_actual seen a ≡ true = opened_is seen a ∙ opened_seen (out-Actual a) (sym (opened_is q a) ∙ parts.0) in
      both (each_actual seen a) _ here (actuals_seen actuals parts.1)
    where
      both : (a b : Bool) → a ≡ true → b ≡ true → (a && b) ≡ true
      both true b e f = f
      both false b e f = e

-- ---- a routine's own variables are visible in it

leads_here : (t : Tables) (r n : ℕ) → leads_within n t r r ≡ true
leads_here t r zero = eq-eqb r r refl
leads_here t r (suc n) = ap (λ b. b || holds_of (λ (h : Head). holds_of (λ q. leads_within n t q r) h.parent) (t.head_at r)) (eq-eqb r r refl)

own_visible : (t : Tables) (r v : ℕ) (h : Head) (d : VarDef) → t.head_at r ≡ Some h → t.var_at v ≡ Some d → d.routine ≡ r → is_visible t r v ≡ true
own_visible t r v h d head known own =
    ap (holds_of (λ (d : VarDef). is_around t r d.routine)) known
    ∙ ap (is_around t r) own
    ∙ ap (holds_of (λ (h : Head). leads_within h.level t r r)) head
    ∙ leads_here t r h.level

module _ (accesses : AccessesSeen) (p : Program) (c : Class) (is : IsClass (outline_of_program p) c) where
  -- a variable that is visible
  pub variable_seen : (v : ℕ) → is_visible (tables p) (routine_of (outline_of_program p) c) v ≡ true → (seen_rule (outline_of_program p) c).variable v ≡ true
  variable_seen v e =
      let x : Access-F Actual ExprForm Access Expr = record { var = v; subscripts = []; at = 0 } in
      let opens : (q : Rule) → each_access q (roll-Access x) ≡ (q.variable v && true) = λ q. fold-roll-Access Bool Bool Bool Bool Each.actual_step (Each.form_step q) (Each.access_step q) Each.expr_step x in
      let q = scope_in p (routine_of (outline_of_program p) c) in
      let seen = seen_rule (outline_of_program p) c in
      (and_parts (seen.variable v) true (sym (opens seen) ∙ accesses p c (roll-Access x) is (opens q ∙ and_from (q.variable v) true e refl))).0

-- what holds of each number in a list
pub all_of : (q : ℕ → Bool) (n : ℕ) (ns : List ℕ) → list_all q ns ≡ true → contains n ns ≡ true → q n ≡ true
all_of q n [] e h = absurd (grind arith)
all_of q n (m ∷ ns) e h =
    let parts = and_parts (q m) (list_all q ns) e in
    by (nat_eq n m) refl h (all_of q n ns parts.1) parts.0
  where
    by : (b : Bool) → nat_eq n m ≡ b → (b || contains n ns) ≡ true → (contains n ns ≡ true → q n ≡ true) → q m ≡ true → q n ≡ true
    by true same h rest here = ap q (eqb-true n m same) ∙ here
    by false other h rest here = rest h

pub each_of : (q : ℕ → Bool) (ns : List ℕ) → ((n : ℕ) → contains n ns ≡ true → q n ≡ true) → list_all q ns ≡ true
each_of q [] each = refl
each_of q (n ∷ ns) each =
    and_from (q n) (list_all q ns) (each n (ap (λ b. b || contains n ns) (eq-eqb n n refl)))
    (each_of q ns (λ m h. each m (later (nat_eq m n) (contains m ns) h)))
  where
    later : (a b : Bool) → b ≡ true → (a || b) ≡ true
    later true b h = refl
    later false b h = h

pub holds_at : (q : ℕ → Bool) (ns : List ℕ) (k d : ℕ) → list_all q ns ≡ true → k < length ns → q (slice_index_or ns k d) ≡ true
holds_at q [] k d e h = absurd (omega arith)
holds_at q (n ∷ ns) zero d e h = (and_parts (q n) (list_all q ns) e).0
holds_at q (n ∷ ns) (suc k) d e h = holds_at q ns k d (and_parts (q n) (list_all q ns) e).1 (omega arith)

-- what stands at a number of a list
pub record Found {A : Type 0} (xs : List A) (k : ℕ) : Type 0 where
  pub item : A
  pub known : slice_get xs k ≡ Some item

pub found : {A : Type 0} (xs : List A) (k : ℕ) → k < length xs → Found xs k
found [] k h = absurd (omega arith)
found (x ∷ xs) zero h = record { item = x; known = refl }
found (x ∷ xs) (suc k) h = let y = found xs k (omega arith) in record { item = y.item; known = y.known }

-- ---- the edge of a call

pub record IsCallEdge (f : Flow) (t : Table) (outside site : ℕ) (c : Called) : Type 0 where
  pub edge : Edge
  pub known : slice_get f.edges site ≡ Some edge
  pub at : ℕ
  pub calls : edge.act ≡ act.Call c.routine c.actuals c.slot at
  pub stands : routine_at f.points edge.from ≡ Some (routine_of t.outline (class_in t outside))

record DoesCall (a : Act) (c : Called) : Type 0 where
  at : ℕ
  calls : a ≡ act.Call c.routine c.actuals c.slot at

does_call : (a : Act) (c : Called) → called_by a ≡ Some c → DoesCall a c
does_call (act.Call routine actuals slot at) c e =
    let same : record { routine = routine; actuals = actuals; slot = slot } ≡ c = cc in
    record { at = at; calls = ap (λ (x : Called). act.Call x.routine x.actuals x.slot at) same }
does_call _ c e = absurd (grind arith)

pub call_edge : (f : Flow) (t : Table) (outside inside site : ℕ) (c : Called) → IsCall f t outside inside site c → IsCallEdge f t outside site c
call_edge f t outside inside site c is = by (slice_get f.edges site) refl is.known
  where
    by : (o : Option Edge) → slice_get f.edges site ≡ o → option_and_then called_by (option_map (λ (e : Edge). e.act) o) ≡ Some c → IsCallEdge f t outside site c
    by None at e = absurd (grind arith)
    by (Some x) at e = let call = does_call x.act c e in record { edge = x; known = at; at = call.at; calls = call.calls; stands = is.stands x at }

record HasRoutine (points : List Point) (p r : ℕ) : Type 0 where
  point : Point
  known : slice_get points p ≡ Some point
  of : point.routine ≡ r

has_routine : (points : List Point) (p r : ℕ) → routine_at points p ≡ Some r → HasRoutine points p r
has_routine points p r e = by (slice_get points p) refl e
  where
    by : (o : Option Point) → slice_get points p ≡ o → option_map (λ (q : Point). q.routine) o ≡ Some r → HasRoutine points p r
    by None at e = absurd (grind arith)
    by (Some x) at e = record { point = x; known = at; of = grind arith }

-- ---- what a call is given

record HasHead (q : Head → Bool) (o : Option Head) : Type 0 where
  head : Head
  known : o ≡ Some head
  holds : q head ≡ true

has_head : (q : Head → Bool) (o : Option Head) → holds_of q o ≡ true → HasHead q o
has_head q None h = absurd (grind arith)
has_head q (Some x) h = record { head = x; known = refl; holds = h }

module _ (f : Flow) (t : Table) (outside inside site : ℕ) (c : Called) (is : IsCall f t outside inside site c) where
  edge_of : IsCallEdge f t outside site c
  edge_of = call_edge f t outside inside site c is

  abbrev here : ℕ
  here = routine_of t.outline (class_in t outside)

  act_is : (P : Act → Type 0) → P edge_of.edge.act → P (act.Call c.routine c.actuals c.slot edge_of.at)
  act_is P h = subst P edge_of.calls h

  numbers_stand : (callee_passes (numbers_in f.program) c.routine c.slot ≡ true) × (all_true (map (each_actual (numbers_in f.program)) c.actuals) ≡ true)
  numbers_stand = and_parts _ _ (act_is (λ a. each_act (numbers_in f.program) a ≡ true) (f.edges_fit.numbers site edge_of.edge edge_of.known))

  scopes_stand : (callee_passes (scope_in f.program here) c.routine c.slot ≡ true) × (all_true (map (each_actual (scope_in f.program here)) c.actuals) ≡ true)
  scopes_stand =
      let at = has_routine f.points edge_of.edge.from here edge_of.stands in
      and_parts _ _ (act_is (λ a. each_act (scope_in f.program here) a ≡ true) (subst (λ (r : ℕ). each_act (scope_in f.program r) edge_of.edge.act ≡ true) at.of (f.edges_fit.scopes site edge_of.edge at.point edge_of.known at.known)))

  types_stand : callee_fits (tables f.program) c.routine (map (passed (tables f.program)) c.actuals) c.slot ≡ true
  types_stand = act_is (λ a. act_types_fit (tables f.program) a ≡ true) (f.edges_fit.types site edge_of.edge edge_of.known)

  pub record HasFormals : Type 0 where
    pub head : Head
    pub known : (tables f.program).head_at c.routine ≡ Some head
    pub fit : are_passed_to (tables f.program) (map (passed (tables f.program)) c.actuals) head.formals ≡ true

  pub formals_stand : HasFormals
  formals_stand = by c.slot types_stand
    where
      by : (slot : Option ℕ) → callee_fits (tables f.program) c.routine (map (passed (tables f.program)) c.actuals) slot ≡ true → HasFormals
      by None h = let x = has_head (procedure_fits (tables f.program) (map (passed (tables f.program)) c.actuals)) _ h in record { head = x.head; known = x.known; fit = (and_parts _ _ x.holds).0 }
      by (Some v) h = let x = has_head (function_fits (tables f.program) (map (passed (tables f.program)) c.actuals) v) _ h in record { head = x.head; known = x.known; fit = (and_parts _ _ x.holds).0 }

  pub routine_in_range : c.routine < length f.program.routines
  routine_in_range = by c.slot numbers_stand.0
    where
      by : (slot : Option ℕ) → callee_passes (numbers_in f.program) c.routine slot ≡ true → c.routine < length f.program.routines
      by None h = ltb-true c.routine (length f.program.routines) h
      by (Some v) h = ltb-true c.routine (length f.program.routines) (and_parts (nat_lt c.routine (length f.program.routines)) _ h).0

  module _ (exprs : ExprsSeen) (accesses : AccessesSeen) (classes : IsClass t.outline (class_in t outside)) where
    pub actuals_stand : ActualsStand f.program (seen_in t outside) c.routine c.actuals
    actuals_stand =
        let k = class_in t outside in
        let p = f.program in
        let is_class : IsClass (outline_of_program p) k = subst (λ o. IsClass o k) is.outline classes in
        let scoped : all_true (map (each_actual (scope_in p (routine_of (outline_of_program p) k))) c.actuals) ≡ true = subst (λ o. all_true (map (each_actual (scope_in p (routine_of o k))) c.actuals) ≡ true) is.outline scopes_stand.1 in
        let formals = formals_stand in
        record {
          numbers = numbers_stand.1;
          types = ap (λ h. are_passed_to (tables p) (map (passed (tables p)) c.actuals) (formals_of h)) formals.known ∙ formals.fit;
          seen =
              subst (λ o. all_true (map (each_actual (seen_rule o k)) c.actuals) ≡ true) (sym is.outline)
              (actuals_seen (scope_in p (routine_of (outline_of_program p) k)) (seen_rule (outline_of_program p) k) (λ e. exprs p k e is_class) (λ a. accesses p k a is_class) c.actuals scoped);
        }

  -- ---- the variables of the routine that is called, and the slot

  act_at_site : act_at f.edges site ≡ Some (act.Call c.routine c.actuals c.slot edge_of.at)
  act_at_site = ap (option_map (λ (e : Edge). e.act)) edge_of.known ∙ ap Some edge_of.calls

  pub inside_routine : routine_of t.outline (class_in t inside) ≡ c.routine
  inside_routine = ap (routine_of t.outline) is.entered ∙ ap (λ (a : Option Act). routine_of t.outline (callee_by t.outline (class_in t outside) site a)) act_at_site

  pub site_is : IsSite f.points f.edges (routine_of (outline_of f) (class_in t outside)) site
  site_is = record {
    edge = edge_of.edge;
    called = c.routine;
    known = edge_of.known;
    is_call = ap callee_of edge_of.calls;
    stands = subst (λ o. routine_at f.points edge_of.edge.from ≡ Some (routine_of o (class_in t outside))) is.outline edge_of.stands;
  }

  module _ (accesses : AccessesSeen) (classes : (i : ℕ) → i < length t.classes → IsClass t.outline (class_at t.classes i)) where
    own_in : (i v : ℕ) (h : Head) (d : VarDef) → i < length t.classes → (tables f.program).head_at (routine_of t.outline (class_in t i)) ≡ Some h → slice_get f.program.vars v ≡ Some d → d.routine ≡ routine_of t.outline (class_in t i) → (seen_in t i).variable v ≡ true
    own_in i v h d less head known own =
        let k = class_in t i in
        let visible = own_visible (tables f.program) (routine_of t.outline k) v h d head known own in
        subst (λ o. (seen_rule o k).variable v ≡ true) (sym is.outline)
        (variable_seen accesses f.program k (subst (λ o. IsClass o k) is.outline (classes i less)) v (subst (λ o. is_visible (tables f.program) (routine_of o k) v ≡ true) is.outline visible))

    pub own_seen : (v : ℕ) (d : VarDef) → slice_get f.program.vars v ≡ Some d → d.routine ≡ c.routine → (seen_in t inside).variable v ≡ true
    own_seen v d known own = own_in inside v formals_stand.head d is.callee (ap (tables f.program).head_at inside_routine ∙ formals_stand.known) known (own ∙ sym inside_routine)

    -- each variable that a list of the routine has
    listed_seen : (d : Routine) → slice_get f.program.routines c.routine ≡ Some d → (ns : List ℕ) → ((v : ℕ) → contains v ns ≡ true → contains v d.vars ≡ true) → list_all (λ v. nat_lt v (length f.program.vars)) ns ≡ true → list_all (seen_in t inside).variable ns ≡ true
    listed_seen d at ns among lie = each_of (seen_in t inside).variable ns seen
      where
        seen : (v : ℕ) → contains v ns ≡ true → (seen_in t inside).variable v ≡ true
        seen v e =
            let x = found f.program.vars v (ltb-true v (length f.program.vars) (all_of (λ v. nat_lt v (length f.program.vars)) v ns lie e)) in
            own_seen v x.item x.known (eqb-true x.item.routine c.routine (sym ((f.program.in_scope.lists c.routine d at).vars_all v x.item x.known) ∙ among v e))

    pub vars_in_range : (d : Routine) → slice_get f.program.routines c.routine ≡ Some d → list_all (λ v. nat_lt v (length f.program.vars)) d.vars ≡ true
    vars_in_range d at = (and_parts _ _ (and_parts _ _ (f.program.in_range.routine c.routine d at)).1).1

    pub vars_seen : (d : Routine) → slice_get f.program.routines c.routine ≡ Some d → list_all (seen_in t inside).variable d.vars ≡ true
    vars_seen d at = listed_seen d at d.vars (λ v e. e) (vars_in_range d at)

    among : (d : Routine) → slice_get f.program.routines c.routine ≡ Some d → (v : ℕ) → contains v d.formals ≡ true → contains v d.vars ≡ true
    among d at v e =
        let lie = (and_parts _ _ (and_parts _ _ (f.program.in_range.routine c.routine d at)).1).0 in
        let lists = f.program.in_scope.lists c.routine d at in
        let x = found f.program.vars v (ltb-true v (length f.program.vars) (all_of (λ v. nat_lt v (length f.program.vars)) v d.formals lie e)) in
        lists.vars_all v x.item x.known ∙ (and_parts (nat_eq x.item.routine c.routine) _ (sym (lists.formals_all v x.item x.known) ∙ e)).0

    pub formals_seen : list_all (seen_in t inside).variable (formals_of ((tables f.program).head_at c.routine)) ≡ true
    formals_seen = by (slice_get f.program.routines c.routine) refl
      where
        by : (o : Option Routine) → slice_get f.program.routines c.routine ≡ o → list_all (seen_in t inside).variable (formals_of (option_map head_of o)) ≡ true
        by None at = refl
        by (Some d) at =
            let lie = (and_parts _ _ (and_parts _ _ (f.program.in_range.routine c.routine d at)).1).0 in
            listed_seen d at d.formals (among d at) lie

    pub result_seen : (v : ℕ) → result_of (tables f.program) c.routine ≡ Some v → (seen_in t inside).variable v ≡ true
    result_seen v e = by (slice_get f.program.routines c.routine) refl e
      where
        by : (o : Option Routine) → slice_get f.program.routines c.routine ≡ o → option_and_then (λ (h : Head). h.result) (option_map head_of o) ≡ Some v → (seen_in t inside).variable v ≡ true
        by None at e = absurd (grind arith)
        by (Some d) at e =
            let lies = (and_parts _ _ (and_parts _ _ (f.program.in_range.routine c.routine d at)).0).1 in
            let less = ltb-true v (length f.program.vars) (subst (λ (r : Option ℕ). true_if_some (option_map (λ v. nat_lt v (length f.program.vars)) r) ≡ true) e lies) in
            let x = found f.program.vars v less in
            let the : is_the v d.result ≡ true = ap (is_the v) e ∙ eq-eqb v v refl in
            let own = (and_parts (nat_eq x.item.routine c.routine) _ (sym ((f.program.in_scope.lists c.routine d at).result_only v x.item x.known) ∙ the)).0 in
            own_seen v x.item x.known (eqb-true x.item.routine c.routine own)

    pub slot_seen : (v : ℕ) → c.slot ≡ Some v → (seen_in t outside).variable v ≡ true
    slot_seen v e =
        let own = (and_parts (is_callable (tables f.program) here c.routine) _ (subst (λ s. callee_passes (scope_in f.program here) c.routine s ≡ true) e scopes_stand.0)).1 in
        let at = has_routine f.points edge_of.edge.from here edge_of.stands in
        let less : here < length f.program.routines = subst (λ (r : ℕ). r < length f.program.routines) at.of (f.points_fit.routine edge_of.edge.from at.point at.known) in
        let d = found f.program.routines here less in
        by (slice_get f.program.vars v) refl (head_of d.item) (ap (option_map head_of) d.known) own
      where
        by : (o : Option VarDef) → slice_get f.program.vars v ≡ o → (h : Head) → (tables f.program).head_at here ≡ Some h → holds_of (λ d. nat_eq d.routine here && is_kind kind.Slot d.kind) o ≡ true → (seen_in t outside).variable v ≡ true
        by None at h head e = absurd (grind arith)
        by (Some d) at h head e = own_in outside v h d is.caller head at (eqb-true d.routine here (and_parts (nat_eq d.routine here) _ e).0)

  pub shares : ((f : Flow) (k : Class) (s : ℕ) → IsClass (outline_of f) k → IsSite f.points f.edges (routine_of (outline_of f) k) s → LinksShare (outline_of f) k (callee (outline_of f) f.edges k s) (links_at (outline_of f) f.edges k s))
      → IsClass t.outline (class_in t outside) → LinksShare t.outline (class_in t outside) (class_in t inside) (links_at t.outline f.edges (class_in t outside) site)
  shares law classes =
      let k = class_in t outside in
      subst (λ (d : Class). LinksShare t.outline k d (links_at t.outline f.edges k site)) (sym is.entered)
      (subst (λ o. LinksShare o k (callee o f.edges k site) (links_at o f.edges k site)) (sym is.outline) (law f k site (subst (λ o. IsClass o k) is.outline classes) site_is))
