-- What a routine sees by the program's text, each class of it sees, and what stands in the routine calls from it.
use Rattle.std.proofs.Common.{◌≡◌, ℕ, zero, suc, ◌<◌, Bool, true, false, cond, List, [], ◌∷◌, length, map, Option, Some, None, nat_eq, refl, sym, ap, ◌∙◌, subst, arith}
use Rattle.std.specs.List.{cons_option, filter}
use Rattle.std.specs.Option.{IsSome, option_map, unwrap_or}
use Rattle.std.specs.Prelude.{is_some, slice_get, if◌then◌else◌}
use Rattle.std.proofs.lemmas.List.Elements.{All-cons, All-nil}
use Rattle.std.proofs.lemmas.Option.{slice_get-map, slice_get_within}
use Rattle.pas_program.specs.declared.expr.Access.{Access}
use Rattle.pas_program.specs.declared.expr.Actual.{Actual}
use Rattle.pas_program.specs.declared.expr.Actual.TheFolds.{fold_out-Access, fold_out-Actual, map-Actual}
use Rattle.pas_program.specs.declared.expr.Actual.TheOpen.{Actual-F}
use Rattle.pas_program.specs.declared.expr.Actual.TheViews.{out-Access, out-Actual}
use Rattle.pas_program.specs.declared.expr.Expr.{Expr}
use Rattle.pas_program.specs.declared.expr.ExprForm.{ExprForm}
use Rattle.pas_program.specs.declared.program.Program.{Program}
use Rattle.pas_program.specs.declared.routine.Routine.{Routine}
use Rattle.pas_program.specs.declared.variable.VarDef.{VarDef}
use Rattle.pas_program.specs.declared.variable.VarKind.{VarKind}
use Rattle.pas_program.specs.declared.variable.VarKind.TheVariants as kind
use Rattle.pas_program.specs.Checked.{scope_in, tables}
use Rattle.pas_program.specs.Each as Each
use Rattle.pas_program.specs.Each.{Rule, all_true, each_access, each_actual, each_expr, each_form}
use Rattle.pas_program.specs.Tables.{Head, head_of, holds_of, is_around, is_callable, is_kind, is_own, is_visible, leads_within}
use Rattle.pas_program.specs.Typed.{Hosted, Passed, Reached, access_type_step, actual_type_step, are_passed_to, expr_type_step, form_type_step, function_fits, hosted, hosted_form, is_passed_to, passed, procedure_fits, reached}
use Rattle.control_points.specs.Acts.{callee_fits, callee_passes}
use Rattle.alias_class.specs.declared.outline.RoutineOutline.{RoutineOutline}
use Rattle.alias_class.specs.declared.outline.VariableOutline.{VariableOutline}
use Rattle.alias_class.specs.Calls.{var_actual, var_actuals}
use Rattle.alias_class.specs.Cells.{IsClass, around, is_seen, routine_of}
use Rattle.alias_class.specs.Classes.{Class}
use Rattle.alias_class.specs.Outlines.{formals_of, is_var_formal, no_outline, outline_of_program, parent_of, routine_outline, variable_outline}
use Rattle.alias_class.specs.Passings.{AreSeen, IsCallFrom, IsDeclaredAround}
use Rattle.alias_class.proofs.Lists.{and_left, and_right, or_right}
use Rattle.alias_class.proofs.Outlining.{formals_are}
use Rattle.alias_class.proofs.Ranks.{length-routines, outline_fits, variable_at}

-- what is known of a thing is known of one that there is
pub record Holds (A : Type 0) (p : A → Bool) (o : Option A) : Type 0 where
  pub one : A
  pub is : o ≡ Some one
  pub holds : p one ≡ true

pub held : {A : Type 0} (p : A → Bool) (o : Option A) → holds_of p o ≡ true → Holds A p o
held p None h = absurd (grind arith)
held p (Some x) h = record { one = x; is = refl; holds = h }

pub some_of : (d : Option Class) → is_some d ≡ true → IsSome d
some_of None e = absurd (grind arith)
some_of (Some d) e = grind arith

other_kind : (k : VarKind) → is_kind kind.Value k ≡ true → is_kind kind.Var k ≡ false
other_kind kind.Value h = refl
other_kind kind.Local h = refl
other_kind kind.Result h = refl
other_kind kind.Slot h = refl
other_kind kind.Bound h = refl
other_kind kind.Var h = absurd (grind arith)

-- ---- routines around a class

module _ (p : Program) where
  pub head_parent : (r : ℕ) (h : Head) → (tables p).head_at r ≡ Some h → parent_of (outline_of_program p) r ≡ h.parent
  head_parent r h e = by (slice_get p.routines r) refl e
    where
      by : (d : Option Routine) → slice_get p.routines r ≡ d → option_map head_of d ≡ Some h → parent_of (outline_of_program p) r ≡ h.parent
      by None at e = absurd (grind arith)
      by (Some d) at e =
          let same : head_of d ≡ h = grind arith in
          let known : slice_get (outline_of_program p).routines r ≡ Some (routine_outline p.vars d) = slice_get-map (routine_outline p.vars) p.routines r ∙ ap (option_map (routine_outline p.vars)) at in
          ap (λ (x : Option RoutineOutline). (unwrap_or x no_outline).parent) known ∙ ap (λ (h : Head). h.parent) same

  head_below : (r : ℕ) (h : Head) → (tables p).head_at r ≡ Some h → r < length (outline_of_program p).routines
  head_below r h e = by (slice_get p.routines r) refl e
    where
      by : (d : Option Routine) → slice_get p.routines r ≡ d → option_map head_of d ≡ Some h → r < length (outline_of_program p).routines
      by None at e = absurd (grind arith)
      by (Some d) at e = let within = slice_get_within p.routines r d at in let long = length-routines p in omega arith

  -- a routine that the text has around that of a class has a class around it
  pub leads_around : (steps : ℕ) (c : Class) → IsClass (outline_of_program p) c → (s : ℕ) → leads_within steps (tables p) (routine_of (outline_of_program p) c) s ≡ true → is_some (around (outline_of_program p) c s) ≡ true
  leads_around steps [] is s leads = by (nat_eq (outline_of_program p).main s) refl steps leads
    where
      no_parent : (q : ℕ) → parent_of (outline_of_program p) (outline_of_program p).main ≡ Some q → ⊥
      no_parent q e =
          let fits = outline_fits p in
          let long = length-routines p in
          let more = fits.parents (outline_of_program p).main q e in
          let few = fits.parents_few (outline_of_program p).main q e in
          omega arith

      by : (b : Bool) → nat_eq (outline_of_program p).main s ≡ b → (steps : ℕ) → leads_within steps (tables p) (outline_of_program p).main s ≡ true → is_some {T = Class} (if b then Some [] else None) ≡ true
      by true same steps leads = refl
      by false other zero leads = absurd (grind arith)
      by false other (suc steps) leads =
          absurd
          (let h = held (λ (h : Head). holds_of (λ q. leads_within steps (tables p) q s) h.parent) ((tables p).head_at (outline_of_program p).main) (or_right (nat_eq (outline_of_program p).main s) _ other leads) in
          let q = held (λ (q : ℕ). leads_within steps (tables p) q s) h.one.parent h.holds in
          no_parent q.one (head_parent (outline_of_program p).main h.one h.is ∙ q.is))
  leads_around steps (e ∷ parent) is s leads = by (nat_eq e.routine s) refl steps leads (λ steps leads. leads_around steps parent is.1 s leads)
    where
      by : (b : Bool) → nat_eq e.routine s ≡ b → (steps : ℕ) → leads_within steps (tables p) e.routine s ≡ true → ((steps : ℕ) → leads_within steps (tables p) (routine_of (outline_of_program p) parent) s ≡ true → is_some (around (outline_of_program p) parent s) ≡ true)
          → is_some (if b then Some (e ∷ parent) else around (outline_of_program p) parent s) ≡ true
      by true same steps leads outer = refl
      by false other zero leads outer = absurd (grind arith)
      by false other (suc steps) leads outer =
          let h = held (λ (h : Head). holds_of (λ q. leads_within steps (tables p) q s) h.parent) ((tables p).head_at e.routine) (or_right (nat_eq e.routine s) _ other leads) in
          let q = held (λ (q : ℕ). leads_within steps (tables p) q s) h.one.parent h.holds in
          let around : Some (routine_of (outline_of_program p) parent) ≡ Some q.one = sym is.0.declared ∙ head_parent e.routine h.one h.is ∙ q.is in
          let same : q.one ≡ routine_of (outline_of_program p) parent = grind arith in
          outer steps (subst (λ (r : ℕ). leads_within steps (tables p) r s ≡ true) same q.holds)

  module _ (c : Class) (is : IsClass (outline_of_program p) c) (r : ℕ) (of : routine_of (outline_of_program p) c ≡ r) where
    pub is_around_class : (s : ℕ) → is_around (tables p) r s ≡ true → is_some (around (outline_of_program p) c s) ≡ true
    is_around_class s e =
        let h = held (λ (h : Head). leads_within h.level (tables p) r s) ((tables p).head_at r) e in
        leads_around h.one.level c is s (subst (λ (n : ℕ). leads_within h.one.level (tables p) n s ≡ true) (sym of) h.holds)

    pub is_seen_class : (v : ℕ) → is_visible (tables p) r v ≡ true → is_seen (outline_of_program p) c v ≡ true
    is_seen_class v e =
        let x = held (λ (d : VarDef). is_around (tables p) r d.routine) ((tables p).var_at v) e in
        ap (holds_of (λ (x : VariableOutline). is_some (around (outline_of_program p) c x.routine))) (variable_at p v ∙ ap (option_map (variable_outline p.types (outline_of_program p).routines v)) x.is)
        ∙ is_around_class x.one.routine x.holds

    pub declared_class : (s : ℕ) → is_callable (tables p) r s ≡ true → IsDeclaredAround (outline_of_program p) c s
    declared_class s e =
        let h = held (λ (h : Head). holds_of (λ q. is_around (tables p) r q) h.parent) ((tables p).head_at s) e in
        let q = held (λ (q : ℕ). is_around (tables p) r q) h.one.parent h.holds in
        let d = held (λ (d : Class). true) (around (outline_of_program p) c q.one) (some (around (outline_of_program p) c q.one) (is_around_class q.one q.holds)) in
        record { parent = q.one; owner = d.one; in_range = head_below s h.one h.is; declared = head_parent s h.one h.is ∙ q.is; found = d.is }
      where
        some : (o : Option Class) → is_some o ≡ true → holds_of (λ (d : Class). true) o ≡ true
        some None e = e
        some (Some d) e = refl

  -- ---- calls from a class

  abbrev typed : Actual-F Actual ExprForm Access Expr → Passed
  typed d = actual_type_step (map-Actual Actual ExprForm Access Expr Passed Hosted Reached Hosted (passed (tables p)) (hosted_form (tables p)) (reached (tables p)) (hosted (tables p)) d)

  passed_is : (a : Actual) → passed (tables p) a ≡ typed (out-Actual a)
  passed_is a = fold_out-Actual Passed Hosted Reached Hosted actual_type_step (form_type_step (tables p)) (access_type_step (tables p)) expr_type_step a

  -- what is passed to a variable parameter is a variable
  kind_passed : (d : Actual-F Actual ExprForm Access Expr) (x : VarDef) → is_passed_to (tables p) (typed d) x ≡ true → is_kind kind.Var x.kind ≡ is_some (var_actual d)
  kind_passed (Actual-F.«Actual::Value» value) x h = other_kind x.kind (and_left (is_kind kind.Value x.kind) _ (and_right (hosted (tables p) value).fits _ h))
  kind_passed (Actual-F.Whole access) x h = other_kind x.kind (and_left (is_kind kind.Value x.kind) _ (and_right (reached (tables p) access).fits _ h))
  kind_passed (Actual-F.Var access) x h = and_left (is_kind kind.Var x.kind) _ (and_right (reached (tables p) access).fits _ h)

  pub count_passed : (actuals : List Actual) (formals : List ℕ) → are_passed_to (tables p) (map (passed (tables p)) actuals) formals ≡ true → length (var_actuals actuals) ≡ length (filter (λ v. is_var_formal p.vars v) formals)
  count_passed [] [] h = refl
  count_passed [] (f ∷ formals) h = absurd (grind arith)
  count_passed (a ∷ actuals) [] h = absurd (grind arith)
  count_passed (a ∷ actuals) (f ∷ formals) h =
      let one = held (is_passed_to (tables p) (passed (tables p) a)) ((tables p).var_at f) (and_left (holds_of (is_passed_to (tables p) (passed (tables p) a)) ((tables p).var_at f)) _ h) in
      let rest = count_passed actuals formals (and_right (holds_of (is_passed_to (tables p) (passed (tables p) a)) ((tables p).var_at f)) _ h) in
      let fits : is_passed_to (tables p) (typed (out-Actual a)) one.one ≡ true = ap (λ (x : Passed). is_passed_to (tables p) x one.one) (sym (passed_is a)) ∙ one.holds in
      let var : is_var_formal p.vars f ≡ is_some (var_actual (out-Actual a)) = ap (holds_of (λ (d : VarDef). is_kind kind.Var d.kind)) one.is ∙ kind_passed (out-Actual a) one.one fits in
      by (var_actual (out-Actual a)) (is_var_formal p.vars f) var rest
    where
      by : (o : Option Access) (b : Bool) → b ≡ is_some o → length (var_actuals actuals) ≡ length (filter (λ v. is_var_formal p.vars v) formals)
          → length (cons_option o (var_actuals actuals)) ≡ length (cond b (f ∷ filter (λ v. is_var_formal p.vars v) formals) (filter (λ v. is_var_formal p.vars v) formals))
      by None false same rest = rest
      by None true same rest = absurd (grind arith)
      by (Some x) true same rest = ap suc rest
      by (Some x) false same rest = absurd (grind arith)

  callee_formals : (s : ℕ) (actuals : List Actual) (slot : Option ℕ) → callee_fits (tables p) s (map (passed (tables p)) actuals) slot ≡ true → length (var_actuals actuals) ≡ length (formals_of (outline_of_program p) s)
  callee_formals s actuals slot h = of (by slot h)
    where
      by : (slot : Option ℕ) → callee_fits (tables p) s (map (passed (tables p)) actuals) slot ≡ true → Holds Head (λ h. are_passed_to (tables p) (map (passed (tables p)) actuals) h.formals) ((tables p).head_at s)
      by None h = let x = held (procedure_fits (tables p) (map (passed (tables p)) actuals)) ((tables p).head_at s) h in record { one = x.one; is = x.is; holds = and_left _ _ x.holds }
      by (Some v) h = let x = held (function_fits (tables p) (map (passed (tables p)) actuals) v) ((tables p).head_at s) h in record { one = x.one; is = x.is; holds = and_left _ _ x.holds }

      of : Holds Head (λ h. are_passed_to (tables p) (map (passed (tables p)) actuals) h.formals) ((tables p).head_at s) → length (var_actuals actuals) ≡ length (formals_of (outline_of_program p) s)
      of x = routine (slice_get p.routines s) refl x.is
        where
          routine : (d : Option Routine) → slice_get p.routines s ≡ d → option_map head_of d ≡ Some x.one → length (var_actuals actuals) ≡ length (formals_of (outline_of_program p) s)
          routine None at e = absurd (grind arith)
          routine (Some d) at e =
              let same : head_of d ≡ x.one = grind arith in
              let fits : are_passed_to (tables p) (map (passed (tables p)) actuals) d.formals ≡ true = ap (λ (h : Head). are_passed_to (tables p) (map (passed (tables p)) actuals) h.formals) same ∙ x.holds in
              count_passed actuals d.formals fits ∙ ap length (sym (formals_are p s d at))

  module _ (c : Class) (is : IsClass (outline_of_program p) c) (r : ℕ) (of : routine_of (outline_of_program p) c ≡ r) where
    each_access_sees : (a : Access) → each_access (scope_in p r) a ≡ true → is_seen (outline_of_program p) c (out-Access a).var ≡ true
    each_access_sees a h =
        let q = scope_in p r in
        is_seen_class c is r of (out-Access a).var
        (and_left (is_visible (tables p) r (out-Access a).var) _ (sym (fold_out-Access Bool Bool Bool Bool Each.actual_step (Each.form_step q) (Each.access_step q) Each.expr_step a) ∙ h))

    actuals_seen : (actuals : List Actual) → all_true (map (each_actual (scope_in p r)) actuals) ≡ true → AreSeen (outline_of_program p) c (var_actuals actuals)
    actuals_seen [] h = All-nil (λ (a : Access). is_seen (outline_of_program p) c (out-Access a).var ≡ true)
    actuals_seen (a ∷ actuals) h =
        let q = scope_in p r in
        by (out-Actual a)
        (sym (fold_out-Actual Bool Bool Bool Bool Each.actual_step (Each.form_step q) (Each.access_step q) Each.expr_step a) ∙ and_left (each_actual q a) _ h)
        (actuals_seen actuals (and_right (each_actual q a) _ h))
      where
        by : (d : Actual-F Actual ExprForm Access Expr)
            → Each.actual_step (map-Actual Actual ExprForm Access Expr Bool Bool Bool Bool (each_actual (scope_in p r)) (each_form (scope_in p r)) (each_access (scope_in p r)) (each_expr (scope_in p r)) d) ≡ true
            → AreSeen (outline_of_program p) c (var_actuals actuals) → AreSeen (outline_of_program p) c (cons_option (var_actual d) (var_actuals actuals))
        by (Actual-F.«Actual::Value» value) h rest = rest
        by (Actual-F.Whole access) h rest = rest
        by (Actual-F.Var access) h rest = All-cons (λ (a : Access). is_seen (outline_of_program p) c (out-Access a).var ≡ true) access (var_actuals actuals) (each_access_sees access h) rest

    pub called : (s : ℕ) (actuals : List Actual) (slot : Option ℕ) → callee_passes (scope_in p r) s slot ≡ true → all_true (map (each_actual (scope_in p r)) actuals) ≡ true → callee_fits (tables p) s (map (passed (tables p)) actuals) slot ≡ true → IsCallFrom (outline_of_program p) c s actuals
    called s actuals slot passes each fits =
        record {
          declared = declared_class c is r of s (callable slot passes);
          names = actuals_seen actuals each;
          passed = callee_formals s actuals slot fits;
        }
      where
        callable : (slot : Option ℕ) → callee_passes (scope_in p r) s slot ≡ true → is_callable (tables p) r s ≡ true
        callable None h = h
        callable (Some v) h = and_left (is_callable (tables p) r s) (is_own (tables p) r kind.Slot v) h
