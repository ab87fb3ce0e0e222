-- What a call, a return and a `goto` do: a call makes an activation that stands rightly on those below it, and the others end the
-- latest activations.
use Rattle.std.proofs.Common.{◌≡◌, ℕ, suc, ◌-◌, ◌<◌, Bool, true, false, ◌&&◌, List, [], ◌∷◌, ◌++◌, ℤ, All, map, length, refl, sym, ap, subst, ◌∙◌, inl, inr, Ok, Option, Some, None, unwrap_or, option_and_then, slice_get, nat_eq, eqb-true, eq-eqb, arith}
use Rattle.std.proofs.lemmas.Bool.{and_parts, eqb-false, or_cases, or_left, or_right, cases_Bool, cond-true, cond-false, true≢false}
use Rattle.std.proofs.lemmas.List.Elements.{All-nil, All-cons, All-append}
use Rattle.std.proofs.lemmas.Option.{none-some, same_Some}
use Rattle.pas_program.specs.declared.expr.Access.{Access}
use Rattle.pas_program.specs.declared.expr.Actual.{Actual}
use Rattle.pas_program.specs.declared.expr.Actual.TheFolds.{fold_out-Actual, map-Actual}
use Rattle.pas_program.specs.declared.expr.Actual.TheOpen.{Actual-F}
use Rattle.pas_program.specs.declared.expr.Actual.TheViews.{out-Actual}
use Rattle.pas_program.specs.declared.expr.Expr.{Expr}
use Rattle.pas_program.specs.declared.expr.ExprForm.{ExprForm}
use Rattle.pas_program.specs.declared.variable.VarDef.{VarDef}
use Rattle.pas_program.specs.declared.variable.VarKind.{VarKind}
use Rattle.pas_program.specs.declared.variable.VarKind.TheVariants as kind
use Rattle.pas_program.specs.Each as Each
use Rattle.pas_program.specs.Each.{Rule, all_true, each_access, each_actual, each_expr, each_form}
use Rattle.pas_program.specs.Scopes.{contains, scope_rule}
use Rattle.pas_program.specs.Tables.{Tables, Head, holds_of, is_around, is_callable, is_kind, is_own}
use Rattle.pas_program.specs.Typed.{Hosted, Reached, Passed, hosted, hosted_form, reached, passed, is_passed_to, are_passed_to, function_fits, procedure_fits, actual_type_step, form_type_step, access_type_step, expr_type_step}
use Rattle.control_points.specs.declared.edge.Act.{Act}
use Rattle.control_points.specs.declared.edge.Act.TheVariants as act
use Rattle.control_points.specs.declared.edge.Edge.{Edge}
use Rattle.control_points.specs.Actions.{sets, at_depth, Effect, Passing, no_passing, top_depth, top_call, slot_of, slot_at, was_made_by, result_of, result_value, view, pass_to, pass, frame_of_call, formals_of, call, give_back, return_from, jump}
use Rattle.control_points.specs.Acts.{each_act, act_types_fit, callee_passes, callee_fits}
use Rattle.control_points.specs.Chart.{Chart}
use Rattle.control_points.specs.Evaluation.{is_value_of, var_type, spot, assigned}
use Rattle.control_points.specs.Finding.{around, bound_to}
use Rattle.control_points.specs.Fits.{callee_of, routine_at}
use Rattle.control_points.specs.States.{Binding, Activation, Stack, State}
use Rattle.control_points.specs.Steps.{down_to, point_of}
use Rattle.control_points.specs.Storage.{Place, whole}
use Rattle.control_points.specs.ValidStates.{Denotes, Exists, IsOf, IsBound, IsCallee, IsStack, IsValid, type_of_variable}
use Rattle.control_points.specs.WellFormed.{IsWellFormed}
use Rattle.control_points.proofs.ValidActions.{array_typed, assigned_fits, stored_at}
use Rattle.control_points.proofs.ValidBasics.{no_error, same_Ok, then_ok, if_done, same_effect, holds_found, found_once, same_kind}
use Rattle.control_points.proofs.ValidEffects.{EffectFits, lands}
use Rattle.control_points.proofs.ValidPlaces.{some_found, around_seen, spot_denotes, var_type_is, whole_denotes}
use Rattle.control_points.proofs.ValidStacks.{down_frames, frame_below, frame_kept, frame_of_latest, latest_found, standing_routine, is_of_above, top_is}
use Rattle.control_points.proofs.ValidStores.{ChangesFit, changes_joined, stored_moved}

-- ---- bindings

bound_left : (v : ℕ) (xs ys : List Binding) (p : Place) → bound_to v xs ≡ Some p → bound_to v (xs ++ ys) ≡ Some p
bound_left v [] ys p h = absurd (none-some p h)
bound_left v (b ∷ xs) ys p h =
    elim (cases_Bool (nat_eq b.formal v)) [
      | inl e ↦ cond-true (nat_eq b.formal v) (Some b.place) (bound_to v (xs ++ ys)) e ∙ sym (cond-true (nat_eq b.formal v) (Some b.place) (bound_to v xs) e) ∙ h
      | inr e ↦
          cond-false (nat_eq b.formal v) (Some b.place) (bound_to v (xs ++ ys)) e
          ∙ bound_left v xs ys p (sym (cond-false (nat_eq b.formal v) (Some b.place) (bound_to v xs) e) ∙ h)
    ]

-- ---- what is among formals

first_among : (f : ℕ) (formals : List ℕ) → contains f (f ∷ formals) ≡ true
first_among f formals = or_left (nat_eq f f) _ (eq-eqb f f refl)

later_among : (f g : ℕ) (formals : List ℕ) → contains g formals ≡ true → contains g (f ∷ formals) ≡ true
later_among f g formals h = or_right (nat_eq g f) _ h

among_others : (f u : ℕ) (formals : List ℕ) → nat_eq f u ≡ false → contains u (f ∷ formals) ≡ true → contains u formals ≡ true
among_others f u formals apart h =
    elim (or_cases (nat_eq u f) _ h) [
      | inl e ↦ absurd (eqb-false f u apart (sym (eqb-true u f e)))
      | inr e ↦ e
    ]

-- ---- actuals, by what they are

abbrev pub typed_step : Tables → Actual-F Actual ExprForm Access Expr → Passed
typed_step t d = actual_type_step (map-Actual Actual ExprForm Access Expr Passed Hosted Reached Hosted (passed t) (hosted_form t) (reached t) (hosted t) d)

abbrev pub ruled_step : Rule → Actual-F Actual ExprForm Access Expr → Bool
ruled_step q d = Each.actual_step (map-Actual Actual ExprForm Access Expr Bool Bool Bool Bool (each_actual q) (each_form q) (each_access q) (each_expr q) d)

pub passed_is : (t : Tables) (a : Actual) → passed t a ≡ typed_step t (out-Actual a)
passed_is t a = fold_out-Actual Passed Hosted Reached Hosted actual_type_step (form_type_step t) (access_type_step t) expr_type_step a

pub each_actual_is : (q : Rule) (a : Actual) → each_actual q a ≡ ruled_step q (out-Actual a)
each_actual_is q a = fold_out-Actual Bool Bool Bool Bool Each.actual_step (Each.form_step q) (Each.access_step q) Each.expr_step a

-- ---- passing: what the actuals give to formals that are variables of the new activation

-- what one actual gives to the formal v, or all actuals give to some formals
pub record PassingFits (c : Chart) (stack : Stack) (a : Activation) (q : Passing) : Type 0 where
  pub changes : ChangesFit c (a ∷ stack) q.changes
  pub bindings : All (λ (b : Binding). Exists c stack b.place) q.bindings

-- what one actual gives to the formal v, which is x
record ActualFits (c : Chart) (stack : Stack) (a : Activation) (v : ℕ) (x : VarDef) (q : Passing) : Type 0 where
  fits : PassingFits c stack a q
  bound : is_kind kind.Var x.kind ≡ true → IsBound c stack v q.bindings
  others : (u : ℕ) → nat_eq v u ≡ false → (more : List Binding) → bound_to u (q.bindings ++ more) ≡ bound_to u more

not_var : (k : VarKind) → is_kind kind.Value k ≡ true → is_kind kind.Var k ≡ false
not_var k h = ap (is_kind kind.Var) (sym (same_kind kind.Value k h))

module _ (c : Chart) (w : IsWellFormed c) (s : State) (v : IsValid c s) (r : ℕ) (here : IsOf s.stack (top_depth s.stack) r) (a : Activation) where
  -- a formal that is a value parameter has storage of its own in the new activation
  formal_denotes : (f : ℕ) (x : VarDef) → c.tables.var_at f ≡ Some x → x.routine ≡ a.frame.routine → is_kind kind.Value x.kind ≡ true → Denotes c (a ∷ s.stack) (whole (length s.stack) f) (type_of_variable c.tables f)
  formal_denotes f x known own value =
      whole_denotes c w.tables (a ∷ s.stack) (length s.stack) f x known
      (record { frame = a.frame; activation = frame_of_latest a s.stack (length s.stack) refl; routine = sym own }) (not_var x.kind value)

  -- a source of a copy in the new stack: only its type counts
  actual_fits : (f : ℕ) (x : VarDef) → c.tables.var_at f ≡ Some x → x.routine ≡ a.frame.routine → (d : Actual-F Actual ExprForm Access Expr)
      → ruled_step (scope_rule c.tables r) d ≡ true → is_passed_to c.tables (typed_step c.tables d) x ≡ true
      → (q : Passing) → pass_to c s f d ≡ Ok q → ActualFits c s.stack a f x q
  actual_fits f x known own (Actual-F.«Actual::Value» e) scope types q h =
      let y = then_ok (assigned (view c s) (var_type c.tables f) e) _ q h in
      let is = same_Ok _ q y.2 in
      let value = and_parts (is_kind kind.Value x.kind) _ (and_parts (hosted c.tables e).fits _ types).1 in
      let fits = assigned_fits (view c s) (var_type c.tables f) e y.0 y.1 in
      subst (ActualFits c s.stack a f x) is
      (record {
        fits = record {
          changes = (stored_at c (a ∷ s.stack) (whole (length s.stack) f) _ y.0 (formal_denotes f x known own value.0) fits, tt);
          bindings = All-nil (λ (b : Binding). Exists c s.stack b.place);
        };
        bound = λ var. absurd (true≢false (sym var ∙ not_var x.kind value.0));
        others = λ u apart more. refl;
      })
  actual_fits f x known own (Actual-F.Whole source) scope types q h =
      let y = then_ok (spot (view c s) source) _ q h in
      let is = same_Ok _ q y.2 in
      let inside = and_parts (reached c.tables source).fits _ types in
      let value = and_parts (is_kind kind.Value x.kind) _ inside.1 in
      let array = and_parts (nat_eq (reached c.tables source).of_type x.of_type) _ value.1 in
      let same = eqb-true (reached c.tables source).of_type x.of_type array.0 in
      let there = array_typed (c.tables.type_at x.of_type) array.1 in
      let from = spot_denotes c w.tables s v.stack r here source y.0 there.0 scope inside.0 (ap c.tables.type_at same ∙ there.1) y.1 in
      let to = formal_denotes f x known own value.0 in
      subst (ActualFits c s.stack a f x) is
      (record {
        fits = record {
          changes = ((to.exists, to.typed ∙ ap c.tables.type_at (var_type_is c.tables f x known ∙ sym same) ∙ sym from.typed), tt);
          bindings = All-nil (λ (b : Binding). Exists c s.stack b.place);
        };
        bound = λ var. absurd (true≢false (sym var ∙ not_var x.kind value.0));
        others = λ u apart more. refl;
      })
  actual_fits f x known own (Actual-F.Var target) scope types q h =
      let y = then_ok (spot (view c s) target) _ q h in
      let is = same_Ok _ q y.2 in
      let inside = and_parts (reached c.tables target).fits _ types in
      let same = eqb-true (reached c.tables target).of_type x.of_type (and_parts (is_kind kind.Var x.kind) _ inside.1).1 in
      let there = some_found (c.tables.type_at x.of_type) (w.tables.typed f x known) in
      let from = spot_denotes c w.tables s v.stack r here target y.0 there.0 scope inside.0 (ap c.tables.type_at same ∙ there.1) y.1 in
      let binding : Binding = record { formal = f; place = (y.0).place } in
      subst (ActualFits c s.stack a f x) is
      (record {
        fits = record {
          changes = tt;
          bindings = All-cons (λ (b : Binding). Exists c s.stack b.place) binding [] from.exists (All-nil (λ (b : Binding). Exists c s.stack b.place));
        };
        bound = λ var. record {
          place = (y.0).place;
          known = cond-true (nat_eq f f) (Some (y.0).place) None (eq-eqb f f refl);
          exists = from.exists;
          typed = from.typed ∙ ap c.tables.type_at (same ∙ sym (var_type_is c.tables f x known));
        };
        others = λ u apart more. cond-false (nat_eq f u) (Some (y.0).place) (bound_to u more) apart;
      })

  -- the actuals of a call, for formals that are variables of its routine: each of these that is a variable parameter is bound
  record AllFit (formals : List ℕ) (q : Passing) : Type 0 where
    fits : PassingFits c s.stack a q
    bound : (u : ℕ) (x : VarDef) → contains u formals ≡ true → c.tables.var_at u ≡ Some x → is_kind kind.Var x.kind ≡ true → IsBound c s.stack u q.bindings

  -- what is bound by the first actual, or by the others
  bound_by_both : (f : ℕ) (x : VarDef) → c.tables.var_at f ≡ Some x → (formals : List ℕ) (p q : Passing) → ActualFits c s.stack a f x p → AllFit formals q
      → (u : ℕ) (y : VarDef) → contains u (f ∷ formals) ≡ true → c.tables.var_at u ≡ Some y → is_kind kind.Var y.kind ≡ true → IsBound c s.stack u (p.bindings ++ q.bindings)
  bound_by_both f x known formals p q one all u y among there var =
      elim (cases_Bool (nat_eq f u)) [
        | inl e ↦
            let same = eqb-true f u e in
            let is_x : y ≡ x = found_once _ y x there (ap c.tables.var_at (sym same) ∙ known) in
            let b = one.bound (ap (λ (z : VarDef). is_kind kind.Var z.kind) (sym is_x) ∙ var) in
            subst (λ z. IsBound c s.stack z (p.bindings ++ q.bindings)) same
            (record { place = b.place; known = bound_left f p.bindings q.bindings b.place b.known; exists = b.exists; typed = b.typed })
        | inr e ↦
            let b = all.bound u y (among_others f u formals e among) there var in
            record { place = b.place; known = one.others u e q.bindings ∙ b.known; exists = b.exists; typed = b.typed }
      ]

  passed_all : (actuals : List Actual) (formals : List ℕ) → ((f : ℕ) (x : VarDef) → contains f formals ≡ true → c.tables.var_at f ≡ Some x → x.routine ≡ a.frame.routine)
      → all_true (map (each_actual (scope_rule c.tables r)) actuals) ≡ true → are_passed_to c.tables (map (passed c.tables) actuals) formals ≡ true
      → (q : Passing) → pass c s actuals formals ≡ Ok q → AllFit formals q
  passed_all [] [] own scope types q h =
      subst (AllFit []) (same_Ok no_passing q h)
      (record {
        fits = record { changes = tt; bindings = All-nil (λ (b : Binding). Exists c s.stack b.place) };
        bound = λ u x among there var. absurd (true≢false (sym among));
      })
  passed_all [] (f ∷ formals) own scope types q h = absurd (true≢false (sym types))
  passed_all (d ∷ actuals) [] own scope types q h = absurd (true≢false (sym types))
  passed_all (d ∷ actuals) (f ∷ formals) own scope types q h =
      let y = then_ok (pass_to c s f (out-Actual d)) _ q h in
      let z = then_ok (pass c s actuals formals) _ q y.2 in
      let m = and_parts (each_actual (scope_rule c.tables r) d) _ scope in
      let n = and_parts (holds_of (is_passed_to c.tables (passed c.tables d)) (c.tables.var_at f)) _ types in
      let x = holds_found (is_passed_to c.tables (passed c.tables d)) (c.tables.var_at f) n.0 in
      let one =
      actual_fits f x.0 x.1 (own f x.0 (first_among f formals) x.1) (out-Actual d)
      (sym (each_actual_is (scope_rule c.tables r) d) ∙ m.0) (ap (λ k. is_passed_to c.tables k (x.0)) (sym (passed_is c.tables d)) ∙ x.2) y.0 y.1 in
      let rest = passed_all actuals formals (λ g u among. own g u (later_among f g formals among)) m.1 n.1 z.0 z.1 in
      subst (AllFit (f ∷ formals)) (same_Ok _ q z.2)
      (record {
        fits = record {
          changes = changes_joined c (a ∷ s.stack) (y.0).changes (z.0).changes one.fits.changes rest.fits.changes;
          bindings = All-append (λ (b : Binding). Exists c s.stack b.place) (y.0).bindings (z.0).bindings one.fits.bindings rest.fits.bindings;
        };
        bound = bound_by_both f x.0 x.1 formals y.0 z.0 one rest;
      })

-- ---- a call

pub push_is_stack : (c : Chart) (a : Activation) (stack : Stack) → IsStack c stack → IsCallee c a stack → IsStack c (a ∷ stack)
push_is_stack c a [] is x = absurd is
push_is_stack c a (b ∷ below) is x = (x, is)

-- the scopes and types of a call: the routine is declared in one that is around the caller's, and the actuals fit its formals
pub record CallFits (c : Chart) (r routine : ℕ) (actuals : List Actual) : Type 0 where
  pub head : Head
  pub outer : ℕ
  pub known : c.tables.head_at routine ≡ Some head
  pub declares : head.parent ≡ Some outer
  pub seen : is_around c.tables r outer ≡ true
  pub scope : all_true (map (each_actual (scope_rule c.tables r)) actuals) ≡ true
  pub types : are_passed_to c.tables (map (passed c.tables) actuals) head.formals ≡ true

callee_seen : (t : Tables) (r routine : ℕ) (slot : Option ℕ) → callee_passes (scope_rule t r) routine slot ≡ true → is_callable t r routine ≡ true
callee_seen t r routine None h = h
callee_seen t r routine (Some slot) h = (and_parts (is_callable t r routine) _ h).0

callee_takes : (t : Tables) (routine : ℕ) (actuals : List Passed) (slot : Option ℕ) → callee_fits t routine actuals slot ≡ true → (h : Head) × (t.head_at routine ≡ Some h) × (are_passed_to t actuals h.formals ≡ true)
callee_takes t routine actuals None h =
    let x = holds_found (procedure_fits t actuals) (t.head_at routine) h in
    (x.0, x.1, (and_parts (are_passed_to t actuals (x.0).formals) _ x.2).0)
callee_takes t routine actuals (Some slot) h =
    let x = holds_found (function_fits t actuals slot) (t.head_at routine) h in
    (x.0, x.1, (and_parts (are_passed_to t actuals (x.0).formals) _ x.2).0)

pub call_is_fit : (c : Chart) (r routine : ℕ) (actuals : List Actual) (slot : Option ℕ) (name : ℕ) → each_act (scope_rule c.tables r) (act.Call routine actuals slot name) ≡ true → act_types_fit c.tables (act.Call routine actuals slot name) ≡ true → CallFits c r routine actuals
call_is_fit c r routine actuals slot name scope types =
    let m = and_parts (callee_passes (scope_rule c.tables r) routine slot) _ scope in
    let h = callee_takes c.tables routine (map (passed c.tables) actuals) slot types in
    let g = holds_found (λ (h : Head). holds_of (λ p. is_around c.tables r p) h.parent) (c.tables.head_at routine) (callee_seen c.tables r routine slot m.0) in
    let o = holds_found (λ p. is_around c.tables r p) (g.0).parent g.2 in
    record {
      head = h.0;
      outer = o.0;
      known = h.1;
      declares = ap (λ (x : Head). x.parent) (found_once _ h.0 g.0 h.1 g.1) ∙ o.1;
      seen = o.2;
      scope = m.1;
      types = h.2;
    }

module _ (c : Chart) (w : IsWellFormed c) (s : State) (v : IsValid c s) (r p : ℕ) (here : IsOf s.stack (top_depth s.stack) r) where
  pub call_fits : (k : ℕ) (e : Edge) → slice_get c.edges k ≡ Some e → point_of s.stack ≡ e.from → (routine : ℕ) (actuals : List Actual) → callee_of e.act ≡ Some routine → CallFits c r routine actuals
      → routine_at c.points p ≡ Some routine → (f : Effect) → call c s k routine actuals ≡ Ok (Some f) → EffectFits c s p f
  call_fits k e known waits routine actuals callee x at f h =
      let y = then_ok (pass c s actuals (formals_of c s (c.tables.head_at routine))) _ (Some f) h in
      let frame = frame_of_call c s k routine (c.tables.head_at routine) (y.0).bindings in
      let a : Activation = record { frame = frame; point = p } in
      let all =
      passed_all c w s v r here a actuals x.head.formals
      (λ g d among there. w.tables.of_routine routine g x.head d x.known among there) x.scope x.types y.0
      (ap (λ o. pass c s actuals (formals_of c s o)) (sym x.known) ∙ y.1) in
      let found = around_seen c w.tables s.stack v.stack (top_depth s.stack) r x.outer here x.seen in
      subst (EffectFits c s p) (same_effect _ f y.2)
      (record {
        stack =
            push_is_stack c a s.stack v.stack
            (record {
              edge = k;
              site = e;
              head = x.head;
              outer = x.outer;
              depth = found.depth;
              made = refl;
              known = known;
              callee = callee;
              waits = waits;
              declared = x.known;
              declares = x.declares;
              parent =
                  ap (option_and_then (λ (g : Head). option_and_then (λ q. around s.stack (top_depth s.stack) q) g.parent)) x.known
                  ∙ ap (option_and_then (λ q. around s.stack (top_depth s.stack) q)) x.declares
                  ∙ found.found;
              found = found.found;
              within = found.is_of;
              bindings = all.fits.bindings;
              bound = λ u own. bound_of routine x.head x.known y.0 a all u own;
              stands = at;
            });
        frames = λ d below. frame_kept a s.stack d below;
        changes = all.fits.changes;
        items = v.items;
      })
    where
      -- each variable parameter of the routine is one of its formals
      bound_of : (routine : ℕ) (head : Head) → c.tables.head_at routine ≡ Some head → (q : Passing) (a : Activation) → AllFit c w s v r here a head.formals q → (u : ℕ) → is_own c.tables routine kind.Var u ≡ true → IsBound c s.stack u q.bindings
      bound_of routine head known q a all u own =
          let d = holds_found (λ (d : VarDef). nat_eq d.routine routine && is_kind kind.Var d.kind) (c.tables.var_at u) own in
          all.bound u d.0 (w.tables.formals routine u head known own) d.1 (and_parts (nat_eq (d.0).routine routine) _ d.2).1

  -- ---- a `goto`

  pub jump_fits : (routine : ℕ) → is_around c.tables r routine ≡ true → routine_at c.points p ≡ Some routine → (f : Effect) → jump c s routine ≡ Ok (Some f) → EffectFits c s p f
  jump_fits routine seen at f h =
      let x = around_seen c w.tables s.stack v.stack (top_depth s.stack) r routine here seen in
      let depth : unwrap_or (around s.stack (top_depth s.stack) routine) (top_depth s.stack) ≡ x.depth = ap (λ o. unwrap_or o (top_depth s.stack)) x.found in
      subst (EffectFits c s p) (ap (λ d. record { onward = at_depth d; changes = []; items = s.items; output = s.output }) (sym depth) ∙ same_effect _ f h)
      (lands c s v x.depth p routine x.is_of at [] tt s.items v.items s.output)

-- ---- a return

-- the call at the edge j made the latest activation of a stack; its caller is the one below
pub record IsCalled (c : Chart) (stack : Stack) (j : ℕ) : Type 0 where
  pub site : Edge
  pub callee : ℕ
  pub caller : ℕ
  pub known : slice_get c.edges j ≡ Some site
  pub calls : callee_of site.act ≡ Some callee
  pub latest : IsOf stack (top_depth stack) callee
  pub below : IsOf stack (top_depth stack - 1) caller
  pub waits : routine_at c.points site.from ≡ Some caller
  pub result : result_of c stack ≡ unwrap_or (option_and_then (λ (h : Head). h.result) (c.tables.head_at callee)) 0

one_below : (a b : Activation) (below : Stack) → top_depth (a ∷ b ∷ below) - 1 ≡ top_depth (b ∷ below)
one_below a b below = omega arith

pub called_found : (c : Chart) (stack : Stack) → IsStack c stack → (j : ℕ) → was_made_by j (top_call stack) ≡ true → IsCalled c stack j
called_found c [] is j h = absurd is
called_found c (a ∷ []) is j h = absurd (true≢false (sym h ∙ ap (was_made_by j) is.call))
called_found c (a ∷ b ∷ below) is j h =
    let edge : is.0.edge ≡ j = eqb-true is.0.edge j (ap (was_made_by j) (sym is.0.made) ∙ h) in
    let caller = standing_routine c (b ∷ below) is.1 in
    record {
      site = is.0.site;
      callee = a.frame.routine;
      caller = caller.0;
      known = ap (slice_get c.edges) (sym edge) ∙ is.0.known;
      calls = is.0.callee;
      latest = record { frame = a.frame; activation = frame_of_latest a (b ∷ below) (top_depth (a ∷ b ∷ below)) (top_is a (b ∷ below)); routine = refl };
      below = subst (λ d. IsOf (a ∷ b ∷ below) d (caller.0)) (sym (one_below a b below)) (is_of_above a (b ∷ below) (top_depth (b ∷ below)) caller.0 (latest_found c (b ∷ below) is.1 caller.0 caller.1));
      waits = ap (routine_at c.points) (sym is.0.waits) ∙ caller.1;
      result = refl;
    }

-- the slot of a function's call is a variable of the caller, of the type of the function's result
record SlotFits (t : Tables) (caller callee slot : ℕ) : Type 0 where
  variable : VarDef
  known : t.var_at slot ≡ Some variable
  own : variable.routine ≡ caller
  stored : is_kind kind.Var variable.kind ≡ false
  typed : type_of_variable t (unwrap_or (option_and_then (λ (h : Head). h.result) (t.head_at callee)) 0) ≡ type_of_variable t slot

slot_fits : (t : Tables) (a : Act) (caller callee slot : ℕ) → slot_of a ≡ Some slot → callee_of a ≡ Some callee → each_act (scope_rule t caller) a ≡ true → act_types_fit t a ≡ true → SlotFits t caller callee slot
slot_fits t (act.Call routine actuals None name) caller callee slot is calls scope types = absurd (none-some slot is)
slot_fits t (act.Call routine actuals (Some u) name) caller callee slot is calls scope types =
    let m = and_parts (is_callable t caller routine && is_own t caller kind.Slot u) _ scope in
    let own = (and_parts (is_callable t caller routine) _ m.0).1 in
    let x = holds_found (λ (d : VarDef). nat_eq d.routine caller && is_kind kind.Slot d.kind) (t.var_at u) own in
    let y = and_parts (nat_eq (x.0).routine caller) _ x.2 in
    let h = holds_found (function_fits t (map (passed t) actuals) u) (t.head_at routine) types in
    let result = holds_found (λ v. holds_of (λ (d : VarDef). holds_of (λ (s : VarDef). nat_eq s.of_type d.of_type) (t.var_at u)) (t.var_at v)) (h.0).result (and_parts (are_passed_to t (map (passed t) actuals) (h.0).formals) _ h.2).1 in
    let d = holds_found (λ (d : VarDef). holds_of (λ (s : VarDef). nat_eq s.of_type d.of_type) (t.var_at u)) (t.var_at (result.0)) result.2 in
    let z = holds_found (λ (s : VarDef). nat_eq s.of_type (d.0).of_type) (t.var_at u) d.2 in
    let same_slot = same_Some u slot is in
    let same_routine = same_Some routine callee calls in
    subst (λ n. SlotFits t caller callee n) same_slot
    (record {
      variable = x.0;
      known = x.1;
      own = eqb-true (x.0).routine caller y.0;
      stored = ap (is_kind kind.Var) (sym (same_kind kind.Slot (x.0).kind y.1));
      typed =
          ap (λ n. type_of_variable t (unwrap_or (option_and_then (λ (h : Head). h.result) (t.head_at n)) 0)) (sym same_routine)
          ∙ ap (λ o. type_of_variable t (unwrap_or (option_and_then (λ (h : Head). h.result) o) 0)) h.1
          ∙ ap (λ o. type_of_variable t (unwrap_or o 0)) result.1
          ∙ ap t.type_at (var_type_is t result.0 d.0 d.1 ∙ sym (eqb-true (z.0).of_type (d.0).of_type z.2) ∙ sym (var_type_is t u z.0 z.1));
    })
slot_fits t _ caller callee slot is calls scope types = absurd (none-some slot is)

result_found : (place : ℕ) (o : Option ℤ) (z : ℤ) → result_value place o ≡ Ok z → o ≡ Some z
result_found place (Some y) z h = ap (λ (q : ℤ). Some q) (same_Ok y z h)
result_found place None z h = absurd (no_error _ z h)

module _ (c : Chart) (w : IsWellFormed c) (s : State) (v : IsValid c s) (p j : ℕ) (x : IsCalled c s.stack j) (at : routine_at c.points p ≡ Some x.caller) where
  -- the number that the result holds is one for the slot
  slot_changes : (slot : ℕ) (z : ℤ) → SlotFits c.tables x.caller x.callee slot → s.store (whole (top_depth s.stack) (result_of c s.stack)) ≡ Some z → ChangesFit c (down_to s.stack (top_depth s.stack - 1) p) (sets (whole (top_depth s.stack - 1) slot) (Some z) ∷ [])
  slot_changes slot z y held =
      let lower = top_depth s.stack - 1 in
      let there = whole_denotes c w.tables s.stack lower slot y.variable y.known (record { frame = x.below.frame; activation = x.below.activation; routine = x.below.routine ∙ sym y.own }) y.stored in
      let from = v.stored (whole (top_depth s.stack) (result_of c s.stack)) z held in
      let fits : is_value_of (type_of_variable c.tables slot) z ≡ true = ap (λ o. is_value_of o z) (sym y.typed) ∙ ap (λ n. is_value_of (type_of_variable c.tables n) z) (sym x.result) ∙ from.fits in (
        stored_moved c s.stack (down_to s.stack lower p) (whole lower slot) z
            (down_frames s.stack lower p lower (frame_below s.stack lower x.below.frame x.below.activation) (lt_suc lower))
            (stored_at c s.stack (whole lower slot) _ z there fits),
        tt,
      )
    where
      lt_suc : (n : ℕ) → n < suc n
      lt_suc n = omega arith

  give_back_fits : (place : ℕ) (o : Option ℕ) → slot_of x.site.act ≡ o → each_act (scope_rule c.tables x.caller) x.site.act ≡ true → act_types_fit c.tables x.site.act ≡ true → (f : Effect) → give_back c s place o ≡ Ok (Some f) → EffectFits c s p f
  give_back_fits place None is scope types f h =
      subst (EffectFits c s p) (same_effect _ f h) (lands c s v (top_depth s.stack - 1) p x.caller x.below at [] tt s.items v.items s.output)
  give_back_fits place (Some slot) is scope types f h =
      let y = then_ok (result_value place (s.store (whole (top_depth s.stack) (result_of c s.stack)))) _ (Some f) h in
      let held = result_found place (s.store (whole (top_depth s.stack) (result_of c s.stack))) y.0 y.1 in
      let fits = slot_fits c.tables x.site.act x.caller x.callee slot is x.calls scope types in
      subst (EffectFits c s p) (same_effect _ f y.2)
      (lands c s v (top_depth s.stack - 1) p x.caller x.below at (sets (whole (top_depth s.stack - 1) slot) (Some (y.0)) ∷ []) (slot_changes slot y.0 fits held) s.items v.items s.output)

-- the edge after a call's is its return, which leads to a point of the caller
pub return_fits : (c : Chart) → IsWellFormed c → (s : State) → IsValid c s → (j : ℕ) (e : Edge) → slice_get c.edges (suc j) ≡ Some e → (place : ℕ) (f : Effect) → return_from c s j place ≡ Ok (Some f) → EffectFits c s e.to f
return_fits c w s v j e known place f h =
    let y = if_done (was_made_by j (top_call s.stack)) (give_back c s place (slot_at c.edges j)) f h in
    let x = called_found c s.stack v.stack j y.0 in
    let slot : slot_at c.edges j ≡ slot_of x.site.act = ap (option_and_then (λ (g : Edge). slot_of g.act)) x.known in
    give_back_fits c w s v e.to j x (w.calls.resumed j x.callee x.site e x.known known x.calls ∙ x.waits) place (slot_of x.site.act) refl
    (w.scopes j x.caller x.site x.known x.waits) (w.types j x.site x.known) f (ap (give_back c s place) (sym slot) ∙ y.1)
