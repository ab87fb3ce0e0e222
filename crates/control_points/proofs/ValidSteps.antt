-- A run begins in a valid state, and each step leads from a valid state to a valid state.
use Rattle.std.proofs.Common.{◌≡◌, ℕ, zero, suc, ◌+◌, Bool, true, cond, ◌&&◌, List, [], ◌∷◌, ℤ, All, refl, sym, ap, subst, ◌∙◌, inl, inr, Ok, Err, Option, Some, None, slice_get, nat_eq, eqb-true, arith, add-zero, zero-add}
use Rattle.std.proofs.lemmas.Bool.{and_parts, cases_Bool, cond-true, cond-false}
use Rattle.std.proofs.lemmas.List.Elements.{All-nil, All-cons, All-head, All-tail}
use Rattle.std.proofs.lemmas.Option.{none-some, same_Some}
use Rattle.pas_program.specs.declared.expr.Access.{Access}
use Rattle.pas_program.specs.declared.expr.Expr.{Expr}
use Rattle.pas_program.specs.Each.{each_access, each_expr}
use Rattle.pas_program.specs.Scopes.{scope_rule}
use Rattle.pas_program.specs.Tables.{is_visible}
use Rattle.pas_program.specs.Typed.{Hosted, hosted, reached, loop_fits}
use Rattle.pas_program.specs.Types.{in_host}
use Rattle.control_points.specs.declared.edge.Act.{Act}
use Rattle.control_points.specs.declared.edge.Act.TheVariants as act
use Rattle.control_points.specs.declared.edge.Edge.{Edge}
use Rattle.control_points.specs.declared.fault.Fault.{Fault}
use Rattle.control_points.specs.declared.item.Item.{Item}
use Rattle.control_points.specs.Actions.{Effect, Outcome, top_depth, view, effect_of}
use Rattle.control_points.specs.Acts.{each_act, act_types_fit, turn_fits}
use Rattle.control_points.specs.Chart.{Chart, numbers_from, leaving, place_of_point}
use Rattle.control_points.specs.Evaluation.{Answer, Spot, value, spot}
use Rattle.control_points.specs.Fits.{callee_of, routine_at}
use Rattle.control_points.specs.Leading.{goes_on_after}
use Rattle.control_points.specs.Matching.{IsStep}
use Rattle.control_points.specs.Runs.{start, at, moved, step_from, IsInput}
use Rattle.control_points.specs.States.{State}
use Rattle.control_points.specs.Steps.{Progress, moves, halts, fails, after, point_of, is_halted, edge_effect, target_of, or_else, first_done, selector_of, progress, next}
use Rattle.control_points.specs.ValidStates.{Denotes, IsOf, IsValid, type_of_variable}
use Rattle.control_points.specs.WellFormed.{IsWellFormed}
use Rattle.control_points.proofs.ValidActions.{loop_type, skip_fits, assign_fits, copy_is_fit, test_fits, arm_fits, enter_fits, bypass_fits, next_turn_fits, finish_fits, read_fits, drop_line_fits, write_fits, puts_fit}
use Rattle.control_points.proofs.ValidBasics.{no_error, same_Ok}
use Rattle.control_points.proofs.ValidCalls.{call_is_fit, call_fits, jump_fits, return_fits}
use Rattle.control_points.proofs.ValidEffects.{EffectFits, after_is_valid}
use Rattle.control_points.proofs.ValidPlaces.{variable_denotes, spot_denotes, access_typed}
use Rattle.control_points.proofs.ValidStacks.{latest_found, standing_routine}
use Rattle.control_points.proofs.ValidStores.{empty_fits}
use Rattle.control_points.proofs.ValidValues.{expr_in_host}

-- ---- the action of an edge

loop_same : (c : Chart) (control bound : ℕ) (first last : Hosted) → loop_fits c.tables control bound first last ≡ true → type_of_variable c.tables bound ≡ type_of_variable c.tables control
loop_same c control bound first last h = loop_type c.tables control bound (and_parts _ _ (and_parts (first.fits && last.fits) _ h).1).1

turn_same : (c : Chart) (control bound : ℕ) → turn_fits c.tables control bound ≡ true → type_of_variable c.tables bound ≡ type_of_variable c.tables control
turn_same c control bound h = loop_type c.tables control bound (and_parts _ _ h).1

-- The edge k leaves the point of the state, where an activation of routine r stands.
module _ (c : Chart) (w : IsWellFormed c) (s : State) (v : IsValid c s) (r : ℕ) (here : IsOf s.stack (top_depth s.stack) r) (k : ℕ) (e : Edge) (known : slice_get c.edges k ≡ Some e) (from : e.from ≡ point_of s.stack) (stands : routine_at c.points e.from ≡ Some r) where
  scope_of : (a : Act) → e.act ≡ a → each_act (scope_rule c.tables r) a ≡ true
  scope_of a is = ap (each_act (scope_rule c.tables r)) (sym is) ∙ w.scopes k r e known stands

  types_of : (a : Act) → e.act ≡ a → act_types_fit c.tables a ≡ true
  types_of a is = ap (act_types_fit c.tables) (sym is) ∙ w.types k e known

  goes_of : (a : Act) → e.act ≡ a → goes_on_after a ≡ true → routine_at c.points e.to ≡ Some r
  goes_of a is h = w.leads.inside k e known (ap goes_on_after is ∙ h) ∙ stands

  act_fits : (a : Act) → e.act ≡ a → (place : ℕ) (f : Effect) → effect_of c s k place a ≡ Ok (Some f) → EffectFits c s e.to f
  act_fits act.Skip is place f h = skip_fits c w s v r e.to here (goes_of act.Skip is refl) f h
  act_fits (act.Assign target value) is place f h = assign_fits c w s v r e.to here (goes_of (act.Assign target value) is refl) target value (scope_of (act.Assign target value) is) (types_of (act.Assign target value) is) f h
  act_fits (act.Copy target source) is place f h = copy_is_fit c w s v r e.to here (goes_of (act.Copy target source) is refl) target source (scope_of (act.Copy target source) is) (types_of (act.Copy target source) is) f h
  act_fits (act.Call routine actuals slot name) is place f h =
      call_fits c w s v r e.to here k e known (sym from) routine actuals (ap callee_of is) (call_is_fit c r routine actuals slot name (scope_of (act.Call routine actuals slot name) is) (types_of (act.Call routine actuals slot name) is)) (w.calls.entered k routine e known (ap callee_of is)) f h
  act_fits (act.Return j) is place f h = return_fits c w s v j e (subst (λ n. slice_get c.edges n ≡ Some e) (w.calls.called k j e known is) known) place f h
  act_fits (act.Goto routine) is place f h = jump_fits c w s v r e.to here routine (scope_of (act.Goto routine) is) (w.leads.outside k routine e known is) f h
  act_fits (act.Test cond wanted) is place f h = test_fits c w s v r e.to here (goes_of (act.Test cond wanted) is refl) cond wanted f h
  act_fits (act.Arm selector constants) is place f h = arm_fits c w s v r e.to here (goes_of (act.Arm selector constants) is refl) selector constants f h
  act_fits (act.Enter control bound first down last) is place f h =
      let a : Act = act.Enter control bound first down last in
      enter_fits c w s v r e.to here (goes_of a is refl) control bound first down last (and_parts _ _ (scope_of a is)).0 (loop_same c control bound (hosted c.tables first) (hosted c.tables last) (types_of a is)) f h
  act_fits (act.Bypass control bound first down last) is place f h = bypass_fits c w s v r e.to here (goes_of (act.Bypass control bound first down last) is refl) control first down last f h
  act_fits (act.Next control bound down) is place f h =
      let a : Act = act.Next control bound down in
      next_turn_fits c w s v r e.to here (goes_of a is refl) control bound down place (scope_of a is) (turn_same c control bound (types_of a is)) f h
  act_fits (act.Finish control bound down) is place f h = finish_fits c w s v r e.to here (goes_of (act.Finish control bound down) is refl) control bound down place f h
  act_fits (act.Read target) is place f h = read_fits c w s v r e.to here (goes_of (act.Read target) is refl) target (scope_of (act.Read target) is) (types_of (act.Read target) is) f h
  act_fits act.DropLine is place f h = drop_line_fits c w s v r e.to here (goes_of act.DropLine is refl) f h
  act_fits (act.Write item) is place f h = write_fits c w s v r e.to here (goes_of (act.Write item) is refl) item f h
  act_fits act.EndLine is place f h = puts_fit c w s v r e.to here (goes_of act.EndLine is refl) _ f h

  pub edge_leads_on : (f : Effect) → effect_of c s k (place_of_point c.points e.from) e.act ≡ Ok (Some f) → IsValid c (after s e.to f)
  edge_leads_on f h = after_is_valid c s e.to f v (act_fits e.act refl (place_of_point c.points e.from) f h)

-- ---- the edges that leave a point

-- k is the number of an item of the list, of which the first has the number n, and the item passes a test
pub record IsNumbered {A : Type 0} (xs : List A) (test : A → Bool) (n k : ℕ) : Type 0 where
  pub index : ℕ
  pub item : A
  pub number : n + index ≡ k
  pub known : slice_get xs index ≡ Some item
  pub passes : test item ≡ true

later_number : {A : Type 0} (x : A) (xs : List A) (test : A → Bool) (n k : ℕ) → IsNumbered xs test (suc n) k → IsNumbered (x ∷ xs) test n k
later_number x xs test n k h = record { index = suc h.index; item = h.item; number = omega (arith, h.number); known = h.known; passes = h.passes }

later_numbers : {A : Type 0} (x : A) (xs : List A) (test : A → Bool) (n : ℕ) (ks : List ℕ) → All (IsNumbered xs test (suc n)) ks → All (IsNumbered (x ∷ xs) test n) ks
later_numbers x xs test n [] h = All-nil (IsNumbered (x ∷ xs) test n)
later_numbers x xs test n (k ∷ ks) h =
    All-cons (IsNumbered (x ∷ xs) test n) k ks (later_number x xs test n k (All-head (IsNumbered xs test (suc n)) k ks h))
    (later_numbers x xs test n ks (All-tail (IsNumbered xs test (suc n)) k ks h))

pub numbers_found : {A : Type 0} (xs : List A) (test : A → Bool) (n : ℕ) → All (IsNumbered xs test n) (numbers_from n test xs)
numbers_found [] test n = All-nil (IsNumbered [] test n)
numbers_found (x ∷ xs) test n =
    let rest = later_numbers x xs test n (numbers_from (suc n) test xs) (numbers_found xs test (suc n)) in
    elim (cases_Bool (test x)) [
      | inl e ↦
          subst (All (IsNumbered (x ∷ xs) test n)) (sym (cond-true (test x) (n ∷ numbers_from (suc n) test xs) (numbers_from (suc n) test xs) e))
          (All-cons (IsNumbered (x ∷ xs) test n) n (numbers_from (suc n) test xs) (record { index = 0; item = x; number = add-zero n; known = refl; passes = e }) rest)
      | inr e ↦ subst (All (IsNumbered (x ∷ xs) test n)) (sym (cond-false (test x) (n ∷ numbers_from (suc n) test xs) (numbers_from (suc n) test xs) e)) rest
    ]

-- ---- a step

module _ (c : Chart) (s : State) where
  abbrev Leaves : ℕ → Type 0
  Leaves = IsNumbered c.edges (λ (e : Edge). nat_eq e.from (point_of s.stack)) 0

  -- the first edge of some that leave the point, or one of the others
  first_or_others : (k : ℕ) → Leaves k → (t : State) (o : Outcome) (others : Answer (Option State)) → edge_effect c s k (slice_get c.edges k) ≡ o → (others ≡ Ok (Some t) → IsStep c s t) → or_else c s k o others ≡ Ok (Some t) → IsStep c s t
  first_or_others k x t (Ok (Some f)) others is rest h =
      let known : slice_get c.edges k ≡ Some x.item = ap (slice_get c.edges) (sym x.number ∙ zero-add x.index) ∙ x.known in
      record {
        number = k;
        edge = x.item;
        effect = f;
        known = known;
        leaves = eqb-true (x.item).from (point_of s.stack) x.passes;
        done = ap (edge_effect c s k) (sym known) ∙ is;
        leads = sym (same_Some _ t (same_Ok _ _ h)) ∙ ap (λ p. after s p f) (ap target_of known);
      }
  first_or_others k x t (Ok None) others is rest h = rest h
  first_or_others k x t (Err f) others is rest h = absurd (no_error f (Some t) h)

  first_found : (ks : List ℕ) → All Leaves ks → (t : State) → first_done c s ks ≡ Ok (Some t) → IsStep c s t
  first_found [] all t h = absurd (none-some t (same_Ok _ _ h))
  first_found (k ∷ ks) all t h =
      first_or_others k (All-head Leaves k ks all) t (edge_effect c s k (slice_get c.edges k)) (first_done c s ks) refl (first_found ks (All-tail Leaves k ks all) t) h

  same_state : (t u : State) → moves t ≡ moves u → t ≡ u
  same_state t u h = cc

  not_halts : (t : State) → halts ≡ moves t → ⊥
  not_halts t h = cc

  not_fails : (f : Fault) (t : State) → fails f ≡ moves t → ⊥
  not_fails f t h = cc

  progress_moves : (selector : ℕ) (o : Answer (Option State)) (t : State) → progress selector o ≡ moves t → o ≡ Ok (Some t)
  progress_moves selector (Ok (Some u)) t h = ap (λ (x : State). Ok (Some x)) (same_state u t h)
  progress_moves selector (Ok None) t h = absurd (not_fails _ t h)
  progress_moves selector (Err f) t h = absurd (not_fails f t h)

  pub step_found : (t : State) → next c s ≡ moves t → IsStep c s t
  step_found t h =
      let ks = leaving c.edges (point_of s.stack) in
      let goes = progress (selector_of c ks) (first_done c s ks) in
      elim (cases_Bool (is_halted c s.stack)) [
        | inl e ↦ absurd (not_halts t (sym (cond-true (is_halted c s.stack) halts goes e) ∙ h))
        | inr e ↦
            first_found ks (numbers_found c.edges (λ (e : Edge). nat_eq e.from (point_of s.stack)) 0) t
            (progress_moves (selector_of c ks) (first_done c s ks) t (sym (cond-false (is_halted c s.stack) halts goes e) ∙ h))
      ]

pub step_is_valid : (c : Chart) → IsWellFormed c → (s : State) → IsValid c s → (t : State) → next c s ≡ moves t → IsValid c t
step_is_valid c w s v t h =
    let x = step_found c s t h in
    let r = standing_routine c s.stack v.stack in
    subst (IsValid c) (sym x.leads)
    (edge_leads_on c w s v r.0 (latest_found c s.stack v.stack r.0 r.1) x.number x.edge x.known x.leaves (ap (routine_at c.points) x.leaves ∙ r.1) x.effect x.done)

-- ---- runs

pub start_is_valid : (c : Chart) (items : List Item) → IsWellFormed c → IsInput items → IsValid c (start c items)
start_is_valid c items w input = record {
  stack = record { routine = refl; call = refl; parent = refl; bindings = refl; stands = w.entry };
  stored = empty_fits c (start c items).stack;
  items = input;
}

pub moved_is : (p : Progress) (t : State) → moved p ≡ Some t → p ≡ moves t
moved_is (moves s) t h = ap moves (same_Some s t h)
moved_is halts t h = absurd (none-some t h)
moved_is (fails f) t h = absurd (none-some t h)

step_from_valid : (c : Chart) → IsWellFormed c → (o : Option State) → ((s : State) → o ≡ Some s → IsValid c s) → (t : State) → step_from c o ≡ Some t → IsValid c t
step_from_valid c w None valid t h = absurd (none-some t h)
step_from_valid c w (Some s) valid t h = step_is_valid c w s (valid s refl) t (moved_is (next c s) t h)

pub run_is_valid : (c : Chart) (items : List Item) (i : ℕ) (s : State) → IsWellFormed c → IsInput items → at c items i ≡ Some s → IsValid c s
run_is_valid c items zero s w input h = subst (IsValid c) (same_Some _ s h) (start_is_valid c items w input)
run_is_valid c items (suc i) s w input h = step_from_valid c w (at c items i) (λ t is. run_is_valid c items i t w input is) s h

-- ---- what is evaluated in a valid state

pub variable_exists : (c : Chart) (s : State) (r v : ℕ) → IsWellFormed c → IsValid c s → routine_at c.points (point_of s.stack) ≡ Some r → is_visible c.tables r v ≡ true → Denotes c s.stack ((view c s).place v) (type_of_variable c.tables v)
variable_exists c s r v w x stands seen = variable_denotes c w.tables s x.stack r (latest_found c s.stack x.stack r stands) v seen

pub spot_exists : (c : Chart) (s : State) (r : ℕ) (a : Access) (p : Spot) → IsWellFormed c → IsValid c s → routine_at c.points (point_of s.stack) ≡ Some r → each_access (scope_rule c.tables r) a ≡ true → (reached c.tables a).fits ≡ true → spot (view c s) a ≡ Ok p → Denotes c s.stack p.place (c.tables.type_at (reached c.tables a).of_type)
spot_exists c s r a p w v stands scope types h =
    let d = access_typed c.tables c.main w.tables a types in
    spot_denotes c w.tables s v.stack r (latest_found c s.stack v.stack r stands) a p d.0 scope types d.1 h

pub value_lies_in_host : (c : Chart) (s : State) (r : ℕ) (e : Expr) (z : ℤ) → IsWellFormed c → IsValid c s → routine_at c.points (point_of s.stack) ≡ Some r → each_expr (scope_rule c.tables r) e ≡ true → (hosted c.tables e).fits ≡ true → value (view c s) e ≡ Ok z → in_host (hosted c.tables e).boolean z ≡ true
value_lies_in_host c s r e z w v stands scope types h = expr_in_host c w.tables s v r (latest_found c s.stack v.stack r stands) e scope types z h
