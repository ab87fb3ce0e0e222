-- In a valid state an error of a step is that of a judgement of the point, or one without a check.
use Rattle.std.proofs.Common.{◌≡◌, ℕ, ◌<◌, ◌⊎◌, Bool, true, false, cond, ◌&&◌, List, [], ◌∷◌, ◌++◌, ℤ, int_eq, T, All, Contains, map, length, refl, sym, ap, subst, ◌∙◌, inl, inr, Ok, Err, Option, Some, None, option_and_then, option_map, slice_get, nat_eq, eqb-true, arith, zero-add}
use Rattle.std.proofs.lemmas.Bool.{and_parts, and_from, cases_Bool, cond-true, cond-false, true≢false}
use Rattle.std.proofs.lemmas.List.Elements.{All-head, All-tail, Contains-append_left, Contains-append_right}
use Rattle.std.proofs.lemmas.Option.{none-some, same_Some}
use Rattle.arithmetic.specs.Numbers.{truth, IsNumber}
use Rattle.px_base.specs.declared.kind.Kind.TheVariants as kinds
use Rattle.pas_program.specs.declared.expr.Access.{Access}
use Rattle.pas_program.specs.declared.expr.Actual.{Actual}
use Rattle.pas_program.specs.declared.expr.Actual.TheOpen.{Actual-F}
use Rattle.pas_program.specs.declared.expr.Actual.TheViews.{out-Access, out-Actual, out-Expr}
use Rattle.pas_program.specs.declared.expr.Expr.{Expr}
use Rattle.pas_program.specs.declared.expr.ExprForm.{ExprForm}
use Rattle.pas_program.specs.declared.statement.WriteItem.{WriteItem}
use Rattle.pas_program.specs.declared.statement.WriteValue.{WriteValue}
use Rattle.pas_program.specs.declared.statement.WriteValue.TheVariants as written
use Rattle.pas_program.specs.declared.type_def.TypeDef.{TypeDef}
use Rattle.pas_program.specs.declared.type_def.TypeDef.TheVariants.{Scalar, Array}
use Rattle.pas_program.specs.declared.variable.VarDef.{VarDef}
use Rattle.pas_program.specs.declared.variable.VarKind.TheVariants as kind
use Rattle.pas_program.specs.Each.{all_true, true_if_some, each_access, each_actual, each_expr, each_item, each_written}
use Rattle.pas_program.specs.Scopes.{scope_rule}
use Rattle.pas_program.specs.Tables.{Tables, holds_of, is_kind, is_own, is_visible}
use Rattle.pas_program.specs.Typed.{Reached, hosted, reached, passed, subscripted, element_of, access_from, is_passed_to, are_passed_to, is_of_host, is_target, copy_fits, written_fits, item_fits, loop_fits, type_of_var}
use Rattle.pas_program.specs.Types.{in_host, has_host}
use Rattle.control_points.specs.declared.edge.Act.{Act}
use Rattle.control_points.specs.declared.edge.Act.TheVariants as act
use Rattle.control_points.specs.declared.edge.Edge.{Edge}
use Rattle.control_points.specs.declared.fault.Fault.{Fault}
use Rattle.control_points.specs.declared.item.Item.{Item}
use Rattle.control_points.specs.declared.item.Item.TheVariants.{Number, LineEnd, Junk}
use Rattle.control_points.specs.Actions as Actions
use Rattle.control_points.specs.Actions.{Effect, Outcome, Passing, top_depth, top_call, was_made_by, slot_at, slot_of, result_of, result_value, fits_type, view, does, assign, copy, pass_to, pass, call, give_back, return_from, test, arm, is_one_of, in_order, comes_before, range_of, enter, bypass, next_turn, finish, with_taken, read, written_value, write_in, write, effect_of}
use Rattle.control_points.specs.Acts.{each_act, act_types_fit}
use Rattle.control_points.specs.Chart.{Chart, leaving, place_of_point}
use Rattle.control_points.specs.Checking.{Faults, one, one_if, is_narrow, expr_checks, access_checks, assigned_checks, actual_checks, passing_checks, formals_of, read_checks, written_checks, width_checks, item_checks, bounds_checks}
use Rattle.control_points.specs.Evaluation.{Answer, View, Spot, checked, defined, is_value_of, element_type, var_type, part_type, access_type, value, spot, assigned}
use Rattle.control_points.specs.Fits.{routine_at}
use Rattle.control_points.specs.Foreseen.{IsForeseen, act_checks, unchecked, returned_checks, expr_slots, access_slots, actual_slots, actuals_slots, written_slots, width_slots}
use Rattle.control_points.specs.Input.{Taken, next_number}
use Rattle.control_points.specs.Judgements.{faults_of, own_judgements}
use Rattle.control_points.specs.Leading.{is_arm, is_return}
use Rattle.control_points.specs.Output.{Written, is_width}
use Rattle.control_points.specs.Runs.{IsInput, IsInputItem}
use Rattle.control_points.specs.States.{State}
use Rattle.control_points.specs.Steps.{moves, halts, fails, point_of, is_halted, arm_place, edge_effect, or_else, selector_place, selector_of, first_done, progress, next}
use Rattle.control_points.specs.Storage.{whole}
use Rattle.control_points.specs.ValidStates.{IsOf, IsValid}
use Rattle.control_points.specs.WellFormed.{IsWellFormed}
use Rattle.control_points.proofs.ValidBasics.{same_Ok, then_ok, holds_found}
use Rattle.control_points.proofs.ValidCalls.{CallFits, IsCalled, call_is_fit, called_found, each_actual_is, passed_is, ruled_step, typed_step}
use Rattle.control_points.proofs.ValidChoices.{no_action_is_case}
use Rattle.control_points.proofs.ValidErrors.{Seen, same_Err, no_value, then_error, checked_error, defined_error, listed_one, listed_if, seen_left, seen_right, seen_first, narrow_from, expr_error, access_error}
use Rattle.control_points.proofs.ValidJudged.{edge_listed, exit_listed, judged_error}
use Rattle.control_points.proofs.ValidPlaces.{from_variable, reached_is, spot_is, var_type_is}
use Rattle.control_points.proofs.ValidStacks.{latest_found, standing_routine}
use Rattle.control_points.proofs.ValidSteps.{IsNumbered, numbers_found}
use Rattle.control_points.proofs.ValidValues.{expr_in_host, variable_type}

-- ---- types

-- the type that subscripts lead to, in two ways
part_element : (t : Tables) (e : Expr) (subscripts : List Expr) (o : Option TypeDef)
    → ((n : ℕ) → (subscripted t n (map (hosted t) subscripts)).fits ≡ true → (subscripted t n (map (hosted t) subscripts)).of_type ≡ part_type t n subscripts)
    → (element_of t (hosted t e) (λ n. subscripted t n (map (hosted t) subscripts)) o).fits ≡ true → (element_of t (hosted t e) (λ n. subscripted t n (map (hosted t) subscripts)) o).of_type ≡ part_type t (element_type o) subscripts
part_element t e subscripts None rest h = absurd (true≢false (sym h))
part_element t e subscripts (Some (Scalar boolean lo hi)) rest h = absurd (true≢false (sym h))
part_element t e subscripts (Some (Array index element)) rest h = rest element (and_parts _ (subscripted t element (map (hosted t) subscripts)).fits h).1

part_same : (t : Tables) (subscripts : List Expr) (n : ℕ) → (subscripted t n (map (hosted t) subscripts)).fits ≡ true → (subscripted t n (map (hosted t) subscripts)).of_type ≡ part_type t n subscripts
part_same t [] n h = refl
part_same t (e ∷ subscripts) n h = part_element t e subscripts (t.type_at n) (part_same t subscripts) h

type_same : (t : Tables) (a : Access) → (reached t a).fits ≡ true → (reached t a).of_type ≡ access_type t a
type_same t a h =
    let x = out-Access a in
    let way = from_variable t (map (hosted t) x.subscripts) (t.var_at x.var) (ap (λ (y : Reached). y.fits) (sym (reached_is t a)) ∙ h) in
    ap (λ (y : Reached). y.of_type) (reached_is t a ∙ ap (access_from t (map (hosted t) x.subscripts)) way.1)
    ∙ part_same t x.subscripts (way.0).of_type way.2
    ∙ ap (λ n. part_type t n x.subscripts) (sym (var_type_is t x.var way.0 way.1))

spot_place : (v : View) (a : Access) (p : Spot) → spot v a ≡ Ok p → (out-Access a).at ≡ p.at
spot_place v a p h =
    let x = then_ok _ (λ zs. Ok (record { place = _; at = (out-Access a).at })) p (sym (spot_is v a) ∙ h) in
    ap (λ (q : Spot). q.at) (same_Ok _ p x.2)

-- ---- input

taken_is_number : (items : List Item) → IsInput items → (x : Taken) → next_number items ≡ Some x → IsNumber x.number
taken_is_number [] h x e = absurd (none-some x e)
taken_is_number (LineEnd ∷ items) h x e = taken_is_number items (All-tail IsInputItem LineEnd items h) x e
taken_is_number (Number z ∷ items) h x e = subst IsNumber (ap (λ (y : Taken). y.number) (same_Some _ x e)) (All-head IsInputItem (Number z) items h)
taken_is_number (Junk ∷ items) h x e = absurd (none-some x e)

truth_of : (b : Bool) → T b → b ≡ true
truth_of true h = refl
truth_of false h = absurd h

number_in_host : (z : ℤ) → IsNumber z → in_host false z ≡ true
number_in_host z h = and_from _ _ (truth_of _ h.0.le) (truth_of _ h.1.le)

-- ---- answers that are no error

choice_error : (b : Bool) (e : Effect) (f : Fault) → ◌≡◌ {A = Outcome} (cond b (Ok (Some e)) (Ok None)) (Err f) → ⊥
choice_error true e f h = no_value _ f h
choice_error false e f h = no_value _ f h

other_choice_error : (b : Bool) (e : Effect) (f : Fault) → ◌≡◌ {A = Outcome} (cond b (Ok None) (Ok (Some e))) (Err f) → ⊥
other_choice_error true e f h = no_value _ f h
other_choice_error false e f h = no_value _ f h

if_error : (b : Bool) (x : Outcome) (f : Fault) → cond b x (Ok None) ≡ Err f → x ≡ Err f
if_error true x f h = h
if_error false x f h = absurd (no_value _ f h)

error_if_done : (b : Bool) (x : Outcome) (f : Fault) → cond b x (Ok None) ≡ Err f → (b ≡ true) × (x ≡ Err f)
error_if_done true x f h = (refl, h)
error_if_done false x f h = absurd (no_value _ f h)

-- ---- the actions of the latest activation, which is one of routine r

module _ (c : Chart) (w : IsWellFormed c) (s : State) (v : IsValid c s) (r : ℕ) (here : IsOf s.stack (top_depth s.stack) r) where
  expr_seen : (e : Expr) → each_expr (scope_rule c.tables r) e ≡ true → (hosted c.tables e).fits ≡ true → (f : Fault) → value (view c s) e ≡ Err f → Seen (expr_checks c.tables e) (expr_slots e) f
  expr_seen = expr_error c w.tables s v r here

  access_seen : (a : Access) → each_access (scope_rule c.tables r) a ≡ true → (reached c.tables a).fits ≡ true → (f : Fault) → spot (view c s) a ≡ Err f → Seen (access_checks c.tables a) (access_slots a) f
  access_seen = access_error c w.tables s v r here

  -- a value that is out of range of its target
  range_listed : (e : Expr) (n : ℕ) (z : ℤ) → each_expr (scope_rule c.tables r) e ≡ true → (hosted c.tables e).fits ≡ true → has_host (hosted c.tables e).boolean (c.tables.type_at n) ≡ true → value (view c s) e ≡ Ok z
      → (f : Fault) → checked (is_value_of (c.tables.type_at n) z) kinds.ValueOutOfRange (out-Expr e).first z ≡ Err f → Contains (one_if (is_narrow (c.tables.type_at n)) kinds.ValueOutOfRange (out-Expr e).first) f
  range_listed e n z scope types host known f h =
      let out = checked_error (is_value_of (c.tables.type_at n) z) kinds.ValueOutOfRange (out-Expr e).first z f h in
      listed_if (is_narrow (c.tables.type_at n)) kinds.ValueOutOfRange (out-Expr e).first f
      (narrow_from (c.tables.type_at n) (hosted c.tables e).boolean z host (expr_in_host c w.tables s v r here e scope types z known) out.0) out.1

  assigned_seen : (e : Expr) (n : ℕ) → each_expr (scope_rule c.tables r) e ≡ true → (hosted c.tables e).fits ≡ true → has_host (hosted c.tables e).boolean (c.tables.type_at n) ≡ true
      → (f : Fault) → assigned (view c s) n e ≡ Err f → Seen (assigned_checks c.tables n e) (expr_slots e) f
  assigned_seen e n scope types host f h =
      let own = expr_checks c.tables e in
      let ranged = one_if (is_narrow (c.tables.type_at n)) kinds.ValueOutOfRange (out-Expr e).first in
      elim (then_error (value (view c s) e) _ f h) [
        | inl g ↦ seen_first own ranged (expr_slots e) f (expr_seen e scope types f g)
        | inr x ↦ inl (Contains-append_right own ranged f (range_listed e n x.0 scope types host x.1 f x.2))
      ]

  assign_seen : (target : Access) (e : Expr) → (each_access (scope_rule c.tables r) target && each_expr (scope_rule c.tables r) e) ≡ true
      → ((hosted c.tables e).fits && is_target c.tables (hosted c.tables e).boolean (reached c.tables target)) ≡ true
      → (f : Fault) → assign c s target e ≡ Err f → Seen (access_checks c.tables target ++ assigned_checks c.tables (access_type c.tables target) e) (access_slots target ++ expr_slots e) f
  assign_seen target e scope types f h =
      let seen = and_parts (each_access (scope_rule c.tables r) target) _ scope in
      let p = and_parts (hosted c.tables e).fits _ types in
      let q = and_parts (reached c.tables target).fits _ p.1 in
      let a = access_checks c.tables target in
      let n = access_type c.tables target in
      let b = assigned_checks c.tables n e in
      let same = type_same c.tables target q.0 in
      elim (then_error (spot (view c s) target) _ f h) [
        | inl g ↦ seen_left a b (access_slots target) (expr_slots e) f (access_seen target seen.0 q.0 f g)
        | inr x ↦ elim (then_error (assigned (view c s) (Actions.access_type c target) e) _ f x.2) [
          | inl g ↦
              seen_right a b (access_slots target) (expr_slots e) f
              (assigned_seen e n seen.1 p.0 (subst (λ k. has_host (hosted c.tables e).boolean (c.tables.type_at k) ≡ true) same q.1) f (subst (λ k. assigned (view c s) k e ≡ Err f) same g))
          | inr y ↦ absurd (no_value _ f y.2)
        ]
      ]

  copy_seen : (target source : Access) → (each_access (scope_rule c.tables r) target && each_access (scope_rule c.tables r) source) ≡ true
      → copy_fits c.tables (reached c.tables target) (reached c.tables source) ≡ true
      → (f : Fault) → copy c s target source ≡ Err f → Seen (access_checks c.tables target ++ access_checks c.tables source) (access_slots target ++ access_slots source) f
  copy_seen target source scope types f h =
      let seen = and_parts (each_access (scope_rule c.tables r) target) _ scope in
      let p = and_parts ((reached c.tables target).fits && (reached c.tables source).fits) _ types in
      let q = and_parts (reached c.tables target).fits _ p.0 in
      let a = access_checks c.tables target in
      let b = access_checks c.tables source in
      elim (then_error (spot (view c s) target) _ f h) [
        | inl g ↦ seen_left a b (access_slots target) (access_slots source) f (access_seen target seen.0 q.0 f g)
        | inr x ↦ elim (then_error (spot (view c s) source) _ f x.2) [
          | inl g ↦ seen_right a b (access_slots target) (access_slots source) f (access_seen source seen.1 q.1 f g)
          | inr y ↦ absurd (no_value _ f y.2)
        ]
      ]

  -- ---- calls

  actual_seen : (u : ℕ) (x : VarDef) → c.tables.var_at u ≡ Some x → (d : Actual-F Actual ExprForm Access Expr) → ruled_step (scope_rule c.tables r) d ≡ true → is_passed_to c.tables (typed_step c.tables d) x ≡ true
      → (f : Fault) → pass_to c s u d ≡ Err f → Seen (actual_checks c.tables u d) (actual_slots d) f
  actual_seen u x known (Actual-F.«Actual::Value» e) scope types f h =
      let p = and_parts (hosted c.tables e).fits _ types in
      let q = and_parts (is_kind kind.Value x.kind) _ p.1 in
      elim (then_error (assigned (view c s) (var_type c.tables u) e) _ f h) [
        | inl g ↦ assigned_seen e (var_type c.tables u) scope p.0 (ap (λ n. has_host (hosted c.tables e).boolean (c.tables.type_at n)) (var_type_is c.tables u x known) ∙ q.1) f g
        | inr y ↦ absurd (no_value _ f y.2)
      ]
  actual_seen u x known (Actual-F.Whole a) scope types f h =
      elim (then_error (spot (view c s) a) _ f h) [
        | inl g ↦ access_seen a scope (and_parts (reached c.tables a).fits _ types).0 f g
        | inr y ↦ absurd (no_value _ f y.2)
      ]
  actual_seen u x known (Actual-F.Var a) scope types f h =
      elim (then_error (spot (view c s) a) _ f h) [
        | inl g ↦ access_seen a scope (and_parts (reached c.tables a).fits _ types).0 f g
        | inr y ↦ absurd (no_value _ f y.2)
      ]

  pass_seen : (actuals : List Actual) (formals : List ℕ) → all_true (map (each_actual (scope_rule c.tables r)) actuals) ≡ true → are_passed_to c.tables (map (passed c.tables) actuals) formals ≡ true
      → (f : Fault) → pass c s actuals formals ≡ Err f → Seen (passing_checks c.tables actuals formals) (actuals_slots actuals) f
  pass_seen [] formals scope types f h = absurd (no_value _ f h)
  pass_seen (d ∷ actuals) [] scope types f h = absurd (true≢false (sym types))
  pass_seen (d ∷ actuals) (u ∷ formals) scope types f h =
      let m = and_parts (each_actual (scope_rule c.tables r) d) _ scope in
      let n = and_parts (holds_of (is_passed_to c.tables (passed c.tables d)) (c.tables.var_at u)) _ types in
      let x = holds_found (is_passed_to c.tables (passed c.tables d)) (c.tables.var_at u) n.0 in
      let a = actual_checks c.tables u (out-Actual d) in
      let b = passing_checks c.tables actuals formals in
      elim (then_error (pass_to c s u (out-Actual d)) _ f h) [
        | inl g ↦
            seen_left a b (actual_slots (out-Actual d)) (actuals_slots actuals) f
            (actual_seen u x.0 x.1 (out-Actual d) (sym (each_actual_is (scope_rule c.tables r) d) ∙ m.0) (ap (λ k. is_passed_to c.tables k (x.0)) (sym (passed_is c.tables d)) ∙ x.2) f g)
        | inr y ↦ elim (then_error (pass c s actuals formals) _ f y.2) [
          | inl g ↦ seen_right a b (actual_slots (out-Actual d)) (actuals_slots actuals) f (pass_seen actuals formals m.1 n.1 f g)
          | inr z ↦ absurd (no_value _ f z.2)
        ]
      ]

  call_seen : (k routine : ℕ) (actuals : List Actual) → (x : CallFits c r routine actuals) → (f : Fault) → call c s k routine actuals ≡ Err f → Seen (passing_checks c.tables actuals x.head.formals) (actuals_slots actuals) f
  call_seen k routine actuals x f h =
      elim (then_error (pass c s actuals (Actions.formals_of c s (c.tables.head_at routine))) _ f h) [
        | inl g ↦ pass_seen actuals x.head.formals x.scope x.types f (ap (λ o. pass c s actuals (Actions.formals_of c s o)) (sym x.known) ∙ g)
        | inr y ↦ absurd (no_value _ f y.2)
      ]

  -- ---- returns

  result_error : (place : ℕ) (o : Option ℤ) (f : Fault) → result_value place o ≡ Err f → ◌≡◌ {A = Fault} (record { kind = kinds.NoResult; at = place }) f
  result_error place (Some z) f h = absurd (no_value z f h)
  result_error place None f h = same_Err {A = ℤ} _ f h

  give_back_seen : (place : ℕ) (o : Option ℕ) (f : Fault) → give_back c s place o ≡ Err f → Contains (returned_checks place o) f
  give_back_seen place None f h = absurd (no_value _ f h)
  give_back_seen place (Some slot) f h =
      elim (then_error (result_value place (s.store (whole (top_depth s.stack) (result_of c s.stack)))) _ f h) [
        | inl g ↦ listed_one kinds.NoResult place f (result_error place (s.store (whole (top_depth s.stack) (result_of c s.stack))) f g)
        | inr y ↦ absurd (no_value _ f y.2)
      ]

  -- ---- `for`

  -- the values of a range
  ends_seen : (first last : Expr) (more : Faults) (test : ℤ → ℤ → Outcome) → (each_expr (scope_rule c.tables r) first && each_expr (scope_rule c.tables r) last) ≡ true → ((hosted c.tables first).fits && (hosted c.tables last).fits) ≡ true
      → (f : Fault) → range_of c s first last test ≡ Err f
      → ((x y : ℤ) → value (view c s) first ≡ Ok x → value (view c s) last ≡ Ok y → test x y ≡ Err f → Contains more f)
      → Seen (expr_checks c.tables first ++ (expr_checks c.tables last ++ more)) (expr_slots first ++ expr_slots last) f
  ends_seen first last more test scope types f h rest =
      let seen = and_parts (each_expr (scope_rule c.tables r) first) _ scope in
      let p = and_parts (hosted c.tables first).fits _ types in
      let a = expr_checks c.tables first in
      let b = expr_checks c.tables last in
      elim (then_error (value (view c s) first) _ f h) [
        | inl g ↦ seen_left a (b ++ more) (expr_slots first) (expr_slots last) f (expr_seen first seen.0 p.0 f g)
        | inr x ↦ elim (then_error (value (view c s) last) _ f x.2) [
          | inl g ↦ seen_right a (b ++ more) (expr_slots first) (expr_slots last) f (seen_first b more (expr_slots last) f (expr_seen last seen.1 p.1 f g))
          | inr y ↦ inl (Contains-append_right a (b ++ more) f (Contains-append_right b more f (rest x.0 y.0 x.1 y.1 y.2)))
        ]
      ]

  loop_seen : (control bound : ℕ) (first : Expr) (down : Bool) (last : Expr) → (each_expr (scope_rule c.tables r) first && each_expr (scope_rule c.tables r) last) ≡ true
      → loop_fits c.tables control bound (hosted c.tables first) (hosted c.tables last) ≡ true
      → (f : Fault) → enter c s control bound first down last ≡ Err f → Seen (bounds_checks c.tables (var_type c.tables control) first last) (expr_slots first ++ expr_slots last) f
  loop_seen control bound first down last scope types f h =
      let seen = and_parts (each_expr (scope_rule c.tables r) first) _ scope in
      let p = and_parts ((hosted c.tables first).fits && (hosted c.tables last).fits) _ types in
      let fit = and_parts (hosted c.tables first).fits _ p.0 in
      let q = and_parts (has_host (hosted c.tables first).boolean (type_of_var c.tables control) && has_host (hosted c.tables last).boolean (type_of_var c.tables control)) _ p.1 in
      let hosts = and_parts (has_host (hosted c.tables first).boolean (type_of_var c.tables control)) _ q.0 in
      let d = holds_found _ (c.tables.var_at control) q.1 in
      let same = variable_type c.tables control d.0 d.1 in
      let n = var_type c.tables control in
      let low = one_if (is_narrow (c.tables.type_at n)) kinds.ValueOutOfRange (out-Expr first).first in
      let high = one_if (is_narrow (c.tables.type_at n)) kinds.ValueOutOfRange (out-Expr last).first in
      ends_seen first last (low ++ high) _ scope p.0 f h
      (λ x y is_x is_y g. elim (then_error (checked (fits_type c n x) kinds.ValueOutOfRange (out-Expr first).first x) _ f (if_error (in_order down x y) _ f g)) [
        | inl e ↦ Contains-append_left low high f (range_listed first n x seen.0 fit.0 (subst (λ o. has_host (hosted c.tables first).boolean o ≡ true) same hosts.0) is_x f e)
        | inr z ↦ elim (then_error (checked (fits_type c n y) kinds.ValueOutOfRange (out-Expr last).first y) _ f z.2) [
          | inl e ↦ Contains-append_right low high f (range_listed last n y seen.1 fit.1 (subst (λ o. has_host (hosted c.tables last).boolean o ≡ true) same hosts.1) is_y f e)
          | inr u ↦ absurd (no_value _ f u.2)
        ]
      ])

  bypass_seen : (control bound : ℕ) (first : Expr) (down : Bool) (last : Expr) → (each_expr (scope_rule c.tables r) first && each_expr (scope_rule c.tables r) last) ≡ true
      → loop_fits c.tables control bound (hosted c.tables first) (hosted c.tables last) ≡ true
      → (f : Fault) → bypass c s control first down last ≡ Err f → Seen (bounds_checks c.tables (var_type c.tables control) first last) (expr_slots first ++ expr_slots last) f
  bypass_seen control bound first down last scope types f h =
      let p = and_parts ((hosted c.tables first).fits && (hosted c.tables last).fits) _ types in
      ends_seen first last _ _ scope p.0 f h (λ x y is_x is_y g. absurd (other_choice_error (in_order down x y) _ f g))

  turn_seen : (control bound place : ℕ) (test : ℤ → ℤ → Outcome) → ((x y : ℤ) (f : Fault) → test x y ≡ Err f → ⊥) → (f : Fault) → Actions.turn_of c s control bound place test ≡ Err f → Contains (one kinds.UndefinedValue place) f
  turn_seen control bound place test fine f h =
      elim (then_error (defined place (s.store ((view c s).place control))) _ f h) [
        | inl g ↦ listed_one kinds.UndefinedValue place f (defined_error place (s.store ((view c s).place control)) f g)
        | inr x ↦ elim (then_error (defined place (s.store ((view c s).place bound))) _ f x.2) [
          | inl g ↦ listed_one kinds.UndefinedValue place f (defined_error place (s.store ((view c s).place bound)) f g)
          | inr y ↦ absurd (fine x.0 y.0 f y.2)
        ]
      ]

  -- ---- input and output

  taken_seen : (target : Access) (p : Spot) (o : Option Taken) → next_number s.items ≡ o → spot (view c s) target ≡ Ok p → has_host false (c.tables.type_at (Actions.access_type c target)) ≡ true
      → (f : Fault) → with_taken c s (Actions.access_type c target) p o ≡ Err f
      → Contains (one kinds.NoNumber (out-Access target).at ++ one_if (is_narrow (c.tables.type_at (Actions.access_type c target))) kinds.ValueOutOfRange (out-Access target).at) f
  taken_seen target p None is known host f h =
      let at = spot_place (view c s) target p known in
      Contains-append_left (one kinds.NoNumber (out-Access target).at) _ f
      (listed_one kinds.NoNumber (out-Access target).at f (ap (λ n. record { kind = kinds.NoNumber; at = n }) at ∙ same_Err {A = Option Effect} _ f h))
  taken_seen target p (Some x) is known host f h =
      let at = spot_place (view c s) target p known in
      let n = Actions.access_type c target in
      elim (then_error (checked (fits_type c n x.number) kinds.ValueOutOfRange p.at x.number) _ f h) [
        | inl g ↦
            let out = checked_error (fits_type c n x.number) kinds.ValueOutOfRange p.at x.number f g in
            Contains-append_right (one kinds.NoNumber (out-Access target).at) _ f
            (listed_if (is_narrow (c.tables.type_at n)) kinds.ValueOutOfRange (out-Access target).at f
            (narrow_from (c.tables.type_at n) false x.number host (number_in_host x.number (taken_is_number s.items v.items x is)) out.0)
            (ap (λ k. record { kind = kinds.ValueOutOfRange; at = k }) at ∙ out.1))
        | inr y ↦ absurd (no_value _ f y.2)
      ]

  read_seen : (target : Access) → each_access (scope_rule c.tables r) target ≡ true → is_target c.tables false (reached c.tables target) ≡ true
      → (f : Fault) → read c s target ≡ Err f → Seen (read_checks c.tables (access_type c.tables target) target) (access_slots target) f
  read_seen target scope types f h =
      let q = and_parts (reached c.tables target).fits _ types in
      let a = access_checks c.tables target in
      elim (then_error (spot (view c s) target) _ f h) [
        | inl g ↦ seen_first a _ (access_slots target) f (access_seen target scope q.0 f g)
        | inr x ↦
            inl (Contains-append_right a _ f
            (subst (λ n. Contains (one kinds.NoNumber (out-Access target).at ++ one_if (is_narrow (c.tables.type_at n)) kinds.ValueOutOfRange (out-Access target).at) f) (type_same c.tables target q.0)
            (taken_seen target x.0 (next_number s.items) refl x.1 q.1 f x.2)))
      ]

  written_seen : (u : WriteValue) → each_written (scope_rule c.tables r) u ≡ true → written_fits c.tables u ≡ true → (f : Fault) → written_value c s u ≡ Err f → Seen (written_checks c.tables u) (written_slots u) f
  written_seen (written.Value e) scope types f h =
      elim (then_error (value (view c s) e) _ f h) [
        | inl g ↦ expr_seen e scope types f g
        | inr x ↦ absurd (no_value _ f x.2)
      ]
  written_seen (written.Text bytes at) scope types f h = absurd (no_value _ f h)

  width_seen : (o : Option Expr) (text : Written) → true_if_some (option_map (each_expr (scope_rule c.tables r)) o) ≡ true → true_if_some (option_map (λ e. is_of_host false (hosted c.tables e)) o) ≡ true
      → (f : Fault) → write_in c s o text ≡ Err f → Seen (width_checks c.tables o) (width_slots o) f
  width_seen None text scope types f h = absurd (no_value _ f h)
  width_seen (Some e) text scope types f h =
      let own = expr_checks c.tables e in
      elim (then_error (value (view c s) e) _ f h) [
        | inl g ↦ seen_first own _ (expr_slots e) f (expr_seen e scope (and_parts (hosted c.tables e).fits _ types).0 f g)
        | inr x ↦ elim (then_error (checked (is_width (x.0)) kinds.WidthOutOfRange (out-Expr e).first (x.0)) _ f x.2) [
          | inl g ↦ inl (Contains-append_right own _ f (listed_one kinds.WidthOutOfRange (out-Expr e).first f (checked_error (is_width (x.0)) kinds.WidthOutOfRange (out-Expr e).first x.0 f g).1))
          | inr y ↦ absurd (no_value _ f y.2)
        ]
      ]

  write_seen : (item : WriteItem) → each_item (scope_rule c.tables r) item ≡ true → item_fits c.tables item ≡ true → (f : Fault) → write c s item ≡ Err f → Seen (item_checks c.tables item) (written_slots item.value ++ width_slots item.width) f
  write_seen item scope types f h =
      let seen = and_parts (each_written (scope_rule c.tables r) item.value) _ scope in
      let p = and_parts (written_fits c.tables item.value) _ types in
      let a = written_checks c.tables item.value in
      let b = width_checks c.tables item.width in
      elim (then_error (written_value c s item.value) _ f h) [
        | inl g ↦ seen_left a b (written_slots item.value) (width_slots item.width) f (written_seen item.value seen.0 p.0 f g)
        | inr x ↦ seen_right a b (written_slots item.value) (width_slots item.width) f (width_seen item.width x.0 seen.1 p.1 f x.2)
      ]

  -- ---- every action

  act_seen : (a : Act) → each_act (scope_rule c.tables r) a ≡ true → act_types_fit c.tables a ≡ true → (k place : ℕ) (f : Fault) → effect_of c s k place a ≡ Err f → Seen (act_checks c place a) (unchecked c place a) f
  act_seen act.Skip scope types k place f h = absurd (no_value _ f h)
  act_seen (act.Assign target e) scope types k place f h = assign_seen target e scope types f h
  act_seen (act.Copy target source) scope types k place f h = copy_seen target source scope types f h
  act_seen (act.Call routine actuals slot name) scope types k place f h =
      let x = call_is_fit c r routine actuals slot name scope types in
      subst (λ o. Seen (passing_checks c.tables actuals (formals_of o)) (actuals_slots actuals) f) (sym x.known) (call_seen k routine actuals x f h)
  act_seen (act.Return j) scope types k place f h = inl (give_back_seen place (slot_at c.edges j) f (if_error (was_made_by j (top_call s.stack)) _ f h))
  act_seen (act.Goto routine) scope types k place f h = absurd (no_value _ f h)
  act_seen (act.Test e wanted) scope types k place f h =
      elim (then_error (value (view c s) e) _ f h) [
        | inl g ↦ expr_seen e scope (and_parts (hosted c.tables e).fits _ types).0 f g
        | inr x ↦ absurd (choice_error (int_eq (x.0) (truth wanted)) _ f x.2)
      ]
  act_seen (act.Arm selector constants) scope types k place f h =
      elim (then_error (value (view c s) selector) _ f h) [
        | inl g ↦ seen_first (expr_checks c.tables selector) _ (expr_slots selector) f (expr_seen selector scope (and_parts (hosted c.tables selector).fits _ types).0 f g)
        | inr x ↦ absurd (choice_error (is_one_of constants (x.0)) _ f x.2)
      ]
  act_seen (act.Enter control bound first down last) scope types k place f h = loop_seen control bound first down last (and_parts (is_visible c.tables r control && is_own c.tables r kind.Bound bound) _ scope).1 types f h
  act_seen (act.Bypass control bound first down last) scope types k place f h = bypass_seen control bound first down last (and_parts (is_visible c.tables r control && is_own c.tables r kind.Bound bound) _ scope).1 types f h
  act_seen (act.Next control bound down) scope types k place f h = inr (turn_seen control bound place _ (λ x y g e. choice_error (comes_before down x y) _ g e) f h)
  act_seen (act.Finish control bound down) scope types k place f h = inr (turn_seen control bound place _ (λ x y g e. other_choice_error (comes_before down x y) _ g e) f h)
  act_seen (act.Read target) scope types k place f h = read_seen target scope types f h
  act_seen act.DropLine scope types k place f h = absurd (no_value _ f h)
  act_seen (act.Write item) scope types k place f h = write_seen item scope types f h
  act_seen act.EndLine scope types k place f h = absurd (no_value _ f h)

  abbrev Leaves : ℕ → Type 0
  Leaves = IsNumbered c.edges (λ (e : Edge). nat_eq e.from (point_of s.stack)) 0

  edge_known : (k : ℕ) → (x : Leaves k) → slice_get c.edges k ≡ Some x.item
  edge_known k x = ap (slice_get c.edges) (sym x.number ∙ zero-add x.index) ∙ x.known

  -- the error of a return is that its function has no result
  return_error : (k : ℕ) (e : Edge) → slice_get c.edges k ≡ Some e → (a : Act) → e.act ≡ a → is_return a ≡ true → (f : Fault) → effect_of c s k (place_of_point c.points e.from) a ≡ Err f → Contains (faults_of (own_judgements c e.from)) f
  return_error k e known (act.Return j) is on f h =
      let place = place_of_point c.points e.from in
      let made = error_if_done (was_made_by j (top_call s.stack)) (give_back c s place (slot_at c.edges j)) f h in
      let x = called_found c s.stack v.stack j made.0 in
      let slot : slot_at c.edges j ≡ slot_of x.site.act = ap (option_and_then (λ (g : Edge). slot_of g.act)) x.known in
      returned x (slot_of x.site.act) refl (ap (give_back c s place) (sym slot) ∙ made.1)
    where
      returned : (x : IsCalled c s.stack j) (o : Option ℕ) → slot_of x.site.act ≡ o → give_back c s (place_of_point c.points e.from) o ≡ Err f → Contains (faults_of (own_judgements c e.from)) f
      returned x None slot h = absurd (no_value _ f h)
      returned x (Some u) slot h =
          let place = place_of_point c.points e.from in
          elim (then_error (result_value place (s.store (whole (top_depth s.stack) (result_of c s.stack)))) _ f h) [
            | inl g ↦ exit_listed c w j k x.site e x.callee u x.known x.calls slot known is f (result_error place (s.store (whole (top_depth s.stack) (result_of c s.stack))) f g)
            | inr y ↦ absurd (no_value _ f y.2)
          ]
  return_error k e known _ is on f h = absurd (true≢false (sym on))

  -- the error of an edge that leaves the point
  edge_error : (k : ℕ) (e : Edge) → slice_get c.edges k ≡ Some e → e.from ≡ point_of s.stack → (stands : routine_at c.points (point_of s.stack) ≡ Some r) → (f : Fault) → effect_of c s k (place_of_point c.points e.from) e.act ≡ Err f → IsForeseen c s f
  edge_error k e known from stands f h =
      let place = place_of_point c.points e.from in
      let there : routine_at c.points e.from ≡ Some r = ap (routine_at c.points) from ∙ stands in
      elim (cases_Bool (is_return e.act)) [
        | inl on ↦ inl (judged_error c s e.from f from (return_error k e known e.act refl on f h))
        | inr on ↦ elim (act_seen e.act (w.scopes k r e known there) (w.types k e known) k place f h) [
          | inl g ↦ inl (judged_error c s e.from f from (edge_listed c w k e known r there on place f g))
          | inr g ↦ inr (record { number = k; edge = e; known = known; leaves = from; listed = g })
        ]
      ]

  -- the error of the first edge that has one
  error_here : (k : ℕ) → Leaves k → (stands : routine_at c.points (point_of s.stack) ≡ Some r) → (f : Fault) (o : Outcome) (others : Answer (Option State)) → edge_effect c s k (slice_get c.edges k) ≡ o → (others ≡ Err f → IsForeseen c s f) → or_else c s k o others ≡ Err f → IsForeseen c s f
  error_here k x stands f (Ok (Some e)) others is rest h = absurd (no_value _ f h)
  error_here k x stands f (Ok None) others is rest h = rest h
  error_here k x stands f (Err g) others is rest h =
      let known = edge_known k x in
      edge_error k x.item known (eqb-true (x.item).from (point_of s.stack) x.passes) stands f (ap (edge_effect c s k) (sym known) ∙ is ∙ ap Err (same_Err {A = Option State} g f h))

  pub first_error : (stands : routine_at c.points (point_of s.stack) ≡ Some r) (ks : List ℕ) → All Leaves ks → (f : Fault) → first_done c s ks ≡ Err f → IsForeseen c s f
  first_error stands [] all f h = absurd (no_value _ f h)
  first_error stands (k ∷ ks) all f h = error_here k (All-head Leaves k ks all) stands f (edge_effect c s k (slice_get c.edges k)) (first_done c s ks) refl (first_error stands ks (All-tail Leaves k ks all) f) h

-- ---- no label of a `case`

arm_listed : (c : Chart) (place : ℕ) (a : Act) (f : Fault) → is_arm a ≡ true → ◌≡◌ {A = Fault} (record { kind = kinds.NoCaseLabel; at = arm_place a }) f → Contains (act_checks c place a) f
arm_listed c place (act.Arm selector constants) f arm h = Contains-append_right (expr_checks c.tables selector) _ f (listed_one kinds.NoCaseLabel (out-Expr selector).first f h)
arm_listed c place _ f arm h = absurd (true≢false (sym arm))

arm_goes_on : (a : Act) → is_arm a ≡ true → is_return a ≡ false
arm_goes_on (act.Arm selector constants) h = refl
arm_goes_on _ h = absurd (true≢false (sym h))

module _ (c : Chart) (w : IsWellFormed c) (s : State) (r : ℕ) (stands : routine_at c.points (point_of s.stack) ≡ Some r) where
  case_foreseen : (ks : List ℕ) → All (IsNumbered c.edges (λ (e : Edge). nat_eq e.from (point_of s.stack)) 0) ks → 0 < length ks → ((k : ℕ) (e : Edge) → slice_get c.edges k ≡ Some e → e.from ≡ point_of s.stack → is_arm e.act ≡ true)
      → (f : Fault) → ◌≡◌ {A = Fault} (record { kind = kinds.NoCaseLabel; at = selector_of c ks }) f → IsForeseen c s f
  case_foreseen [] all some arms f h = absurd (omega arith)
  case_foreseen (k ∷ ks) all some arms f h =
      let x = All-head (IsNumbered c.edges (λ (e : Edge). nat_eq e.from (point_of s.stack)) 0) k ks all in
      let known : slice_get c.edges k ≡ Some x.item = ap (slice_get c.edges) (sym x.number ∙ zero-add x.index) ∙ x.known in
      let from = eqb-true (x.item).from (point_of s.stack) x.passes in
      let place = place_of_point c.points (x.item).from in
      let arm = arms k x.item known from in
      inl (judged_error c s (x.item).from f from
      (edge_listed c w k x.item known r (ap (routine_at c.points) from ∙ stands) (arm_goes_on (x.item).act arm) place f
      (arm_listed c place (x.item).act f arm (ap (λ o. record { kind = kinds.NoCaseLabel; at = selector_place o }) (sym known) ∙ h))))

module _ (c : Chart) (s : State) where
  same_fault : (f g : Fault) → fails f ≡ fails g → f ≡ g
  same_fault f g h = cc

  moves_on : (t : State) (f : Fault) → moves t ≡ fails f → ⊥
  moves_on t f h = cc

  halts_first : (f : Fault) → halts ≡ fails f → ⊥
  halts_first f h = cc

  -- a failure is the first error, or that no action is to be done
  progress_fails : (selector : ℕ) (o : Answer (Option State)) (f : Fault) → progress selector o ≡ fails f → (o ≡ Err f) ⊎ ((o ≡ Ok None) × (◌≡◌ {A = Fault} (record { kind = kinds.NoCaseLabel; at = selector }) f))
  progress_fails selector (Ok (Some t)) f h = absurd (moves_on t f h)
  progress_fails selector (Ok None) f h = inr (refl, same_fault _ f h)
  progress_fails selector (Err g) f h = inl (ap Err (same_fault g f h))

pub error_is_foreseen : (c : Chart) → IsWellFormed c → (s : State) → IsValid c s → (f : Fault) → next c s ≡ fails f → IsForeseen c s f
error_is_foreseen c w s v f h =
    let r = standing_routine c s.stack v.stack in
    let here = latest_found c s.stack v.stack r.0 r.1 in
    let ks = leaving c.edges (point_of s.stack) in
    let all = numbers_found c.edges (λ (e : Edge). nat_eq e.from (point_of s.stack)) 0 in
    let goes = progress (selector_of c ks) (first_done c s ks) in
    elim (cases_Bool (is_halted c s.stack)) [
      | inl e ↦ absurd (halts_first c s f (sym (cond-true (is_halted c s.stack) halts goes e) ∙ h))
      | inr e ↦ elim (progress_fails c s (selector_of c ks) (first_done c s ks) f (sym (cond-false (is_halted c s.stack) halts goes e) ∙ h)) [
        | inl g ↦ first_error c w s v r.0 here r.1 ks all f g
        | inr n ↦
            let x = no_action_is_case c w s v e n.0 in
            case_foreseen c w s r.0 r.1 ks all x.leads x.arms f n.1
      ]
    ]
