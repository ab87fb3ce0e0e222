-- What the actions do that begin and end in one activation: each changes only what exists, and puts there what fits.
use Rattle.std.proofs.Common.{◌≡◌, ℕ, zero, suc, Bool, true, false, ◌&&◌, List, [], ◌∷◌, ◌++◌, ℤ, pos, ◌+ℤ◌, ◌-ℤ◌, int_le, int_lt, refl, sym, ap, subst, ◌∙◌, Ok, Option, Some, None, nat_eq, eqb-true, eq-eqb, arith}
use Rattle.std.proofs.lemmas.Bool.{and_parts, and_from, or_left, true≢false}
use Rattle.std.proofs.lemmas.Int.{ints}
use Rattle.px_base.specs.declared.kind.Kind.TheVariants.{ValueOutOfRange, WidthOutOfRange}
use Rattle.pas_program.specs.declared.expr.Access.{Access}
use Rattle.pas_program.specs.declared.expr.Actual.TheViews.{out-Expr}
use Rattle.pas_program.specs.declared.expr.Expr.{Expr}
use Rattle.pas_program.specs.declared.statement.WriteItem.{WriteItem}
use Rattle.pas_program.specs.declared.type_def.TypeDef.{TypeDef}
use Rattle.pas_program.specs.declared.type_def.TypeDef.TheVariants.{Scalar, Array}
use Rattle.pas_program.specs.declared.variable.VarDef.{VarDef}
use Rattle.pas_program.specs.declared.variable.VarKind.{VarKind}
use Rattle.pas_program.specs.declared.variable.VarKind.TheVariants as kind
use Rattle.pas_program.specs.Each.{each_access, each_expr}
use Rattle.pas_program.specs.Scopes.{scope_rule}
use Rattle.pas_program.specs.Tables.{Tables, Head, holds_of, leads_within, is_around, is_kind, is_own, is_visible}
use Rattle.pas_program.specs.Typed.{hosted, reached, is_target, copy_fits}
use Rattle.pas_program.specs.Types.{is_array}
use Rattle.control_points.specs.Actions.{sets, copies, Effect, top_depth, access_type, fits_type, view, does, assign, copy, test, arm, in_order, comes_before, stepped, enter, bypass, next_turn, finish, with_taken, read, drop_line, puts_out, written_value, write_in, write}
use Rattle.control_points.specs.Chart.{Chart}
use Rattle.control_points.specs.Evaluation.{View, Spot, checked, defined, is_value_of, var_type, value, spot, assigned}
use Rattle.control_points.specs.Fits.{routine_at}
use Rattle.control_points.specs.Input.{Taken, next_number, after_line}
use Rattle.control_points.specs.Output.{Written, is_width}
use Rattle.control_points.specs.States.{Stack, State}
use Rattle.control_points.specs.Storage.{Place}
use Rattle.control_points.specs.ValidStates.{Denotes, IsOf, IsStored, IsValid, type_of_variable}
use Rattle.control_points.specs.WellFormed.{IsWellFormed}
use Rattle.control_points.proofs.ValidBasics.{no_error, then_ok, checked_ok, defined_ok, if_done, unless_done, same_effect, holds_found}
use Rattle.control_points.proofs.ValidEffects.{EffectFits, stays, does_fit, line_is_input, rest_is_input}
use Rattle.control_points.proofs.ValidPlaces.{spot_denotes, variable_denotes, var_type_is}

-- ---- numbers and types

pub value_typed : (o : Option TypeDef) (z : ℤ) → is_value_of o z ≡ true → (d : TypeDef) × (o ≡ Some d)
value_typed (Some d) z h = (d, refl)
value_typed None z h = absurd (true≢false (sym h))

pub array_typed : (o : Option TypeDef) → is_array o ≡ true → (d : TypeDef) × (o ≡ Some d)
array_typed (Some d) h = (d, refl)
array_typed None h = absurd (true≢false (sym h))

pub assigned_fits : (v : View) (n : ℕ) (e : Expr) (z : ℤ) → assigned v n e ≡ Ok z → is_value_of (v.tables.type_at n) z ≡ true
assigned_fits v n e z h =
    let x = then_ok (value v e) _ z h in
    let y = checked_ok (is_value_of (v.tables.type_at n) (x.0)) ValueOutOfRange (out-Expr e).first (x.0) z x.2 in
    subst (λ w. is_value_of (v.tables.type_at n) w ≡ true) y.1 y.0

pub stored_at : (c : Chart) (stack : Stack) (p : Place) (o : Option TypeDef) (z : ℤ) → Denotes c stack p o → is_value_of o z ≡ true → IsStored c stack p z
stored_at c stack p o z x fits = record { exists = x.exists; fits = ap (λ d. is_value_of d z) x.typed ∙ fits }

-- the value after one that another comes after is one of the type of both
step_up : (lo hi x y : ℤ) → int_le lo x ≡ true → int_le y hi ≡ true → int_lt x y ≡ true → (int_le lo (x +ℤ pos 1) ≡ true) × (int_le (x +ℤ pos 1) hi ≡ true)
step_up lo hi x y l h b = (grind (arith, ints), grind (arith, ints))

step_down : (lo hi x y : ℤ) → int_le lo y ≡ true → int_le x hi ≡ true → int_lt y x ≡ true → (int_le lo (x -ℤ pos 1) ≡ true) × (int_le (x -ℤ pos 1) hi ≡ true)
step_down lo hi x y l h b = (grind (arith, ints), grind (arith, ints))

pub stepped_value : (down : Bool) (o : Option TypeDef) (x y : ℤ) → is_value_of o x ≡ true → is_value_of o y ≡ true → comes_before down x y ≡ true → is_value_of o (stepped down x) ≡ true
stepped_value false (Some (Scalar boolean lo hi)) x y p q b =
    let u = and_parts (int_le lo x) _ p in
    let w = and_parts (int_le lo y) _ q in
    let z = step_up lo hi x y u.0 w.1 b in
    and_from _ _ z.0 z.1
stepped_value true (Some (Scalar boolean lo hi)) x y p q b =
    let u = and_parts (int_le lo x) _ p in
    let w = and_parts (int_le lo y) _ q in
    let z = step_down lo hi x y w.0 u.1 b in
    and_from _ _ z.0 z.1
stepped_value down (Some (Array index element)) x y p q b = absurd (true≢false (sym p))
stepped_value down None x y p q b = absurd (true≢false (sym p))

-- ---- scopes

leads_to_itself : (t : Tables) (n r : ℕ) → leads_within n t r r ≡ true
leads_to_itself t zero r = eq-eqb r r refl
leads_to_itself t (suc n) r = or_left (nat_eq r r) _ (eq-eqb r r refl)

-- a routine around which another one is sees its own variables
pub sees_own : (t : Tables) (r s v : ℕ) (k : VarKind) → is_around t r s ≡ true → is_own t r k v ≡ true → is_visible t r v ≡ true
sees_own t r s v k around own =
    let h = holds_found (λ (h : Head). leads_within h.level t r s) (t.head_at r) around in
    let x = holds_found (λ (d : VarDef). nat_eq d.routine r && is_kind k d.kind) (t.var_at v) own in
    let p = and_parts (nat_eq (x.0).routine r) _ x.2 in
    ap (holds_of (λ (d : VarDef). is_around t r d.routine)) x.1
    ∙ subst (λ q. is_around t r q ≡ true) (sym (eqb-true (x.0).routine r p.0)) (ap (holds_of (λ (h : Head). leads_within h.level t r r)) h.1 ∙ leads_to_itself t (h.0).level r)

-- the control variable of a `for` and its bound have one type
pub loop_type : (t : Tables) (control bound : ℕ) → holds_of (λ (c : VarDef). holds_of (λ (b : VarDef). nat_eq b.of_type c.of_type) (t.var_at bound)) (t.var_at control) ≡ true → type_of_variable t bound ≡ type_of_variable t control
loop_type t control bound h =
    let x = holds_found (λ (c : VarDef). holds_of (λ (b : VarDef). nat_eq b.of_type c.of_type) (t.var_at bound)) (t.var_at control) h in
    let y = holds_found (λ (b : VarDef). nat_eq b.of_type (x.0).of_type) (t.var_at bound) x.2 in
    ap t.type_at (var_type_is t bound y.0 y.1 ∙ eqb-true (y.0).of_type (x.0).of_type y.2 ∙ sym (var_type_is t control x.0 x.1))

-- ---- the actions of the latest activation, which is one of routine r, from its point to the point p

module _ (c : Chart) (w : IsWellFormed c) (s : State) (v : IsValid c s) (r p : ℕ) (here : IsOf s.stack (top_depth s.stack) r) (at : routine_at c.points p ≡ Some r) where
  nothing_fits : (e : Effect) → does c s [] ≡ Ok (Some e) → EffectFits c s p e
  nothing_fits e h = does_fit c s v p r here at [] tt e h

  pub skip_fits : (e : Effect) → does c s [] ≡ Ok (Some e) → EffectFits c s p e
  skip_fits e h = nothing_fits e h

  -- where an access leads, and that a value of its type may be stored there
  target_denotes : (a : Access) (q : Spot) (d : TypeDef) → each_access (scope_rule c.tables r) a ≡ true → (reached c.tables a).fits ≡ true → c.tables.type_at (access_type c a) ≡ Some d → spot (view c s) a ≡ Ok q → Denotes c s.stack q.place (c.tables.type_at (access_type c a))
  target_denotes a q d scope types known h = spot_denotes c w.tables s v.stack r here a q d scope types known h

  pub assign_fits : (target : Access) (e : Expr) → (each_access (scope_rule c.tables r) target && each_expr (scope_rule c.tables r) e) ≡ true
      → ((hosted c.tables e).fits && is_target c.tables (hosted c.tables e).boolean (reached c.tables target)) ≡ true
      → (f : Effect) → assign c s target e ≡ Ok (Some f) → EffectFits c s p f
  assign_fits target e scope types f h =
      let x = then_ok (spot (view c s) target) _ (Some f) h in
      let y = then_ok (assigned (view c s) (access_type c target) e) _ (Some f) x.2 in
      let fits = assigned_fits (view c s) (access_type c target) e y.0 y.1 in
      let known = value_typed (c.tables.type_at (access_type c target)) y.0 fits in
      let inside = and_parts (reached c.tables target).fits _ (and_parts (hosted c.tables e).fits _ types).1 in
      let place = target_denotes target x.0 known.0 (and_parts (each_access (scope_rule c.tables r) target) _ scope).0 inside.0 known.1 x.1 in
      does_fit c s v p r here at (sets (x.0).place (Some (y.0)) ∷ []) (stored_at c s.stack (x.0).place _ y.0 place fits, tt) f y.2

  pub copy_is_fit : (target source : Access) → (each_access (scope_rule c.tables r) target && each_access (scope_rule c.tables r) source) ≡ true
      → copy_fits c.tables (reached c.tables target) (reached c.tables source) ≡ true
      → (f : Effect) → copy c s target source ≡ Ok (Some f) → EffectFits c s p f
  copy_is_fit target source scope types f h =
      let x = then_ok (spot (view c s) target) _ (Some f) h in
      let y = then_ok (spot (view c s) source) _ (Some f) x.2 in
      let seen = and_parts (each_access (scope_rule c.tables r) target) _ scope in
      let a = and_parts ((reached c.tables target).fits && (reached c.tables source).fits) _ types in
      let b = and_parts (reached c.tables target).fits _ a.0 in
      let d = and_parts (nat_eq (access_type c target) (access_type c source)) _ a.1 in
      let same = eqb-true (access_type c target) (access_type c source) d.0 in
      let known = array_typed (c.tables.type_at (access_type c target)) d.1 in
      let to = target_denotes target x.0 known.0 seen.0 b.0 known.1 x.1 in
      let from = target_denotes source y.0 known.0 seen.1 b.1 (ap c.tables.type_at (sym same) ∙ known.1) y.1 in
      does_fit c s v p r here at (copies (x.0).place (y.0).place ∷ []) ((to.exists, to.typed ∙ ap c.tables.type_at same ∙ sym from.typed), tt) f y.2

  pub test_fits : (e : Expr) (wanted : Bool) (f : Effect) → test c s e wanted ≡ Ok (Some f) → EffectFits c s p f
  test_fits e wanted f h =
      let x = then_ok (value (view c s) e) _ (Some f) h in
      nothing_fits f (if_done _ (does c s []) f x.2).1

  pub arm_fits : (e : Expr) (constants : List ℤ) (f : Effect) → arm c s e constants ≡ Ok (Some f) → EffectFits c s p f
  arm_fits e constants f h =
      let x = then_ok (value (view c s) e) _ (Some f) h in
      nothing_fits f (if_done _ (does c s []) f x.2).1

  -- ---- `for`

  -- the control variable, and the bound with the type of the control variable
  control_denotes : (control bound : ℕ) → (is_visible c.tables r control && is_own c.tables r kind.Bound bound) ≡ true → Denotes c s.stack ((view c s).place control) (type_of_variable c.tables control)
  control_denotes control bound scope = variable_denotes c w.tables s v.stack r here control (and_parts (is_visible c.tables r control) _ scope).0

  bound_denotes : (control bound : ℕ) → (is_visible c.tables r control && is_own c.tables r kind.Bound bound) ≡ true → type_of_variable c.tables bound ≡ type_of_variable c.tables control → Denotes c s.stack ((view c s).place bound) (type_of_variable c.tables control)
  bound_denotes control bound scope same =
      let x = and_parts (is_visible c.tables r control) _ scope in
      let y = holds_found (λ (d : VarDef). is_around c.tables r d.routine) (c.tables.var_at control) x.0 in
      subst (Denotes c s.stack ((view c s).place bound)) same
      (variable_denotes c w.tables s v.stack r here bound (sees_own c.tables r (y.0).routine bound kind.Bound y.2 x.1))

  pub enter_fits : (control bound : ℕ) (first : Expr) (down : Bool) (last : Expr) → (is_visible c.tables r control && is_own c.tables r kind.Bound bound) ≡ true
      → type_of_variable c.tables bound ≡ type_of_variable c.tables control
      → (f : Effect) → enter c s control bound first down last ≡ Ok (Some f) → EffectFits c s p f
  enter_fits control bound first down last scope same f h =
      let x = then_ok (value (view c s) first) _ (Some f) h in
      let y = then_ok (value (view c s) last) _ (Some f) x.2 in
      let z = if_done (in_order down (x.0) (y.0)) _ f y.2 in
      let n = var_type c.tables control in
      let low = then_ok (checked (fits_type c n (x.0)) ValueOutOfRange (out-Expr first).first (x.0)) _ (Some f) z.1 in
      let high = then_ok (checked (fits_type c n (y.0)) ValueOutOfRange (out-Expr last).first (y.0)) _ (Some f) low.2 in
      let a = checked_ok (fits_type c n (x.0)) ValueOutOfRange (out-Expr first).first (x.0) low.0 low.1 in
      let b = checked_ok (fits_type c n (y.0)) ValueOutOfRange (out-Expr last).first (y.0) high.0 high.1 in
      does_fit c s v p r here at (sets ((view c s).place control) (Some (low.0)) ∷ sets ((view c s).place bound) (Some (high.0)) ∷ []) (
        stored_at c s.stack ((view c s).place control) _ low.0 (control_denotes control bound scope) (subst (λ q. fits_type c n q ≡ true) a.1 a.0),
        (stored_at c s.stack ((view c s).place bound) _ high.0 (bound_denotes control bound scope same) (subst (λ q. fits_type c n q ≡ true) b.1 b.0), tt),
      )
      f high.2

  pub bypass_fits : (control : ℕ) (first : Expr) (down : Bool) (last : Expr) (f : Effect) → bypass c s control first down last ≡ Ok (Some f) → EffectFits c s p f
  bypass_fits control first down last f h =
      let x = then_ok (value (view c s) first) _ (Some f) h in
      let y = then_ok (value (view c s) last) _ (Some f) x.2 in
      does_fit c s v p r here at (sets ((view c s).place control) None ∷ []) (tt, tt) f (unless_done (in_order down (x.0) (y.0)) _ f y.2).1

  pub next_turn_fits : (control bound : ℕ) (down : Bool) (place : ℕ) → (is_visible c.tables r control && is_own c.tables r kind.Bound bound) ≡ true
      → type_of_variable c.tables bound ≡ type_of_variable c.tables control
      → (f : Effect) → next_turn c s control bound down place ≡ Ok (Some f) → EffectFits c s p f
  next_turn_fits control bound down place scope same f h =
      let x = then_ok (defined place (s.store ((view c s).place control))) _ (Some f) h in
      let y = then_ok (defined place (s.store ((view c s).place bound))) _ (Some f) x.2 in
      let z = if_done (comes_before down (x.0) (y.0)) _ f y.2 in
      let turn = control_denotes control bound scope in
      let last = bound_denotes control bound scope same in
      let a = v.stored ((view c s).place control) x.0 (defined_ok place (s.store ((view c s).place control)) x.0 x.1) in
      let b = v.stored ((view c s).place bound) y.0 (defined_ok place (s.store ((view c s).place bound)) y.0 y.1) in
      let fits =
      stepped_value down (type_of_variable c.tables control) x.0 y.0
      (ap (λ d. is_value_of d (x.0)) (sym turn.typed) ∙ a.fits) (ap (λ d. is_value_of d (y.0)) (sym last.typed) ∙ b.fits) z.0 in
      does_fit c s v p r here at (sets ((view c s).place control) (Some (stepped down (x.0))) ∷ []) (stored_at c s.stack ((view c s).place control) _ (stepped down (x.0)) turn fits, tt) f z.1

  pub finish_fits : (control bound : ℕ) (down : Bool) (place : ℕ) (f : Effect) → finish c s control bound down place ≡ Ok (Some f) → EffectFits c s p f
  finish_fits control bound down place f h =
      let x = then_ok (defined place (s.store ((view c s).place control))) _ (Some f) h in
      let y = then_ok (defined place (s.store ((view c s).place bound))) _ (Some f) x.2 in
      does_fit c s v p r here at (sets ((view c s).place control) None ∷ []) (tt, tt) f (unless_done (comes_before down (x.0) (y.0)) _ f y.2).1

  -- ---- input and output

  taken_fits : (n : ℕ) (q : Spot) (o : Option Taken) → next_number s.items ≡ o → (f : Effect) → with_taken c s n q o ≡ Ok (Some f)
      → ((d : TypeDef) → c.tables.type_at n ≡ Some d → Denotes c s.stack q.place (c.tables.type_at n)) → EffectFits c s p f
  taken_fits n q None is f h place = absurd (no_error _ (Some f) h)
  taken_fits n q (Some x) is f h place =
      let y = then_ok (checked (fits_type c n x.number) ValueOutOfRange q.at x.number) _ (Some f) h in
      let a = checked_ok (fits_type c n x.number) ValueOutOfRange q.at x.number y.0 y.1 in
      let fits = subst (λ z. fits_type c n z ≡ true) a.1 a.0 in
      let known = value_typed (c.tables.type_at n) y.0 fits in
      subst (EffectFits c s p) (same_effect _ f y.2)
      (stays c s v p r here at (sets q.place (Some (y.0)) ∷ []) (stored_at c s.stack q.place _ y.0 (place known.0 known.1) fits, tt) x.rest (rest_is_input s.items v.items x is) s.output)

  pub read_fits : (target : Access) → each_access (scope_rule c.tables r) target ≡ true → is_target c.tables false (reached c.tables target) ≡ true
      → (f : Effect) → read c s target ≡ Ok (Some f) → EffectFits c s p f
  read_fits target scope types f h =
      let x = then_ok (spot (view c s) target) _ (Some f) h in
      let inside = and_parts (reached c.tables target).fits _ types in
      taken_fits (access_type c target) x.0 (next_number s.items) refl f x.2 (λ d known. target_denotes target x.0 d scope inside.0 known x.1)

  pub drop_line_fits : (f : Effect) → drop_line c s ≡ Ok (Some f) → EffectFits c s p f
  drop_line_fits f h = subst (EffectFits c s p) (same_effect _ f h) (stays c s v p r here at [] tt (after_line s.items) (line_is_input s.items v.items) s.output)

  pub puts_fit : (bytes : List ℕ) (f : Effect) → puts_out c s bytes ≡ Ok (Some f) → EffectFits c s p f
  puts_fit bytes f h = subst (EffectFits c s p) (same_effect _ f h) (stays c s v p r here at [] tt s.items v.items (s.output ++ bytes))

  width_fits : (width : Option Expr) (text : Written) (f : Effect) → write_in c s width text ≡ Ok (Some f) → EffectFits c s p f
  width_fits None text f h = puts_fit text.bytes f h
  width_fits (Some width) text f h =
      let x = then_ok (value (view c s) width) _ (Some f) h in
      let y = then_ok (checked (is_width (x.0)) WidthOutOfRange (out-Expr width).first (x.0)) _ (Some f) x.2 in
      puts_fit _ f y.2

  pub write_fits : (item : WriteItem) (f : Effect) → write c s item ≡ Ok (Some f) → EffectFits c s p f
  write_fits item f h = let x = then_ok (written_value c s item.value) _ (Some f) h in width_fits item.width x.0 f x.2
