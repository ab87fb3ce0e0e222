-- In a valid state each variable that is seen denotes a place that exists, and so does each access whose types fit and whose
-- evaluation is no error.
use Rattle.std.proofs.Common.{◌≡◌, ℕ, Bool, true, false, ◌&&◌, List, [], ◌∷◌, ◌++◌, ℤ, map, refl, sym, ap, subst, ◌∙◌, inl, inr, Ok, Option, Some, None, is_some, option_map, option_and_then, unwrap_or, nat_eq, eq-eqb}
use Rattle.std.proofs.lemmas.Bool.{and_parts, and_from, cases_Bool, cond-true, cond-false, true≢false}
use Rattle.px_base.specs.declared.kind.Kind.TheVariants.{IndexOutOfRange}
use Rattle.pas_program.specs.declared.expr.Access.{Access}
use Rattle.pas_program.specs.declared.expr.Actual.TheFolds.{fold_out-Access}
use Rattle.pas_program.specs.declared.expr.Actual.TheViews.{out-Access}
use Rattle.pas_program.specs.declared.expr.Expr.{Expr}
use Rattle.pas_program.specs.declared.type_def.TypeDef.{TypeDef}
use Rattle.pas_program.specs.declared.type_def.TypeDef.TheVariants.{Scalar, Array}
use Rattle.pas_program.specs.declared.variable.VarDef.{VarDef}
use Rattle.pas_program.specs.declared.variable.VarKind.{VarKind}
use Rattle.pas_program.specs.declared.variable.VarKind.TheVariants as kind
use Rattle.pas_program.specs.Each as Each
use Rattle.pas_program.specs.Each.{Rule, all_true, each_access, each_actual, each_expr}
use Rattle.pas_program.specs.Scopes.{scope_rule}
use Rattle.pas_program.specs.Tables.{Tables, Head, holds_of, leads_within, is_around, is_kind, is_own, is_visible}
use Rattle.pas_program.specs.Typed.{Hosted, Reached, Passed, hosted, reached, subscripted, element_of, access_from, actual_type_step, form_type_step, access_type_step, expr_type_step}
use Rattle.control_points.specs.Actions.{top_depth, view}
use Rattle.control_points.specs.Chart.{Chart}
use Rattle.control_points.specs.Evaluation.{Answer, Valued, View, Spot, then_with, checked, is_value_of, index_type, element_type, subscript_values, var_type, spot, form_step, access_step, expr_step}
use Rattle.control_points.specs.Finding.{around, bound_to, own_place, seen_place, place_of}
use Rattle.control_points.specs.States.{Frame, Stack, State}
use Rattle.control_points.specs.Storage.{Place, whole, part}
use Rattle.control_points.specs.ValidStates.{Denotes, IsOf, IsStack, led_to, type_of_place, type_of_variable}
use Rattle.control_points.specs.WellFormed.{TablesFit}
use Rattle.control_points.proofs.ValidBasics.{same_Ok, then_ok, checked_ok, holds_found}
use Rattle.control_points.proofs.ValidStacks.{IsFound, around_found, bound_in}
use Rattle.control_points.proofs.Values.{valued}

-- ---- what subscripts lead to

pub led_nowhere : (t : Tables) (zs : List ℤ) → led_to t zs None ≡ None
led_nowhere t [] = refl
led_nowhere t (z ∷ zs) = refl

-- by some subscripts and then by others
pub led_on : (t : Tables) (xs zs : List ℤ) (d : Option TypeDef) → led_to t (xs ++ zs) d ≡ led_to t zs (led_to t xs d)
led_on t [] zs d = refl
led_on t (x ∷ xs) zs None = sym (led_nowhere t zs)
led_on t (x ∷ xs) zs (Some (Scalar boolean lo hi)) = sym (led_nowhere t zs)
led_on t (x ∷ xs) zs (Some (Array index element)) =
    elim (cases_Bool (is_value_of (t.type_at index) x)) [
      | inl e ↦
          cond-true (is_value_of (t.type_at index) x) (led_to t (xs ++ zs) (t.type_at element)) None e
          ∙ led_on t xs zs (t.type_at element)
          ∙ ap (led_to t zs) (sym (cond-true (is_value_of (t.type_at index) x) (led_to t xs (t.type_at element)) None e))
      | inr e ↦
          cond-false (is_value_of (t.type_at index) x) (led_to t (xs ++ zs) (t.type_at element)) None e
          ∙ sym (led_nowhere t zs)
          ∙ ap (led_to t zs) (sym (cond-false (is_value_of (t.type_at index) x) (led_to t xs (t.type_at element)) None e))
    ]

-- one subscript that is in range, and then others
led_first : (t : Tables) (index element : ℕ) (z : ℤ) (zs : List ℤ) → is_value_of (t.type_at index) z ≡ true → led_to t (z ∷ zs) (Some (Array index element)) ≡ led_to t zs (t.type_at element)
led_first t index element z zs e = cond-true (is_value_of (t.type_at index) z) (led_to t zs (t.type_at element)) None e

-- The values of subscripts whose types fit lead to the type that these lead to.
module _ (t : Tables) (g : Expr → Hosted) (w : Expr → Valued) where
  led_element : (n : ℕ) (e : Expr) (subscripts : List Expr) (o : Option TypeDef) → t.type_at n ≡ o
      → ((m : ℕ) (zs : List ℤ) → (subscripted t m (map g subscripts)).fits ≡ true → subscript_values t m (map w subscripts) ≡ Ok zs → led_to t zs (t.type_at m) ≡ t.type_at (subscripted t m (map g subscripts)).of_type)
      → (element_of t (g e) (λ m. subscripted t m (map g subscripts)) o).fits ≡ true
      → (zs : List ℤ)
      → then_with (w e).value (λ z. then_with (checked (is_value_of (t.type_at (index_type o)) z) IndexOutOfRange (w e).first z) (λ z. then_with (subscript_values t (element_type o) (map w subscripts)) (λ zs. Ok (z ∷ zs)))) ≡ Ok zs
      → led_to t zs o ≡ t.type_at (element_of t (g e) (λ m. subscripted t m (map g subscripts)) o).of_type
  led_element n e subscripts None is rest fits zs h = absurd (true≢false (sym fits))
  led_element n e subscripts (Some (Scalar boolean lo hi)) is rest fits zs h = absurd (true≢false (sym fits))
  led_element n e subscripts (Some (Array index element)) is rest fits zs h =
      let x = then_ok (w e).value _ zs h in
      let y = then_ok (checked (is_value_of (t.type_at index) (x.0)) IndexOutOfRange (w e).first (x.0)) _ zs x.2 in
      let ranged = checked_ok (is_value_of (t.type_at index) (x.0)) IndexOutOfRange (w e).first (x.0) y.0 y.1 in
      let u = then_ok (subscript_values t element (map w subscripts)) (λ zs. Ok (y.0 ∷ zs)) zs y.2 in
      let p = and_parts ((g e).fits && _) (subscripted t element (map g subscripts)).fits fits in
      ap (λ ys. led_to t ys (Some (Array index element))) (sym (same_Ok (y.0 ∷ u.0) zs u.2))
      ∙ led_first t index element y.0 u.0 (subst (λ z. is_value_of (t.type_at index) z ≡ true) ranged.1 ranged.0)
      ∙ rest element u.0 p.1 u.1

  pub led_by : (subscripts : List Expr) (n : ℕ) (zs : List ℤ) → (subscripted t n (map g subscripts)).fits ≡ true → subscript_values t n (map w subscripts) ≡ Ok zs → led_to t zs (t.type_at n) ≡ t.type_at (subscripted t n (map g subscripts)).of_type
  led_by [] n zs fits h = ap (λ ys. led_to t ys (t.type_at n)) (sym (same_Ok [] zs h))
  led_by (e ∷ subscripts) n zs fits h = led_element n e subscripts (t.type_at n) refl (led_by subscripts) fits zs h

-- ---- what is denoted

pub some_found : {A : Type 0} (o : Option A) → is_some o ≡ true → (x : A) × (o ≡ Some x)
some_found (Some x) h = (x, refl)
some_found None h = absurd (true≢false (sym h))

pub var_type_is : (t : Tables) (v : ℕ) (x : VarDef) → t.var_at v ≡ Some x → var_type t v ≡ x.of_type
var_type_is t v x h = ap (λ o. unwrap_or (option_map (λ (d : VarDef). d.of_type) o) 0) h

-- a whole variable of an activation, which is no variable parameter
pub whole_denotes : (c : Chart) → TablesFit c.tables c.main → (stack : Stack) (d v : ℕ) (x : VarDef) → c.tables.var_at v ≡ Some x → IsOf stack d x.routine → is_kind kind.Var x.kind ≡ false → Denotes c stack (whole d v) (type_of_variable c.tables v)
whole_denotes c fits stack d v x known of stored =
    let y = some_found (c.tables.type_at x.of_type) (fits.typed v x known) in
    record {
      exists = record {
        frame = of.frame;
        variable = x;
        of_type = y.0;
        activation = of.activation;
        known = known;
        own = sym of.routine;
        stored = stored;
        typed = ap c.tables.type_at (var_type_is c.tables v x known) ∙ y.1;
      };
      typed = refl;
    }

module _ (c : Chart) (fits : TablesFit c.tables c.main) (stack : Stack) (is : IsStack c stack) where
  -- the place of a variable of the activation at a depth
  own_denotes : (d v : ℕ) (x : VarDef) (k : VarKind) → x.kind ≡ k → c.tables.var_at v ≡ Some x → IsOf stack d x.routine → (p : Place) × (own_place stack v d k ≡ Some p) × Denotes c stack p (type_of_variable c.tables v)
  own_denotes d v x kind.Var e known of =
      let own : is_own c.tables of.frame.routine kind.Var v ≡ true =
      ap (holds_of (λ (y : VarDef). nat_eq y.routine of.frame.routine && is_kind kind.Var y.kind)) known
      ∙ and_from _ _ (eq-eqb x.routine of.frame.routine (sym of.routine)) (ap (is_kind kind.Var) e) in
      let b = bound_in c fits stack is d of.frame of.activation v own in
      (b.place, ap (option_and_then (λ (f : Frame). bound_to v f.bindings)) of.activation ∙ b.known, record { exists = b.exists; typed = b.typed })
  own_denotes d v x kind.Local e known of = (whole d v, refl, whole_denotes c fits stack d v x known of (ap (is_kind kind.Var) e))
  own_denotes d v x kind.Value e known of = (whole d v, refl, whole_denotes c fits stack d v x known of (ap (is_kind kind.Var) e))
  own_denotes d v x kind.Result e known of = (whole d v, refl, whole_denotes c fits stack d v x known of (ap (is_kind kind.Var) e))
  own_denotes d v x kind.Slot e known of = (whole d v, refl, whole_denotes c fits stack d v x known of (ap (is_kind kind.Var) e))
  own_denotes d v x kind.Bound e known of = (whole d v, refl, whole_denotes c fits stack d v x known of (ap (is_kind kind.Var) e))

  -- a routine that is around that of an activation is found from it
  pub around_seen : (d r s : ℕ) → IsOf stack d r → is_around c.tables r s ≡ true → IsFound stack d s
  around_seen d r s of h =
      let x = holds_found (λ (h : Head). leads_within h.level c.tables r s) (c.tables.head_at r) h in
      around_found c fits stack is d of.frame of.activation (x.0).level s (subst (λ q. leads_within (x.0).level c.tables q s ≡ true) (sym of.routine) x.2)

  -- a variable that the activation at a depth sees denotes something
  pub seen_denotes : (d r v : ℕ) → IsOf stack d r → is_visible c.tables r v ≡ true → Denotes c stack (place_of c.tables stack d v) (type_of_variable c.tables v)
  seen_denotes d r v of h =
      let x = holds_found (λ (y : VarDef). is_around c.tables r y.routine) (c.tables.var_at v) h in
      let y = around_seen d r (x.0).routine of x.2 in
      let z = own_denotes y.depth v x.0 (x.0).kind refl x.1 y.is_of in
      let seen : seen_place c.tables stack d v ≡ Some (z.0) =
      ap (option_and_then (λ (q : VarDef). option_and_then (λ e. own_place stack v e q.kind) (around stack d q.routine))) x.1
      ∙ ap (option_and_then (λ e. own_place stack v e (x.0).kind)) y.found
      ∙ z.1 in
      subst (λ p. Denotes c stack p (type_of_variable c.tables v)) (sym (ap (λ o. unwrap_or o (whole d v)) seen)) z.2

  -- what an access denotes, where its evaluation is no error
  part_denotes : (p : Place) (v : ℕ) (zs : List ℤ) (n : ℕ) (d : TypeDef) → Denotes c stack p (type_of_variable c.tables v) → led_to c.tables zs (type_of_variable c.tables v) ≡ c.tables.type_at n → c.tables.type_at n ≡ Some d → Denotes c stack (part p zs) (c.tables.type_at n)
  part_denotes p v zs n d x led known =
      let typed : type_of_place c.tables (part p zs) ≡ c.tables.type_at n =
      led_on c.tables p.subscripts zs (type_of_variable c.tables p.var) ∙ ap (led_to c.tables zs) x.typed ∙ led in
      record {
        exists = record {
          frame = x.exists.frame;
          variable = x.exists.variable;
          of_type = d;
          activation = x.exists.activation;
          known = x.exists.known;
          own = x.exists.own;
          stored = x.exists.stored;
          typed = typed ∙ known;
        };
        typed = typed;
      }

-- ---- accesses, by what they are

pub spot_is : (v : View) (a : Access) → spot v a ≡ then_with (subscript_values v.tables (var_type v.tables (out-Access a).var) (map (valued v) (out-Access a).subscripts)) (λ zs. Ok (record { place = part (v.place (out-Access a).var) zs; at = (out-Access a).at }))
spot_is v a = fold_out-Access (Unit {0}) (Answer ℤ) (Answer Spot) Valued (λ a. tt) (form_step v) (access_step v) expr_step a

pub reached_is : (t : Tables) (a : Access) → reached t a ≡ access_from t (map (hosted t) (out-Access a).subscripts) (t.var_at (out-Access a).var)
reached_is t a = fold_out-Access Passed Hosted Reached Hosted actual_type_step (form_type_step t) (access_type_step t) expr_type_step a

pub each_access_is : (q : Rule) (a : Access) → each_access q a ≡ (q.variable (out-Access a).var && all_true (map (each_expr q) (out-Access a).subscripts))
each_access_is q a = fold_out-Access Bool Bool Bool Bool Each.actual_step (Each.form_step q) (Each.access_step q) Each.expr_step a

-- the types of an access fit: it has a variable, and subscripts that lead somewhere
pub from_variable : (t : Tables) (subscripts : List Hosted) (o : Option VarDef) → (access_from t subscripts o).fits ≡ true → (x : VarDef) × (o ≡ Some x) × ((subscripted t x.of_type subscripts).fits ≡ true)
from_variable t subscripts (Some x) h = (x, refl, h)
from_variable t subscripts None h = absurd (true≢false (sym h))

-- ---- in a valid state

module _ (c : Chart) (fits : TablesFit c.tables c.main) (s : State) (is : IsStack c s.stack) (r : ℕ) (here : IsOf s.stack (top_depth s.stack) r) where
  -- a variable that the latest activation sees
  pub variable_denotes : (v : ℕ) → is_visible c.tables r v ≡ true → Denotes c s.stack ((view c s).place v) (type_of_variable c.tables v)
  variable_denotes v h = seen_denotes c fits s.stack is (top_depth s.stack) r v here h

  -- A variable of the latest activation, or of one around it, or a part of one, that an access names. Its type is one that there is.
  pub spot_denotes : (a : Access) (p : Spot) (d : TypeDef) → each_access (scope_rule c.tables r) a ≡ true → (reached c.tables a).fits ≡ true → c.tables.type_at (reached c.tables a).of_type ≡ Some d → spot (view c s) a ≡ Ok p → Denotes c s.stack p.place (c.tables.type_at (reached c.tables a).of_type)
  spot_denotes a p d scope types known h =
      let x = out-Access a in
      let t = c.tables in
      let seen = and_parts (is_visible t r x.var) _ (sym (each_access_is (scope_rule t r) a) ∙ scope) in
      let way = from_variable t (map (hosted t) x.subscripts) (t.var_at x.var) (ap (λ (y : Reached). y.fits) (sym (reached_is t a)) ∙ types) in
      let reach : (reached t a).of_type ≡ (subscripted t (way.0).of_type (map (hosted t) x.subscripts)).of_type =
      ap (λ (y : Reached). y.of_type) (reached_is t a ∙ ap (access_from t (map (hosted t) x.subscripts)) way.1) in
      let own = var_type_is t x.var way.0 way.1 in
      let y = then_ok (subscript_values t (var_type t x.var) (map (valued (view c s)) x.subscripts)) _ p (sym (spot_is (view c s) a) ∙ h) in
      let led : led_to t y.0 (type_of_variable t x.var) ≡ t.type_at (reached t a).of_type =
      led_by t (hosted t) (valued (view c s)) x.subscripts (var_type t x.var) y.0 (subst (λ n. (subscripted t n (map (hosted t) x.subscripts)).fits ≡ true) (sym own) way.2) y.1
      ∙ ap (λ n. t.type_at (subscripted t n (map (hosted t) x.subscripts)).of_type) own
      ∙ ap t.type_at (sym reach) in
      subst (λ (q : Spot). Denotes c s.stack q.place (t.type_at (reached t a).of_type)) (same_Ok _ p y.2)
      (part_denotes c fits s.stack is ((view c s).place x.var) x.var y.0 (reached t a).of_type d (variable_denotes x.var seen.0) led known)

-- ---- types that there are

module _ (t : Tables) (main : ℕ) (fits : TablesFit t main) where
  element_typed : (s : Hosted) (subscripts : List Hosted) (n : ℕ) (o : Option TypeDef) → t.type_at n ≡ o
      → ((m : ℕ) → is_some (t.type_at m) ≡ true → (subscripted t m subscripts).fits ≡ true → is_some (t.type_at (subscripted t m subscripts).of_type) ≡ true)
      → (element_of t s (λ m. subscripted t m subscripts) o).fits ≡ true → is_some (t.type_at (element_of t s (λ m. subscripted t m subscripts) o).of_type) ≡ true
  element_typed s subscripts n None is rest h = absurd (true≢false (sym h))
  element_typed s subscripts n (Some (Scalar boolean lo hi)) is rest h = absurd (true≢false (sym h))
  element_typed s subscripts n (Some (Array index element)) is rest h = rest element (fits.elements n index element is) (and_parts _ (subscripted t element subscripts).fits h).1

  subscripted_typed : (subscripts : List Hosted) (n : ℕ) → is_some (t.type_at n) ≡ true → (subscripted t n subscripts).fits ≡ true → is_some (t.type_at (subscripted t n subscripts).of_type) ≡ true
  subscripted_typed [] n there h = there
  subscripted_typed (s ∷ subscripts) n there h = element_typed s subscripts n (t.type_at n) refl (subscripted_typed subscripts) h

  -- the type of an access whose types fit
  pub access_typed : (a : Access) → (reached t a).fits ≡ true → (d : TypeDef) × (t.type_at (reached t a).of_type ≡ Some d)
  access_typed a h =
      let x = out-Access a in
      let is = reached_is t a in
      let way = from_variable t (map (hosted t) x.subscripts) (t.var_at x.var) (ap (λ (y : Reached). y.fits) (sym is) ∙ h) in
      some_found (t.type_at (reached t a).of_type)
      (ap (λ (y : Reached). is_some (t.type_at y.of_type)) (is ∙ ap (access_from t (map (hosted t) x.subscripts)) way.1)
      ∙ subscripted_typed (map (hosted t) x.subscripts) (way.0).of_type (fits.typed x.var way.0 way.1) way.2)
