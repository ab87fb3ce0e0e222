-- The places of expressions rise that are built of a tree whose starts rise.
use Rattle.std.proofs.Common.{◌≡◌, ℕ, ℤ, ◌+◌, ◌≤◌, Bool, true, false, cond, List, [], ◌∷◌, ◌++◌, length, map, nat_le, Option, Some, None, Result, Ok, Err, arith, refl, sym, ap, subst}
use Rattle.std.proofs.lemmas.Bool.{le-leb}
use Rattle.px_base.specs.declared.operator.BinOp.{BinOp}
use Rattle.px_base.specs.declared.operator.UnOp.{UnOp}
use Rattle.px_base.specs.declared.place.Span.{Span}
use Rattle.pas_program.specs.declared.expr.Access as built_access
use Rattle.pas_program.specs.declared.expr.Actual as built_actual
use Rattle.pas_program.specs.declared.expr.Actual.TheVariants as passed_as
use Rattle.pas_program.specs.declared.expr.Actual.TheFolds as built_folds
use Rattle.pas_program.specs.declared.expr.Actual.TheOpen as built_open
use Rattle.pas_program.specs.declared.expr.Actual.TheViews as built_views
use Rattle.pas_program.specs.declared.expr.Expr as built_expr
use Rattle.pas_program.specs.declared.expr.ExprForm.{ExprForm}
use Rattle.pas_program.specs.declared.expr.ExprForm.TheVariants as form
use Rattle.pas_program.specs.declared.variable.VarKind.TheVariants as kind
use Rattle.pas_program.specs.Rising.{Part, access_part, actual_part, expr_part, form_part, in_turn, token}
use Rattle.pas_program.specs.Rising as rising
use Rattle.pas_tree.specs.declared.constant.Sign.{Sign}
use Rattle.pas_tree.specs.declared.constant.Sign.TheVariants as sign
use Rattle.pas_tree.specs.declared.expr.Access.{Access}
use Rattle.pas_tree.specs.declared.expr.Actual.{Actual}
use Rattle.pas_tree.specs.declared.expr.ActualValue.{ActualValue}
use Rattle.pas_tree.specs.declared.expr.ActualValue.TheOpen.{ActualValue-F, Expr-F, Access-F, Actual-F}
use Rattle.pas_tree.specs.declared.expr.ActualValue.TheFolds.{fold-roll-ActualValue, fold-roll-Expr, fold-roll-Access, fold-roll-Actual, ind-Expr, ind-Actual, map-ActualValue, map-Expr, map-Access, map-Actual}
use Rattle.pas_tree.specs.declared.expr.ActualValue.TheViews.{roll-ActualValue, roll-Expr, roll-Access, roll-Actual}
use Rattle.pas_tree.specs.declared.expr.Expr.{Expr}
use Rattle.pas_tree.specs.Order.{Starts, access_starts, actual_starts, expr_starts, if_some, joined, value_starts}
use Rattle.pas_tree.specs.Order as order
use Rattle.pas_check.specs.declared.access.Reached.{Reached}
use Rattle.pas_check.specs.declared.actual.Formal.{Formal}
use Rattle.pas_check.specs.declared.built.Built.{Built}
use Rattle.pas_check.specs.declared.expr.Typed.{Typed}
use Rattle.pas_check.specs.declared.expr.Typed.TheVariants as typed
use Rattle.pas_check.specs.declared.meaning.Meaning.{Meaning}
use Rattle.pas_check.specs.declared.meaning.Meaning.TheVariants as means
use Rattle.pas_check.specs.declared.meaning.Required.{Required}
use Rattle.pas_check.specs.declared.meaning.Variable.{Variable}
use Rattle.pas_check.specs.Built.{Builds, allowed, with_own}
use Rattle.pas_check.specs.Constant.{number}
use Rattle.pas_check.specs.Expr.{Call, callee_at, first_of, formals_at, gives_truth, is_host, meant, others, variable_named}
use Rattle.pas_check.specs.Forms.{Form, GivenForm, access_by, access_form, access_of, access_step, actual_step, actual_value_form, all_passed_form, alone, alone_form, alone_meant, as_scalar, begun_at, binary_form, call_form, called_form, expr_form, expr_step, expression_form, function_form, given_form, named_by_form, named_form, operand_form, or_call_form, passed_by_value_form, passed_by_var_form, passed_form, reached_form, required_form, required_of_form, required_operator, scalar_form, scalar_of, signed_form, subscripts_form, value_by, value_made, value_passed, value_step, variable_in}
use Rattle.pas_check.specs.Sight.{Sight, host_at, parts_at}
use Rattle.pas_check.proofs.PlacesKept.{If, next, whatever}
use Rattle.pas_check.proofs.RisesKept.{Between, Fits, Grows, Safe, With, both_fit, ends_if, fits_before, fits_behind, fits_same, least_in_bound, nothing_fits, token_fits}

-- ---- one level of what is built

abbrev FormFits : Starts → ExprForm → Type 0
FormFits ns f = Fits ns (form_part f)

abbrev pub AccessFits : Starts → built_access.Access → Type 0
AccessFits ns a = Fits ns (access_part a)

abbrev pub ActualFits : Starts → built_actual.Actual → Type 0
ActualFits ns a = Fits ns (actual_part a)

form_is : (ns : Starts) (d : built_open.ExprForm-F built_actual.Actual ExprForm built_access.Access built_expr.Expr)
    → Fits ns (rising.form_step (built_folds.map-ExprForm built_actual.Actual ExprForm built_access.Access built_expr.Expr Part Part Part Part actual_part form_part access_part expr_part d)) → FormFits ns (built_views.roll-ExprForm d)
form_is ns d h = subst (Fits ns) (sym (built_folds.fold-roll-ExprForm Part Part Part Part rising.actual_step rising.form_step rising.access_step rising.expr_step d)) h

const_fits : (n : ℕ) (ns : Starts) (boolean : Bool) (value : ℤ) → FormFits (n ∷ ns) (form.Const boolean value)
const_fits n ns boolean value =
    subst (FormFits (n ∷ ns)) (form.rolls-Const boolean value) (form_is (n ∷ ns) (built_open.ExprForm-F.Const boolean value)
    (record { ends = λ least bound r. omega (arith, r.0, least_in_bound (n + 1) ns bound r.1) }))

value_fits : (ns : Starts) (a : built_access.Access) → AccessFits ns a → FormFits ns (form.Value a)
value_fits ns a h = subst (FormFits ns) (form.rolls-Value a) (form_is ns (built_open.ExprForm-F.«ExprForm::Value» a) h)

unary_fits : (ns : Starts) (o : UnOp) (e : built_expr.Expr) (at : ℕ) → Fits ns (expr_part e) → FormFits (at ∷ ns) (form.Unary o e at)
unary_fits ns o e at h = subst (FormFits (at ∷ ns)) (form.rolls-Unary o e at) (form_is (at ∷ ns) (built_open.ExprForm-F.Unary o e at) (both_fit (at ∷ []) ns (token at) (expr_part e) (token_fits at []) h))

binary_fits : (xs ys : Starts) (o : BinOp) (l r : built_expr.Expr) (at : ℕ) → Fits xs (expr_part l) → Fits ys (expr_part r) → FormFits (xs ++ at ∷ ys) (form.Binary o l r at)
binary_fits xs ys o l r at h k =
    subst (FormFits (xs ++ at ∷ ys)) (form.rolls-Binary o l r at) (form_is (xs ++ at ∷ ys) (built_open.ExprForm-F.Binary o l r at)
    (both_fit xs (at ∷ ys) (expr_part l) (rising.before (token at) (expr_part r)) h (both_fit (at ∷ []) ys (token at) (expr_part r) (token_fits at []) k)))

call_fits : (ns : Starts) (routine : ℕ) (actuals : List built_actual.Actual) (slot at : ℕ) → Fits ns (in_turn (map actual_part actuals)) → FormFits (at ∷ ns) (form.Call routine actuals slot at)
call_fits ns routine actuals slot at h =
    subst (FormFits (at ∷ ns)) (form.rolls-Call routine actuals slot at) (form_is (at ∷ ns) (built_open.ExprForm-F.Call routine actuals slot at)
    (both_fit (at ∷ []) ns (token at) (in_turn (map actual_part actuals)) (token_fits at []) h))

access_of_fits : (ns : Starts) (x : Variable) (subscripts : List built_expr.Expr) (at : ℕ) → Fits ns (in_turn (map expr_part subscripts)) → AccessFits (at ∷ ns) (access_of x subscripts at)
access_of_fits ns x subscripts at h =
    subst (Fits (at ∷ ns)) (sym (built_folds.fold-roll-Access Part Part Part Part rising.actual_step rising.form_step rising.access_step rising.expr_step (record { var = x.number; subscripts = subscripts; at = at })))
    (both_fit (at ∷ []) ns (token at) (in_turn (map expr_part subscripts)) (token_fits at []) h)

passed_is : (ns : Starts) (d : built_open.Actual-F built_actual.Actual ExprForm built_access.Access built_expr.Expr)
    → Fits ns (rising.actual_step (built_folds.map-Actual built_actual.Actual ExprForm built_access.Access built_expr.Expr Part Part Part Part actual_part form_part access_part expr_part d)) → ActualFits ns (built_views.roll-Actual d)
passed_is ns d h = subst (Fits ns) (sym (built_folds.fold-roll-Actual Part Part Part Part rising.actual_step rising.form_step rising.access_step rising.expr_step d)) h

by_value_fits : (ns : Starts) (e : built_expr.Expr) → Fits ns (expr_part e) → ActualFits ns (passed_as.Value e)
by_value_fits ns e h = subst (ActualFits ns) (passed_as.rolls-Value e) (passed_is ns (built_open.Actual-F.«Actual::Value» e) h)

whole_fits : (ns : Starts) (a : built_access.Access) → AccessFits ns a → ActualFits ns (passed_as.Whole a)
whole_fits ns a h = subst (ActualFits ns) (passed_as.rolls-Whole a) (passed_is ns (built_open.Actual-F.Whole a) h)

by_var_fits : (ns : Starts) (a : built_access.Access) → AccessFits ns a → ActualFits ns (passed_as.Var a)
by_var_fits ns a h = subst (ActualFits ns) (passed_as.rolls-Var a) (passed_is ns (built_open.Actual-F.Var a) h)

-- ---- what rises

-- the first start is that of the first token
pub record FromFirst (ns : Starts) (first : ℕ) (f : ExprForm) : Type 0 where
  pub behind : Starts
  pub is : ns ≡ first ∷ behind
  pub form : FormFits ns f

abbrev pub ExprRises : Starts → built_expr.Expr → Type 0
ExprRises ns e = FromFirst ns (built_views.out-Expr e).first (built_views.out-Expr e).form

abbrev pub TypedRises : Starts → Typed → Type 0
TypedRises ns (typed.Scalar e boolean) = ExprRises ns e
TypedRises ns (typed.Array a t) = AccessFits ns a

pub record AccessRises (ns : Starts) (a : built_access.Access) : Type 0 where
  pub behind : Starts
  pub is : ns ≡ (built_views.out-Access a).at ∷ behind
  pub fits : AccessFits ns a

abbrev pub ReachedRises : Starts → Reached → Type 0
ReachedRises ns r = AccessRises ns r.access

-- with its host
abbrev pub HostedRises : Starts → built_expr.Expr × Bool → Type 0
HostedRises ns x = ExprRises ns x.0

-- subscripts, with the type that they lead to
abbrev SubscriptsRise : Starts → List built_expr.Expr × ℕ → Type 0
SubscriptsRise ns xs = Fits ns (in_turn (map expr_part xs.0))

abbrev pub ActualsRise : Starts → List built_actual.Actual → Type 0
ActualsRise ns xs = Fits ns (in_turn (map actual_part xs))

-- ---- values

scalar_rises : (n : ℕ) (ns : Starts) (f : ExprForm) (boolean : Bool) → FormFits (n ∷ ns) f → TypedRises (n ∷ ns) (scalar_of n f boolean)
scalar_rises n ns f boolean h =
    subst (λ (d : built_open.Expr-F built_actual.Actual ExprForm built_access.Access built_expr.Expr). FromFirst (n ∷ ns) d.first d.form) (sym (built_views.out-roll-Expr (record { first = n; form = f })))
    (record { behind = ns; is = refl; form = h })

-- from its first token on
from_first : (ns : Starts) (first : ℕ) (f : ExprForm) → FromFirst ns first f → (least bound : ℕ) → Between least ns bound → (least ≤ first) × (first + 1 ≤ bound) × Between first ns bound
from_first ns first f h least bound r =
    let k : Between least (first ∷ h.behind) bound = subst (λ xs. Between least xs bound) h.is r in
    let e : first ≤ first = omega arith in
    (k.0, least_in_bound (first + 1) h.behind bound k.1, subst (λ xs. Between first xs bound) (sym h.is) (e, k.1))

pub first_fits : (ns : Starts) (e : built_expr.Expr) → ExprRises ns e → Fits ns (token (built_views.out-Expr e).first)
first_fits ns e h = fits_same ns ((built_views.out-Expr e).first ∷ h.behind) (token (built_views.out-Expr e).first) h.is (token_fits (built_views.out-Expr e).first h.behind)

pub expr_fits : (ns : Starts) (e : built_expr.Expr) → ExprRises ns e → Fits ns (expr_part e)
expr_fits ns e h =
    let first = (built_views.out-Expr e).first in
    let f = (built_views.out-Expr e).form in
    subst (Fits ns) (sym (built_folds.fold_out-Expr Part Part Part Part rising.actual_step rising.form_step rising.access_step rising.expr_step e))
    (record {
      ends = λ least bound r.
          let k = from_first ns first f h least bound r in
          ends_if (nat_le least first) (form_part f first) bound (le-leb least first k.0) (h.form.ends first bound k.2);
    })

scalar_parts : (ns : Starts) (t : Typed) → TypedRises ns t → If (as_scalar t) (HostedRises ns)
scalar_parts ns (typed.Scalar e boolean) h = h
scalar_parts ns (typed.Array a t) h = tt

begun_rises : (n : ℕ) (ns : Starts) (t : Typed) → TypedRises ns t → TypedRises (n ∷ ns) (begun_at n t)
begun_rises n ns (typed.Scalar e boolean) h = scalar_rises n ns (built_views.out-Expr e).form boolean (fits_behind n ns (form_part (built_views.out-Expr e).form) h.form)
begun_rises n ns (typed.Array a t) h = fits_behind n ns (access_part a) h

signed_rises : (s : Sign) (e : built_expr.Expr) (at : ℕ) (ns : Starts) → ExprRises ns e → TypedRises (at ∷ ns) (signed_form s e at)
signed_rises sign.Minus e at ns h = scalar_rises at ns _ false (unary_fits ns _ e at (expr_fits ns e h))
signed_rises sign.Plus e at ns h = scalar_rises at ns _ false (fits_behind at ns (form_part (built_views.out-Expr e).form) h.form)

binary_rises : (o : BinOp) (l r : built_expr.Expr) (at : ℕ) (xs ys : Starts) → ExprRises xs l → ExprRises ys r → TypedRises (xs ++ at ∷ ys) (binary_form o l r at)
binary_rises o l r at xs ys h k =
    let first = (built_views.out-Expr l).first in
    let e : xs ++ at ∷ ys ≡ first ∷ (h.behind ++ at ∷ ys) = ap (λ (ns : Starts). ns ++ at ∷ ys) h.is in
    subst (λ (ns : Starts). TypedRises ns (binary_form o l r at)) (sym e)
    (scalar_rises first (h.behind ++ at ∷ ys) (form.Binary o l r at) (gives_truth o)
    (subst (λ (ns : Starts). FormFits ns (form.Binary o l r at)) e (binary_fits xs ys o l r at (expr_fits xs l h) (expr_fits ys r k))))

-- ---- variables

value_by_rises : (o : Option Bool) (a : built_access.Access) (t : ℕ) (ns : Starts) → AccessRises ns a → TypedRises ns (value_by o a t)
value_by_rises (Some boolean) a t ns h =
    let at = (built_views.out-Access a).at in
    subst (λ (xs : Starts). TypedRises xs (scalar_of at (form.Value a) boolean)) (sym h.is)
    (scalar_rises at h.behind (form.Value a) boolean (subst (λ (xs : Starts). FormFits xs (form.Value a)) h.is (value_fits ns a h.fits)))
value_by_rises None a t ns h = h.fits

made_rises : (v : Sight) (r : Reached) (ns : Starts) → ReachedRises ns r → TypedRises ns (value_made v r)
unfolding value_made
made_rises v r ns h = value_by_rises (host_at v r.of_type) r.access r.of_type ns h

access_rises : (x : Variable) (subscripts : List built_expr.Expr) (at : ℕ) (ns : Starts) → Fits ns (in_turn (map expr_part subscripts)) → AccessRises (at ∷ ns) (access_of x subscripts at)
access_rises x subscripts at ns h = record {
  behind = ns;
  is = ap (λ (n : ℕ). n ∷ ns) (sym (ap (λ (d : built_open.Access-F built_actual.Actual ExprForm built_access.Access built_expr.Expr). d.at) (built_views.out-roll-Access (record { var = x.number; subscripts = subscripts; at = at }))));
  fits = access_of_fits ns x subscripts at h;
}

pub some_fits : (ns : Starts) → Fits ns (λ least. Some least)
some_fits ns = fits_before [] ns (λ least. Some least) nothing_fits

alone_rises : (x : Variable) (at : ℕ) (ns : Starts) → ReachedRises (at ∷ ns) (alone x at)
alone_rises x at ns = access_rises x [] at ns (some_fits ns)

value_passed_fits : (ns : Starts) (t : Typed) → TypedRises ns t → ActualFits ns (value_passed t)
value_passed_fits ns (typed.Scalar e boolean) h = by_value_fits ns e (expr_fits ns e h)
value_passed_fits ns (typed.Array a t) h = whole_fits ns a h

-- with starts behind its own
typed_before : (xs ys : Starts) (t : Typed) → TypedRises xs t → TypedRises (xs ++ ys) t
typed_before xs ys (typed.Scalar e boolean) h = record {
  behind = h.behind ++ ys;
  is = ap (λ (ns : Starts). ns ++ ys) h.is;
  form = fits_before xs ys (form_part (built_views.out-Expr e).form) h.form;
}
typed_before xs ys (typed.Array a t) h = fits_before xs ys (access_part a) h

-- each at its own starts, one after the other
abbrev pub InTurn : {A : Type 0} → (Starts → A → Type 0) → Starts → List A → Type 0
InTurn R ns [] = Unit {0}
InTurn R ns (x ∷ xs) = (first : Starts) × (second : Starts) × (ns ≡ first ++ second) × R first x × InTurn R second xs

module _ (base : Built) where
  pub record FormRises (ns : Starts) (f : Form) : Type 0 where
    pub value : Safe base (TypedRises ns) f.value
    pub variable : Safe base (ReachedRises ns) f.variable

  abbrev pub ValueRises : Starts → Result Form Span → Type 0
  ValueRises ns (Ok f) = FormRises ns f
  ValueRises ns (Err span) = Unit {0}

  pub record GivenRises (ns : Starts) (g : GivenForm) : Type 0 where
    pub first : Starts
    pub second : Starts
    pub is : ns ≡ first ++ second
    pub value : ValueRises first g.value
    pub width : If g.width (FormRises second)

  -- a part with what is built after it
  abbrev pub After : {A : Type 0} → (A → Type 0) → A × Built → Type 0
  After P r = P r.0 × Grows base r.1

  pub scalar_kept : (ns : Starts) (e : Form) → FormRises ns e → Safe base (HostedRises ns) (scalar_form e)
  unfolding scalar_form
  scalar_kept ns e h b l =
      next (e.value b) _ (After (TypedRises ns)) (After (HostedRises ns)) (h.value b l)
      (λ t p. next (as_scalar t.0) _ (HostedRises ns) (After (HostedRises ns)) (scalar_parts ns t.0 p.0) (λ s q. (q, p.1)))

  pub operand_kept : (ns : Starts) (e : Form) → FormRises ns e → Safe base (ExprRises ns) (operand_form e)
  unfolding operand_form
  operand_kept ns e h b l = next (scalar_form e b) _ (After (HostedRises ns)) (After (ExprRises ns)) (scalar_kept ns e h b l) (λ x p. (p.0, p.1))

  -- ---- variables

  subscripts_kept : (v : Sight) (t : ℕ) (ns : Starts) (fs : List Form) → InTurn FormRises ns fs → Safe base (SubscriptsRise ns) (subscripts_form v t fs)
  subscripts_kept v t ns [] h b l = (some_fits ns, l)
  subscripts_kept v t ns (s ∷ rest) h b l =
      whatever (parts_at v t) _ (After (SubscriptsRise ns)) (λ parts.
      next (operand_form s b) _ (After (ExprRises h.0)) (After (SubscriptsRise ns)) (operand_kept h.0 s h.3 b l) (λ x p.
      next (subscripts_form v parts.1 rest x.1) _ (After (SubscriptsRise h.1)) (After (SubscriptsRise ns)) (subscripts_kept v parts.1 h.1 rest h.4 x.1 p.1) (λ more q.
      (fits_same ns (h.0 ++ h.1) (in_turn (map expr_part (x.0 ∷ more.0.0))) h.2 (both_fit h.0 h.1 (expr_part x.0) (in_turn (map expr_part more.0.0)) (expr_fits h.0 x.0 p.0) q.0), q.1))))

  pub reached_kept : (v : Sight) (x : Variable) (at : ℕ) (ns : Starts) (fs : List Form) → InTurn FormRises ns fs → Safe base (ReachedRises (at ∷ ns)) (reached_form v x at fs)
  unfolding reached_form
  reached_kept v x at ns fs h b l =
      next (subscripts_form v x.of_type fs b) _ (After (SubscriptsRise ns)) (After (ReachedRises (at ∷ ns))) (subscripts_kept v x.of_type ns fs h b l)
      (λ led p. (access_rises x led.0.0 at ns p.0, p.1))

  access_kept : (v : Sight) (name : Span) (ns : Starts) (fs : List Form) → InTurn FormRises ns fs → Safe base (ReachedRises (name.start ∷ ns)) (access_by v name fs)
  unfolding access_by
  access_kept v name ns fs h b l =
      whatever (allowed (variable_named v name)) _ (After (ReachedRises (name.start ∷ ns))) (λ x. reached_kept v x name.start ns fs h b l)

  -- ---- actuals

  pub given_expression : (ns : Starts) (value : Result Form Span) → ValueRises ns value → If (expression_form value) (FormRises ns)
  given_expression ns (Ok f) h = h
  given_expression ns (Err span) h = tt

  by_value_kept : (ns : Starts) (e : Form) → FormRises ns e → Safe base (ActualFits ns) (passed_by_value_form e)
  unfolding passed_by_value_form
  by_value_kept ns e h b l = next (e.value b) _ (After (TypedRises ns)) (After (ActualFits ns)) (h.value b l) (λ t p. (value_passed_fits ns t.0 p.0, p.1))

  by_var_kept : (ns : Starts) (e : Form) → FormRises ns e → Safe base (ActualFits ns) (passed_by_var_form e)
  unfolding passed_by_var_form
  by_var_kept ns e h b l = next (e.variable b) _ (After (ReachedRises ns)) (After (ActualFits ns)) (h.variable b l) (λ r p. (by_var_fits ns r.0.access p.0.fits, p.1))

  passed_by : (by_var : Bool) (ns : Starts) (e : Form) → FormRises ns e → (b : Built) → Grows base b → If (cond by_var (passed_by_var_form e b) (passed_by_value_form e b)) (After (ActualFits ns))
  passed_by true ns e h b l = by_var_kept ns e h b l
  passed_by false ns e h b l = by_value_kept ns e h b l

  wider_by : (xs ys : Starts) (o : Option (built_actual.Actual × Built)) → If o (After (ActualFits xs)) → If o (After (ActualFits (xs ++ ys)))
  wider_by xs ys None h = tt
  wider_by xs ys (Some a) h = (fits_before xs ys (actual_part a.0) h.0, h.1)

  passed_kept : (formal : Option Formal) (ns : Starts) (a : GivenForm) → GivenRises ns a → Safe base (ActualFits ns) (passed_form formal a)
  unfolding passed_form
  passed_kept formal ns a h b l =
      next (expression_form a.value) _ (FormRises h.first) (After (ActualFits ns)) (given_expression h.first a.value h.value) (λ e k.
      whatever formal _ (After (ActualFits ns)) (λ f.
      subst (λ (xs : Starts). If (cond f.by_var (passed_by_var_form e b) (passed_by_value_form e b)) (After (ActualFits xs))) (sym h.is)
      (wider_by h.first h.second (cond f.by_var (passed_by_var_form e b) (passed_by_value_form e b)) (passed_by f.by_var h.first e k b l))))

  pub all_passed_kept : (formals : List Formal) (ns : Starts) (gs : List GivenForm) → InTurn GivenRises ns gs → Safe base (ActualsRise ns) (all_passed_form formals gs)
  all_passed_kept formals ns [] h b l = (some_fits ns, l)
  all_passed_kept formals ns (a ∷ rest) h b l =
      next (passed_form (first_of formals) a b) _ (After (ActualFits h.0)) (After (ActualsRise ns)) (passed_kept (first_of formals) h.0 a h.3 b l) (λ x p.
      next (all_passed_form (others formals) rest x.1) _ (After (ActualsRise h.1)) (After (ActualsRise ns)) (all_passed_kept (others formals) h.1 rest h.4 x.1 p.1) (λ xs q.
      (fits_same ns (h.0 ++ h.1) (in_turn (map actual_part (x.0 ∷ xs.0))) h.2 (both_fit h.0 h.1 (actual_part x.0) (in_turn (map actual_part xs.0)) p.0 q.0), q.1)))

  -- ---- calls

  slot_kept : (name : Span) (t : ℕ) (b : Built) → Grows base b → Grows base (with_own name kind.Slot t b)
  slot_kept name t b l = record { asserts = l.asserts; routines = l.routines }

  called_kept : (v : Sight) (c : Call) (formals : List Formal) (name : Span) (ns : Starts) (gs : List GivenForm) → InTurn GivenRises ns gs → Safe base (TypedRises (name.start ∷ ns)) (called_form v c formals name gs)
  called_kept v c formals name ns gs h b l =
      next (all_passed_form formals gs (with_own name kind.Slot c.result b)) _ (After (ActualsRise ns)) (After (TypedRises (name.start ∷ ns)))
      (all_passed_kept formals ns gs h (with_own name kind.Slot c.result b) (slot_kept name c.result b l)) (λ xs p.
      (scalar_rises name.start ns (form.Call c.routine xs.0 (length b.vars) name.start) (is_host (host_at v c.result) true) (call_fits ns c.routine xs.0 (length b.vars) name.start p.0), p.1))

  function_kept : (v : Sight) (head : ℕ) (name : Span) (ns : Starts) (gs : List GivenForm) → InTurn GivenRises ns gs → Safe base (TypedRises (name.start ∷ ns)) (function_form v head name gs)
  unfolding function_form
  function_kept v head name ns gs h b l = whatever (callee_at v head) _ (After (TypedRises (name.start ∷ ns))) (λ c. called_kept v c (formals_at v head) name ns gs h b l)

  required_typed : (at : ℕ) (xs ys : Starts) (o : UnOp × Bool) (e : built_expr.Expr) → ExprRises xs e → TypedRises (at ∷ (xs ++ ys)) (scalar_of at (form.Unary o.0 e at) o.1)
  required_typed at xs ys o e h = scalar_rises at (xs ++ ys) (form.Unary o.0 e at) o.1 (unary_fits (xs ++ ys) o.0 e at (fits_before xs ys (expr_part e) (expr_fits xs e h)))

  required_of_kept : (f : Required) (at : ℕ) (ns : Starts) (a : GivenForm) → GivenRises ns a → Safe base (TypedRises (at ∷ ns)) (required_of_form f at a)
  unfolding required_of_form
  required_of_kept f at ns a h b l =
      next (expression_form a.value) _ (FormRises h.first) (After (TypedRises (at ∷ ns))) (given_expression h.first a.value h.value) (λ e k.
      next (scalar_form e b) _ (After (HostedRises h.first)) (After (TypedRises (at ∷ ns))) (scalar_kept h.first e k b l) (λ x p.
      whatever (required_operator f x.0.1) _ (After (TypedRises (at ∷ ns))) (λ o.
      (subst (λ (xs : Starts). TypedRises (at ∷ xs) (scalar_of at (form.Unary o.0 x.0.0 at) o.1)) (sym h.is) (required_typed at h.first h.second o x.0.0 p.0), p.1))))

  wider_typed : (at : ℕ) (xs ys ns : Starts) (o : Option (Typed × Built)) → ns ≡ xs ++ ys → If o (After (TypedRises (at ∷ xs))) → If o (After (TypedRises (at ∷ ns)))
  wider_typed at xs ys ns None e h = tt
  wider_typed at xs ys ns (Some t) e h = (subst (λ (zs : Starts). TypedRises (at ∷ zs) t.0) (sym e) (typed_before (at ∷ xs) ys t.0 h.0), h.1)

  required_kept : (f : Required) (at : ℕ) (ns : Starts) (gs : List GivenForm) → InTurn GivenRises ns gs → Safe base (TypedRises (at ∷ ns)) (required_form f at gs)
  required_kept f at ns [] h b l = tt
  required_kept f at ns (a ∷ []) h b l = wider_typed at h.0 h.1 ns (required_of_form f at a b) h.2 (required_of_kept f at h.0 a h.3 b l)
  required_kept f at ns (a ∷ (c ∷ rest)) h b l = tt

  call_kept : (v : Sight) (m : Meaning) (name : Span) (ns : Starts) (gs : List GivenForm) → InTurn GivenRises ns gs → Safe base (TypedRises (name.start ∷ ns)) (call_form v m name gs)
  unfolding call_form
  call_kept v (means.Routine head true) name ns gs h b l = function_kept v head name ns gs h b l
  call_kept v (means.Required f) name ns gs h b l = required_kept f name.start ns gs h b l
  call_kept v _ name ns gs h b l = tt

  alone_form_rises : (v : Sight) (m : Meaning) (at : ℕ) (ns : Starts) → If (alone_form v m at) (TypedRises (at ∷ ns))
  unfolding alone_form
  alone_form_rises v (means.Constant c) at ns = scalar_rises at ns (form.Const c.boolean c.value) c.boolean (const_fits at ns c.boolean c.value)
  alone_form_rises v (means.Variable x) at ns = made_rises v (alone x at) (at ∷ ns) (alone_rises x at ns)
  alone_form_rises v _ at ns = tt

  or_call_kept : (ns : Starts) (o : Option Typed) (b : Built) (call : Option (Typed × Built)) → If o (TypedRises ns) → Grows base b → If call (After (TypedRises ns)) → If (or_call_form o b call) (After (TypedRises ns))
  or_call_kept ns None b call h l k = k
  or_call_kept ns (Some t) b call h l k = (h, l)

  named_by_kept : (v : Sight) (m : Meaning) (name : Span) (ns : Starts) (gs : List GivenForm) → InTurn GivenRises ns gs → Safe base (TypedRises (name.start ∷ ns)) (named_by_form v m name gs)
  named_by_kept v m name ns [] h b l =
      or_call_kept (name.start ∷ ns) (alone_form v m name.start) b (call_form v m name [] b) (alone_form_rises v m name.start ns) l (call_kept v m name ns [] h b l)
  named_by_kept v m name ns (a ∷ rest) h b l = call_kept v m name ns (a ∷ rest) h b l

  named_kept : (v : Sight) (name : Span) (ns : Starts) (gs : List GivenForm) → InTurn GivenRises ns gs → Safe base (TypedRises (name.start ∷ ns)) (named_form v name gs)
  unfolding named_form
  named_kept v name ns gs h b l = whatever (allowed (meant v name)) _ (After (TypedRises (name.start ∷ ns))) (λ m. named_by_kept v m name ns gs h b l)

  meant_rises : (m : Meaning) (at : ℕ) (ns : Starts) → If (alone_meant m at) (ReachedRises (at ∷ ns))
  meant_rises (means.Variable x) at ns = alone_rises x at ns
  meant_rises _ at ns = tt

  -- ---- the whole

  module _ (v : Sight) where
    abbrev OfValue : ActualValue → Type 0
    OfValue x = ValueRises (value_starts x) (actual_value_form v x)

    abbrev OfExpr : Expr → Type 0
    OfExpr e = FormRises (expr_starts e) (expr_form v e)

    abbrev OfAccess : Access → Type 0
    OfAccess a = Safe base (ReachedRises (access_starts a)) (access_form v a)

    abbrev OfActual : Actual → Type 0
    OfActual a = GivenRises (actual_starts a) (given_form v a)

    exprs_rise : (ys : List (With OfExpr)) → InTurn FormRises (joined (map expr_starts (map (λ (y : With OfExpr). y.0) ys))) (map (expr_form v) (map (λ (y : With OfExpr). y.0) ys))
    exprs_rise [] = tt
    exprs_rise (y ∷ ys) = (expr_starts y.0, joined (map expr_starts (map (λ (y : With OfExpr). y.0) ys)), refl, y.1, exprs_rise ys)

    actuals_rise : (ys : List (With OfActual)) → InTurn GivenRises (joined (map actual_starts (map (λ (y : With OfActual). y.0) ys))) (map (given_form v) (map (λ (y : With OfActual). y.0) ys))
    actuals_rise [] = tt
    actuals_rise (y ∷ ys) = (actual_starts y.0, joined (map actual_starts (map (λ (y : With OfActual). y.0) ys)), refl, y.1, actuals_rise ys)

    -- one form of expression, with what is known of its parts
    name_variable : (name : Span) (ns : Starts) (gs : List GivenForm) (span : Span) → Safe base (ReachedRises (name.start ∷ ns)) (variable_in v (Expr-F.Name name gs span))
    name_variable name ns [] span b l =
        whatever (allowed (meant v name)) _ (After (ReachedRises (name.start ∷ ns))) (λ m. next (alone_meant m name.start) _ (ReachedRises (name.start ∷ ns)) (After (ReachedRises (name.start ∷ ns))) (meant_rises m name.start ns) (λ r p. (p, l)))
    name_variable name ns (a ∷ rest) span b l = tt

    abbrev StepRises : Starts → Expr-F (Result Form Span) Form (Builds Reached) GivenForm → Type 0
    StepRises ns f = FormRises ns (expr_step v f)

    number_step : (value : ℕ) (span : Span) → StepRises (span.start ∷ []) (Expr-F.Number value span)
    number_step value span = record { value = λ b l. (scalar_rises span.start [] (form.Const false (number value)) false (const_fits span.start [] false (number value)), l); variable = λ b l. tt }

    name_step : (name : Span) (ns : Starts) (gs : List GivenForm) (span : Span) → InTurn GivenRises ns gs → StepRises (name.start ∷ ns) (Expr-F.Name name gs span)
    name_step name ns gs span h = record { value = named_kept v name ns gs h; variable = name_variable name ns gs span }

    indexed_step : (access : Builds Reached) (ns : Starts) (span : Span) → Safe base (ReachedRises ns) access → StepRises ns (Expr-F.Indexed access span)
    indexed_step access ns span h = record {
      value = λ b l. next (access b) _ (After (ReachedRises ns)) (After (TypedRises ns)) (h b l) (λ r p. (made_rises v r.0 ns p.0, p.1));
      variable = h;
    }

    paren_step : (inner : Form) (ns : Starts) (span : Span) → FormRises ns inner → StepRises (span.start ∷ ns) (Expr-F.Paren inner span)
    paren_step inner ns span h = record {
      value = λ b l. next (inner.value b) _ (After (TypedRises ns)) (After (TypedRises (span.start ∷ ns))) (h.value b l) (λ t p. (begun_rises span.start ns t.0 p.0, p.1));
      variable = λ b l. tt;
    }

    not_step : (inner : Form) (ns : Starts) (span : Span) → FormRises ns inner → StepRises (span.start ∷ ns) (Expr-F.Not inner span)
    not_step inner ns span h = record {
      value = λ b l. next (operand_form inner b) _ (After (ExprRises ns)) (After (TypedRises (span.start ∷ ns))) (operand_kept ns inner h b l) (λ x p.
          (scalar_rises span.start ns _ true (unary_fits ns _ x.0 span.start (expr_fits ns x.0 p.0)), p.1));
      variable = λ b l. tt;
    }

    signed_step : (s : Sign) (inner : Form) (ns : Starts) (span : Span) → FormRises ns inner → StepRises (span.start ∷ ns) (Expr-F.Signed s inner span)
    signed_step s inner ns span h = record {
      value = λ b l. next (operand_form inner b) _ (After (ExprRises ns)) (After (TypedRises (span.start ∷ ns))) (operand_kept ns inner h b l) (λ x p. (signed_rises s x.0 span.start ns p.0, p.1));
      variable = λ b l. tt;
    }

    binary_step : (o : BinOp) (left right : Form) (xs ys : Starts) (at span : Span) → FormRises xs left → FormRises ys right → StepRises (xs ++ at.start ∷ ys) (Expr-F.Binary o left right at span)
    binary_step o left right xs ys at span h k = record {
      value = λ b l.
          next (operand_form left b) _ (After (ExprRises xs)) (After (TypedRises (xs ++ at.start ∷ ys))) (operand_kept xs left h b l) (λ x p.
          next (operand_form right x.1) _ (After (ExprRises ys)) (After (TypedRises (xs ++ at.start ∷ ys))) (operand_kept ys right k x.1 p.1) (λ y q.
          (binary_rises o x.0 y.0 at.start xs ys p.0 q.0, q.1)));
      variable = λ b l. tt;
    }

    -- one level of the tree
    expr_rises_by : (d : Expr-F ActualValue Expr Access Actual)
        → StepRises (order.expr_step (map-Expr ActualValue Expr Access Actual Starts Starts Starts Starts value_starts expr_starts access_starts actual_starts d)) (map-Expr ActualValue Expr Access Actual (Result Form Span) Form (Builds Reached) GivenForm (actual_value_form v) (expr_form v) (access_form v) (given_form v) d) → OfExpr (roll-Expr d)
    unfolding expr_form access_form given_form actual_value_form
    expr_rises_by d h =
        subst (λ (ns : Starts). FormRises ns (expr_form v (roll-Expr d))) (sym (fold-roll-Expr Starts Starts Starts Starts order.value_step order.expr_step order.access_step order.actual_step d))
        (subst (FormRises (order.expr_step (map-Expr ActualValue Expr Access Actual Starts Starts Starts Starts value_starts expr_starts access_starts actual_starts d))) (sym (fold-roll-Expr (Result Form Span) Form (Builds Reached) GivenForm value_step (expr_step v) (access_step v) actual_step d)) h)

    of_expr : (y : Expr-F (With OfValue) (With OfExpr) (With OfAccess) (With OfActual)) → OfExpr (roll-Expr (map-Expr (With OfValue) (With OfExpr) (With OfAccess) (With OfActual) ActualValue Expr Access Actual (λ e. e.0) (λ e. e.0) (λ e. e.0) (λ e. e.0) y))
    of_expr (Expr-F.Number value span) = expr_rises_by (Expr-F.Number value span) (number_step value span)
    of_expr (Expr-F.Name name actuals span) =
        let old = map (λ (y : With OfActual). y.0) actuals in
        expr_rises_by (Expr-F.Name name old span) (name_step name (joined (map actual_starts old)) (map (given_form v) old) span (actuals_rise actuals))
    of_expr (Expr-F.Indexed access span) = expr_rises_by (Expr-F.Indexed access.0 span) (indexed_step (access_form v access.0) (access_starts access.0) span access.1)
    of_expr (Expr-F.Paren inner span) = expr_rises_by (Expr-F.Paren inner.0 span) (paren_step (expr_form v inner.0) (expr_starts inner.0) span inner.1)
    of_expr (Expr-F.Not inner span) = expr_rises_by (Expr-F.Not inner.0 span) (not_step (expr_form v inner.0) (expr_starts inner.0) span inner.1)
    of_expr (Expr-F.Signed s inner span) = expr_rises_by (Expr-F.Signed s inner.0 span) (signed_step s (expr_form v inner.0) (expr_starts inner.0) span inner.1)
    of_expr (Expr-F.Binary o left right at span) =
        expr_rises_by (Expr-F.Binary o left.0 right.0 at span) (binary_step o (expr_form v left.0) (expr_form v right.0) (expr_starts left.0) (expr_starts right.0) at span left.1 right.1)

    access_rises_by : (d : Access-F ActualValue Expr Access Actual) → Safe base (ReachedRises (d.name.start ∷ joined (map expr_starts d.subscripts))) (access_by v d.name (map (expr_form v) d.subscripts)) → OfAccess (roll-Access d)
    unfolding expr_form access_form given_form actual_value_form
    access_rises_by d h =
        subst (λ (ns : Starts). Safe base (ReachedRises ns) (access_form v (roll-Access d))) (sym (fold-roll-Access Starts Starts Starts Starts order.value_step order.expr_step order.access_step order.actual_step d))
        (subst (Safe base (ReachedRises (d.name.start ∷ joined (map expr_starts d.subscripts)))) (sym (fold-roll-Access (Result Form Span) Form (Builds Reached) GivenForm value_step (expr_step v) (access_step v) actual_step d)) h)

    of_access : (y : Access-F (With OfValue) (With OfExpr) (With OfAccess) (With OfActual)) → OfAccess (roll-Access (map-Access (With OfValue) (With OfExpr) (With OfAccess) (With OfActual) ActualValue Expr Access Actual (λ e. e.0) (λ e. e.0) (λ e. e.0) (λ e. e.0) y))
    of_access y =
        let old = map (λ (x : With OfExpr). x.0) y.subscripts in
        access_rises_by _ (access_kept v y.name (joined (map expr_starts old)) (map (expr_form v) old) (exprs_rise y.subscripts))

    value_rises_by : (d : ActualValue-F ActualValue Expr Access Actual)
        → ValueRises (order.value_step (map-ActualValue ActualValue Expr Access Actual Starts Starts Starts Starts value_starts expr_starts access_starts actual_starts d)) (value_step (map-ActualValue ActualValue Expr Access Actual (Result Form Span) Form (Builds Reached) GivenForm (actual_value_form v) (expr_form v) (access_form v) (given_form v) d)) → OfValue (roll-ActualValue d)
    unfolding expr_form access_form given_form actual_value_form
    value_rises_by d h =
        subst (λ (ns : Starts). ValueRises ns (actual_value_form v (roll-ActualValue d))) (sym (fold-roll-ActualValue Starts Starts Starts Starts order.value_step order.expr_step order.access_step order.actual_step d))
        (subst (ValueRises (order.value_step (map-ActualValue ActualValue Expr Access Actual Starts Starts Starts Starts value_starts expr_starts access_starts actual_starts d))) (sym (fold-roll-ActualValue (Result Form Span) Form (Builds Reached) GivenForm value_step (expr_step v) (access_step v) actual_step d)) h)

    of_value : (y : ActualValue-F (With OfValue) (With OfExpr) (With OfAccess) (With OfActual)) → OfValue (roll-ActualValue (map-ActualValue (With OfValue) (With OfExpr) (With OfAccess) (With OfActual) ActualValue Expr Access Actual (λ e. e.0) (λ e. e.0) (λ e. e.0) (λ e. e.0) y))
    of_value (ActualValue-F.Value e) = value_rises_by (ActualValue-F.Value e.0) e.1
    of_value (ActualValue-F.«Text» span) = value_rises_by (ActualValue-F.«Text» span) tt

    given_rises_by : (d : Actual-F ActualValue Expr Access Actual)
        → GivenRises (order.actual_step (map-Actual ActualValue Expr Access Actual Starts Starts Starts Starts value_starts expr_starts access_starts actual_starts d)) (actual_step (map-Actual ActualValue Expr Access Actual (Result Form Span) Form (Builds Reached) GivenForm (actual_value_form v) (expr_form v) (access_form v) (given_form v) d)) → OfActual (roll-Actual d)
    unfolding expr_form access_form given_form actual_value_form
    given_rises_by d h =
        subst (λ (ns : Starts). GivenRises ns (given_form v (roll-Actual d))) (sym (fold-roll-Actual Starts Starts Starts Starts order.value_step order.expr_step order.access_step order.actual_step d))
        (subst (GivenRises (order.actual_step (map-Actual ActualValue Expr Access Actual Starts Starts Starts Starts value_starts expr_starts access_starts actual_starts d))) (sym (fold-roll-Actual (Result Form Span) Form (Builds Reached) GivenForm value_step (expr_step v) (access_step v) actual_step d)) h)

    of_actual_by : (value : With OfValue) (width : Option (With OfExpr))
        → OfActual (roll-Actual (map-Actual (With OfValue) (With OfExpr) (With OfAccess) (With OfActual) ActualValue Expr Access Actual (λ e. e.0) (λ e. e.0) (λ e. e.0) (λ e. e.0) (record { value = value; width = width })))
    of_actual_by value None = given_rises_by (record { value = value.0; width = None }) (record { first = value_starts value.0; second = []; is = refl; value = value.1; width = tt })
    of_actual_by value (Some e) = given_rises_by (record { value = value.0; width = Some e.0 }) (record { first = value_starts value.0; second = expr_starts e.0; is = refl; value = value.1; width = e.1 })

    of_actual : (y : Actual-F (With OfValue) (With OfExpr) (With OfAccess) (With OfActual)) → OfActual (roll-Actual (map-Actual (With OfValue) (With OfExpr) (With OfAccess) (With OfActual) ActualValue Expr Access Actual (λ e. e.0) (λ e. e.0) (λ e. e.0) (λ e. e.0) y))
    of_actual y = of_actual_by y.value y.width

    by_value : (x : ActualValue-F ActualValue Expr Access Actual) (y : ActualValue-F (With OfValue) (With OfExpr) (With OfAccess) (With OfActual)) → map-ActualValue (With OfValue) (With OfExpr) (With OfAccess) (With OfActual) ActualValue Expr Access Actual (λ e. e.0) (λ e. e.0) (λ e. e.0) (λ e. e.0) y ≡ x → OfValue (roll-ActualValue x)
    by_value x y is = subst (λ z. OfValue (roll-ActualValue z)) is (of_value y)

    by_expr : (x : Expr-F ActualValue Expr Access Actual) (y : Expr-F (With OfValue) (With OfExpr) (With OfAccess) (With OfActual)) → map-Expr (With OfValue) (With OfExpr) (With OfAccess) (With OfActual) ActualValue Expr Access Actual (λ e. e.0) (λ e. e.0) (λ e. e.0) (λ e. e.0) y ≡ x → OfExpr (roll-Expr x)
    by_expr x y is = subst (λ z. OfExpr (roll-Expr z)) is (of_expr y)

    by_access : (x : Access-F ActualValue Expr Access Actual) (y : Access-F (With OfValue) (With OfExpr) (With OfAccess) (With OfActual)) → map-Access (With OfValue) (With OfExpr) (With OfAccess) (With OfActual) ActualValue Expr Access Actual (λ e. e.0) (λ e. e.0) (λ e. e.0) (λ e. e.0) y ≡ x → OfAccess (roll-Access x)
    by_access x y is = subst (λ z. OfAccess (roll-Access z)) is (of_access y)

    by_actual : (x : Actual-F ActualValue Expr Access Actual) (y : Actual-F (With OfValue) (With OfExpr) (With OfAccess) (With OfActual)) → map-Actual (With OfValue) (With OfExpr) (With OfAccess) (With OfActual) ActualValue Expr Access Actual (λ e. e.0) (λ e. e.0) (λ e. e.0) (λ e. e.0) y ≡ x → OfActual (roll-Actual x)
    by_actual x y is = subst (λ z. OfActual (roll-Actual z)) is (of_actual y)

    pub expr_rises_of : (e : Expr) → FormRises (expr_starts e) (expr_form v e)
    expr_rises_of = ind-Expr OfValue OfExpr OfAccess OfActual by_value by_expr by_access by_actual

    pub actual_rises_of : (a : Actual) → GivenRises (actual_starts a) (given_form v a)
    actual_rises_of = ind-Actual OfValue OfExpr OfAccess OfActual by_value by_expr by_access by_actual
