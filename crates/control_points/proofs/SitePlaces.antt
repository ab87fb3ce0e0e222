-- Where the places of an expression rise, those of the actuals of each call in it do.
use Rattle.std.proofs.Common.{◌≡◌, inl, inr, ℕ, zero, suc, ◌-◌, List, [], ◌∷◌, ◌++◌, map, length, refl, sym, ap, subst, ◌∙◌, Option, Some, None, nat_le}
use Rattle.std.proofs.lemmas.Option.{none-some}
use Rattle.std.specs.List.{slice_get}
use Rattle.pas_program.proofs.Weaker.{With}
use Rattle.pas_program.specs.declared.expr.Access.{Access}
use Rattle.pas_program.specs.declared.expr.Actual.{Actual}
use Rattle.pas_program.specs.declared.expr.Actual.TheFolds.{fold-roll-Access, fold-roll-Actual, fold-roll-Expr, fold-roll-ExprForm, ind-Access, ind-Actual, ind-Expr, map-Access, map-Actual, map-Expr, map-ExprForm, para-roll-Access, para-roll-Actual, para-roll-Expr, para-roll-ExprForm}
use Rattle.pas_program.specs.declared.expr.Actual.TheOpen.{Access-F, Actual-F, ExprForm-F, Expr-F}
use Rattle.pas_program.specs.declared.expr.Actual.TheViews.{roll-Access, roll-Actual, roll-Expr, roll-ExprForm}
use Rattle.pas_program.specs.declared.expr.Expr.{Expr}
use Rattle.pas_program.specs.declared.expr.ExprForm.{ExprForm}
use Rattle.pas_program.specs.declared.statement.WriteItem.{WriteItem}
use Rattle.pas_program.specs.declared.statement.WriteValue.{WriteValue}
use Rattle.pas_program.specs.declared.statement.WriteValue.TheVariants as written
use Rattle.pas_program.specs.Rising.{Part, access_part, actual_part, before, expr_part, form_part, in_turn, item_part, token, width_part, written_part}
use Rattle.pas_program.specs.Rising as rising
use Rattle.control_points.specs.Calls.{CallSite, Sites, access_calls, actual_calls, actuals_calls, expr_calls, form_calls, item_calls, width_calls, written_calls}
use Rattle.control_points.specs.Calls as calls
use Rattle.control_points.proofs.CallsOf.{call_parts, in_turn_beside}
use Rattle.control_points.proofs.ExprPlaces.{from_test}
use Rattle.control_points.proofs.Listed.{get_either, same_some}
use Rattle.control_points.proofs.ValidBasics.{and_then_found}

-- the actuals of a call rise from some place on
pub record SiteRises (c : CallSite) : Type 0 where
  pub least : ℕ
  pub most : ℕ
  pub rise : in_turn (map actual_part c.actuals) least ≡ Some most

abbrev pub SitesRise : Sites → Type 0
SitesRise sites = (k : ℕ) (c : CallSite) → slice_get sites k ≡ Some c → SiteRises c

pub no_sites : SitesRise []
no_sites zero c h = absurd (none-some c h)
no_sites (suc k) c h = absurd (none-some c h)

pub one_site : (c : CallSite) → SiteRises c → SitesRise (c ∷ [])
one_site c s zero d h = subst SiteRises (same_some h) s
one_site c s (suc k) d h = no_sites k d h

pub both_sites : (xs ys : Sites) → SitesRise xs → SitesRise ys → SitesRise (xs ++ ys)
both_sites xs ys p q k c h = elim (get_either xs ys k c h) [ inl x ↦ p k c x | inr x ↦ q (k - length xs) c x.1 ]

-- the first, and those behind it
pub first_site : (c : CallSite) (sites : Sites) → SitesRise (c ∷ sites) → SiteRises c
first_site c sites h = h 0 c refl

pub later_sites : (c : CallSite) (sites : Sites) → SitesRise (c ∷ sites) → SitesRise sites
later_sites c sites h k d x = h (suc k) d x

-- ---- expressions

abbrev OfActual : Actual → Type 0
OfActual a = (least most : ℕ) → actual_part a least ≡ Some most → SitesRise (actual_calls a)

abbrev OfForm : ExprForm → Type 0
OfForm d = (least most : ℕ) → form_part d least ≡ Some most → SitesRise (form_calls d)

abbrev OfAccess : Access → Type 0
OfAccess a = (least most : ℕ) → access_part a least ≡ Some most → SitesRise (access_calls a)

abbrev OfExpr : Expr → Type 0
OfExpr e = (least most : ℕ) → expr_part e least ≡ Some most → SitesRise (expr_calls e)

abbrev exprs : List (With OfExpr) → List Expr
exprs ys = map (λ (y : With OfExpr). y.0) ys

abbrev actuals_in : List (With OfActual) → List Actual
actuals_in ys = map (λ (y : With OfActual). y.0) ys

-- parts one behind another, each with its calls
subscripts_rise : (ys : List (With OfExpr)) (least most : ℕ) → in_turn (map expr_part (exprs ys)) least ≡ Some most → SitesRise (calls.joined (map expr_calls (exprs ys)))
subscripts_rise [] least most h = no_sites
subscripts_rise (y ∷ ys) least most h =
    let x = and_then_found (in_turn (map expr_part (exprs ys))) (expr_part y.0 least) most h in
    both_sites (expr_calls y.0) _ (y.1 least x.0 x.1) (subscripts_rise ys x.0 most x.2)

actuals_rise : (ys : List (With OfActual)) (least most : ℕ) → in_turn (map actual_part (actuals_in ys)) least ≡ Some most → SitesRise (actuals_calls (actuals_in ys))
actuals_rise [] least most h = no_sites
actuals_rise (y ∷ ys) least most h =
    let x = and_then_found (in_turn (map actual_part (actuals_in ys))) (actual_part y.0 least) most h in
    both_sites (actual_calls y.0) _ (y.1 least x.0 x.1) (actuals_rise ys x.0 most x.2)

-- one level of an actual
from_actual : (d : Actual-F Actual ExprForm Access Expr) (least most : ℕ)
    → (rising.actual_step (map-Actual Actual ExprForm Access Expr Part Part Part Part actual_part form_part access_part expr_part d) least ≡ Some most
    → SitesRise (calls.actual_step (map-Actual Actual ExprForm Access Expr (Actual × Sites) (ExprForm × Sites) (Access × Sites) (Expr × Sites) (λ a. (a, actual_calls a)) (λ f. (f, form_calls f)) (λ a. (a, access_calls a)) (λ e. (e, expr_calls e)) d)))
    → actual_part (roll-Actual d) least ≡ Some most → SitesRise (actual_calls (roll-Actual d))
from_actual d least most f h =
    subst SitesRise (sym (para-roll-Actual Sites Sites Sites Sites calls.actual_step calls.form_step calls.access_step calls.expr_step d))
    (f (ap (λ (p : Part). p least) (sym (fold-roll-Actual Part Part Part Part rising.actual_step rising.form_step rising.access_step rising.expr_step d)) ∙ h))

of_actual : (y : Actual-F (With OfActual) (With OfForm) (With OfAccess) (With OfExpr)) → OfActual (roll-Actual (map-Actual (With OfActual) (With OfForm) (With OfAccess) (With OfExpr) Actual ExprForm Access Expr (λ e. e.0) (λ e. e.0) (λ e. e.0) (λ e. e.0) y))
of_actual (Actual-F.«Actual::Value» e) least most = from_actual (Actual-F.«Actual::Value» e.0) least most (e.1 least most)
of_actual (Actual-F.Whole a) least most = from_actual (Actual-F.Whole a.0) least most (a.1 least most)
of_actual (Actual-F.Var a) least most = from_actual (Actual-F.Var a.0) least most (a.1 least most)

of_access : (y : Access-F (With OfActual) (With OfForm) (With OfAccess) (With OfExpr)) → OfAccess (roll-Access (map-Access (With OfActual) (With OfForm) (With OfAccess) (With OfExpr) Actual ExprForm Access Expr (λ e. e.0) (λ e. e.0) (λ e. e.0) (λ e. e.0) y))
of_access y least most h =
    let d = map-Access (With OfActual) (With OfForm) (With OfAccess) (With OfExpr) Actual ExprForm Access Expr (λ e. e.0) (λ e. e.0) (λ e. e.0) (λ e. e.0) y in
    let opened = ap (λ (p : Part). p least) (sym (fold-roll-Access Part Part Part Part rising.actual_step rising.form_step rising.access_step rising.expr_step d)) ∙ h in
    let x = and_then_found (in_turn (map expr_part (exprs y.subscripts))) (token y.at least) most opened in
    subst SitesRise (sym (para-roll-Access Sites Sites Sites Sites calls.actual_step calls.form_step calls.access_step calls.expr_step d ∙ in_turn_beside expr_calls (exprs y.subscripts)))
    (subscripts_rise y.subscripts x.0 most x.2)

from_form : (d : ExprForm-F Actual ExprForm Access Expr) (least most : ℕ)
    → (rising.form_step (map-ExprForm Actual ExprForm Access Expr Part Part Part Part actual_part form_part access_part expr_part d) least ≡ Some most
    → SitesRise (calls.form_step (map-ExprForm Actual ExprForm Access Expr (Actual × Sites) (ExprForm × Sites) (Access × Sites) (Expr × Sites) (λ a. (a, actual_calls a)) (λ f. (f, form_calls f)) (λ a. (a, access_calls a)) (λ e. (e, expr_calls e)) d)))
    → form_part (roll-ExprForm d) least ≡ Some most → SitesRise (form_calls (roll-ExprForm d))
from_form d least most f h =
    subst SitesRise (sym (para-roll-ExprForm Sites Sites Sites Sites calls.actual_step calls.form_step calls.access_step calls.expr_step d))
    (f (ap (λ (p : Part). p least) (sym (fold-roll-ExprForm Part Part Part Part rising.actual_step rising.form_step rising.access_step rising.expr_step d)) ∙ h))

of_form : (y : ExprForm-F (With OfActual) (With OfForm) (With OfAccess) (With OfExpr)) → OfForm (roll-ExprForm (map-ExprForm (With OfActual) (With OfForm) (With OfAccess) (With OfExpr) Actual ExprForm Access Expr (λ e. e.0) (λ e. e.0) (λ e. e.0) (λ e. e.0) y))
of_form (ExprForm-F.Const boolean n) least most = from_form (ExprForm-F.Const boolean n) least most (λ h. no_sites)
of_form (ExprForm-F.«ExprForm::Value» a) least most = from_form (ExprForm-F.«ExprForm::Value» a.0) least most (a.1 least most)
of_form (ExprForm-F.Unary op e at) least most =
    from_form (ExprForm-F.Unary op e.0 at) least most (λ h. let x = and_then_found (expr_part e.0) (token at least) most h in e.1 x.0 most x.2)
of_form (ExprForm-F.Binary op left right at) least most =
    from_form (ExprForm-F.Binary op left.0 right.0 at) least most
    (λ h.
    let x = and_then_found (before (token at) (expr_part right.0)) (expr_part left.0 least) most h in
    let y = and_then_found (expr_part right.0) (token at x.0) most x.2 in
    both_sites (expr_calls left.0) (expr_calls right.0) (left.1 least x.0 x.1) (right.1 y.0 most y.2))
of_form (ExprForm-F.Call routine actuals slot at) least most =
    from_form (ExprForm-F.Call routine (actuals_in actuals) slot at) least most
    (λ h.
    let x = and_then_found (in_turn (map actual_part (actuals_in actuals))) (token at least) most h in
    let c : CallSite = record { routine = routine; actuals = actuals_in actuals; slot = Some slot; at = at } in
    subst SitesRise (sym (call_parts routine (actuals_in actuals) slot at))
    (both_sites (actuals_calls (actuals_in actuals)) (c ∷ []) (actuals_rise actuals x.0 most x.2) (one_site c (record { least = x.0; most = most; rise = x.2 }))))

of_expr : (y : Expr-F (With OfActual) (With OfForm) (With OfAccess) (With OfExpr)) → OfExpr (roll-Expr (map-Expr (With OfActual) (With OfForm) (With OfAccess) (With OfExpr) Actual ExprForm Access Expr (λ e. e.0) (λ e. e.0) (λ e. e.0) (λ e. e.0) y))
of_expr y least most h =
    let d = map-Expr (With OfActual) (With OfForm) (With OfAccess) (With OfExpr) Actual ExprForm Access Expr (λ e. e.0) (λ e. e.0) (λ e. e.0) (λ e. e.0) y in
    let x = from_test (nat_le least y.first) (form_part y.form.0 y.first) most (ap (λ (p : Part). p least) (sym (fold-roll-Expr Part Part Part Part rising.actual_step rising.form_step rising.access_step rising.expr_step d)) ∙ h) in
    subst SitesRise (sym (para-roll-Expr Sites Sites Sites Sites calls.actual_step calls.form_step calls.access_step calls.expr_step d)) (y.form.1 y.first most x.1)

pub expr_sites : (e : Expr) → OfExpr e
expr_sites =
    ind-Expr OfActual OfForm OfAccess OfExpr
    (λ x y is. subst (λ z. OfActual (roll-Actual z)) is (of_actual y))
    (λ x y is. subst (λ z. OfForm (roll-ExprForm z)) is (of_form y))
    (λ x y is. subst (λ z. OfAccess (roll-Access z)) is (of_access y))
    (λ x y is. subst (λ z. OfExpr (roll-Expr z)) is (of_expr y))

pub access_sites : (a : Access) → OfAccess a
access_sites =
    ind-Access OfActual OfForm OfAccess OfExpr
    (λ x y is. subst (λ z. OfActual (roll-Actual z)) is (of_actual y))
    (λ x y is. subst (λ z. OfForm (roll-ExprForm z)) is (of_form y))
    (λ x y is. subst (λ z. OfAccess (roll-Access z)) is (of_access y))
    (λ x y is. subst (λ z. OfExpr (roll-Expr z)) is (of_expr y))

actual_sites : (a : Actual) → OfActual a
actual_sites =
    ind-Actual OfActual OfForm OfAccess OfExpr
    (λ x y is. subst (λ z. OfActual (roll-Actual z)) is (of_actual y))
    (λ x y is. subst (λ z. OfForm (roll-ExprForm z)) is (of_form y))
    (λ x y is. subst (λ z. OfAccess (roll-Access z)) is (of_access y))
    (λ x y is. subst (λ z. OfExpr (roll-Expr z)) is (of_expr y))

-- ---- actions

pub actuals_sites : (actuals : List Actual) (least most : ℕ) → in_turn (map actual_part actuals) least ≡ Some most → SitesRise (actuals_calls actuals)
actuals_sites [] least most h = no_sites
actuals_sites (a ∷ actuals) least most h =
    let x = and_then_found (in_turn (map actual_part actuals)) (actual_part a least) most h in
    both_sites (actual_calls a) _ (actual_sites a least x.0 x.1) (actuals_sites actuals x.0 most x.2)

pub assignment_sites : (a : Access) (e : Expr) (least most : ℕ) → before (access_part a) (expr_part e) least ≡ Some most → SitesRise (access_calls a ++ expr_calls e)
assignment_sites a e least most h =
    let x = and_then_found (expr_part e) (access_part a least) most h in
    both_sites (access_calls a) (expr_calls e) (access_sites a least x.0 x.1) (expr_sites e x.0 most x.2)

pub copy_sites : (a b : Access) (least most : ℕ) → before (access_part a) (access_part b) least ≡ Some most → SitesRise (access_calls a ++ access_calls b)
copy_sites a b least most h =
    let x = and_then_found (access_part b) (access_part a least) most h in
    both_sites (access_calls a) (access_calls b) (access_sites a least x.0 x.1) (access_sites b x.0 most x.2)

pub bounds_sites : (first last : Expr) (least most : ℕ) → before (expr_part first) (expr_part last) least ≡ Some most → SitesRise (expr_calls first ++ expr_calls last)
bounds_sites first last least most h =
    let x = and_then_found (expr_part last) (expr_part first least) most h in
    both_sites (expr_calls first) (expr_calls last) (expr_sites first least x.0 x.1) (expr_sites last x.0 most x.2)

written_sites : (w : WriteValue) (least most : ℕ) → written_part w least ≡ Some most → SitesRise (written_calls w)
written_sites (written.Value e) least most h = expr_sites e least most h
written_sites (written.Text bytes at) least most h = no_sites

width_sites : (o : Option Expr) (least most : ℕ) → width_part o least ≡ Some most → SitesRise (width_calls o)
width_sites None least most h = no_sites
width_sites (Some e) least most h = expr_sites e least most h

pub item_sites : (item : WriteItem) (least most : ℕ) → item_part item least ≡ Some most → SitesRise (item_calls item)
item_sites item least most h =
    let x = and_then_found (width_part item.width) (written_part item.value least) most h in
    both_sites (written_calls item.value) (width_calls item.width) (written_sites item.value least x.0 x.1) (width_sites item.width x.0 most x.2)
