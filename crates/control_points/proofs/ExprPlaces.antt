-- Where the places of an expression rise, two of its errors that are of one kind have different places.
use Rattle.std.proofs.Common.{◌≡◌, inl, inr, ℕ, zero, suc, ◌-◌, ◌<◌, ◌≤◌, Bool, true, false, cond, List, [], ◌∷◌, ◌++◌, map, length, refl, sym, ap, subst, ◌∙◌, Option, Some, None, nat_le, arith}
use Rattle.std.proofs.lemmas.Bool.{true≢false}
use Rattle.std.proofs.lemmas.Bool.Decides.{nat_tests}
use Rattle.std.proofs.lemmas.Option.{none-some}
use Rattle.std.specs.List.{slice_get}
use Rattle.px_base.specs.declared.kind.Kind.{Kind}
use Rattle.px_base.specs.declared.kind.Kind.TheVariants.{Overflow, DivisionByZero, ModulusNotPositive, UndefinedValue, IndexOutOfRange, ValueOutOfRange, NoCaseLabel, NoNeighbour, NoNumber, WidthOutOfRange, Assertion, NoResult}
use Rattle.px_base.specs.declared.operator.BinOp.{BinOp}
use Rattle.px_base.specs.declared.operator.BinOp.TheVariants as binary
use Rattle.px_base.specs.declared.operator.UnOp.{UnOp}
use Rattle.px_base.specs.declared.operator.UnOp.TheVariants as unary
use Rattle.pas_program.proofs.Weaker.{With}
use Rattle.pas_program.specs.declared.expr.Access.{Access}
use Rattle.pas_program.specs.declared.expr.Actual.{Actual}
use Rattle.pas_program.specs.declared.expr.Actual.TheFolds.{fold-roll-Access, fold-roll-Actual, fold-roll-Expr, fold-roll-ExprForm, ind-Access, ind-Expr, map-Access, map-Actual, map-Expr, map-ExprForm}
use Rattle.pas_program.specs.declared.expr.Actual.TheOpen.{Access-F, Actual-F, ExprForm-F, Expr-F}
use Rattle.pas_program.specs.declared.expr.Actual.TheViews.{roll-Access, roll-Actual, roll-Expr, roll-ExprForm}
use Rattle.pas_program.specs.declared.expr.Expr.{Expr}
use Rattle.pas_program.specs.declared.expr.ExprForm.{ExprForm}
use Rattle.pas_program.specs.Rising.{Part, access_part, actual_part, actual_step, before, expr_part, form_part, in_turn, token}
use Rattle.pas_program.specs.Rising as rising
use Rattle.pas_program.specs.Tables.{Tables}
use Rattle.control_points.specs.declared.fault.Fault.{Fault}
use Rattle.control_points.specs.Checking.{Checked, Faults, binary_checks, checked_access, checked_expr, form_checks, is_narrow, one, one_if, subscripts_checks, unary_checks}
use Rattle.control_points.specs.Checking as checking
use Rattle.control_points.specs.Evaluation.{element_type, index_type, var_type}
use Rattle.control_points.proofs.Listed.{get_either, same_some}
use Rattle.control_points.proofs.ValidBasics.{and_then_found}

-- ---- lists of errors

-- no two of them are of one kind at one place
abbrev pub Differ : Faults → Type 0
Differ fs = (i k : ℕ) (f g : Fault) → slice_get fs i ≡ Some f → slice_get fs k ≡ Some g → f.kind ≡ g.kind → f.at ≡ g.at → i ≡ k

-- nor one of these and one of those
abbrev pub AreOthers : Faults → Faults → Type 0
AreOthers fs gs = (i k : ℕ) (f g : Fault) → slice_get fs i ≡ Some f → slice_get gs k ≡ Some g → f.kind ≡ g.kind → f.at ≡ g.at → ⊥

-- a property of each of them
abbrev pub Each : (Fault → Type 0) → Faults → Type 0
Each P fs = (k : ℕ) (f : Fault) → slice_get fs k ≡ Some f → P f

no_fault : (k : ℕ) (f : Fault) → slice_get [] k ≡ Some f → ⊥
no_fault zero f h = none-some f h
no_fault (suc k) f h = none-some f h

module _ (P : Fault → Type 0) where
  pub each_none : Each P []
  each_none k f h = absurd (no_fault k f h)

  pub each_one : (kind : Kind) (at : ℕ) → P (record { kind = kind; at = at }) → Each P (one kind at)
  each_one kind at p zero f h = subst P (same_some h) p
  each_one kind at p (suc k) f h = absurd (no_fault k f h)

  pub each_if : (b : Bool) (kind : Kind) (at : ℕ) → P (record { kind = kind; at = at }) → Each P (one_if b kind at)
  each_if true kind at p = each_one kind at p
  each_if false kind at p = each_none

  pub each_both : (fs gs : Faults) → Each P fs → Each P gs → Each P (fs ++ gs)
  each_both fs gs x y k f h = elim (get_either fs gs k f h) [ inl g ↦ x k f g | inr g ↦ y (k - length fs) f g.1 ]

pub differ_none : Differ []
differ_none i k f g x y same at = absurd (no_fault i f x)

pub differ_one : (kind : Kind) (at : ℕ) → Differ (one kind at)
differ_one kind at zero zero f g x y same there = refl
differ_one kind at zero (suc k) f g x y same there = absurd (no_fault k g y)
differ_one kind at (suc i) k f g x y same there = absurd (no_fault i f x)

pub differ_if : (b : Bool) (kind : Kind) (at : ℕ) → Differ (one_if b kind at)
differ_if true kind at = differ_one kind at
differ_if false kind at = differ_none

pub differ_both : (fs gs : Faults) → Differ fs → Differ gs → AreOthers fs gs → Differ (fs ++ gs)
differ_both fs gs p q cross i k f g x y same at =
    elim (get_either fs gs i f x) [
      | inl a ↦ elim (get_either fs gs k g y) [
        | inl b ↦ p i k f g a b same at
        | inr b ↦ absurd (cross i (k - length fs) f g a b.1 same at)
      ]
      | inr a ↦ elim (get_either fs gs k g y) [
        | inl b ↦ absurd (cross k (i - length fs) g f b a.1 (sym same) (sym at))
        | inr b ↦ omega (arith, a.0, b.0, q (i - length fs) (k - length fs) f g a.1 b.1 same at)
      ]
    ]

-- the same, from the place low on and before high
pub record AreApart (fs : Faults) (low high : ℕ) : Type 0 where
  pub differ : Differ fs
  pub within : Each (λ f. (low ≤ f.at) × (f.at < high)) fs

pub apart_none : (low high : ℕ) → AreApart [] low high
apart_none low high = record { differ = differ_none; within = each_none (λ f. (low ≤ f.at) × (f.at < high)) }

pub apart_if : (b : Bool) (kind : Kind) (at : ℕ) → AreApart (one_if b kind at) at (suc at)
apart_if b kind at = record { differ = differ_if b kind at; within = each_if (λ f. (at ≤ f.at) × (f.at < suc at)) b kind at (omega arith, omega arith) }

pub apart_one : (kind : Kind) (at : ℕ) → AreApart (one kind at) at (suc at)
apart_one kind at = apart_if true kind at

pub apart_wider : (fs : Faults) (low high first last : ℕ) → AreApart fs low high → first ≤ low → high ≤ last → AreApart fs first last
apart_wider fs low high first last p a b = record { differ = p.differ; within = λ k f h. let w = p.within k f h in (omega (arith, a, w.0), omega (arith, b, w.1)) }

pub apart_both : (fs gs : Faults) (low high : ℕ) → AreApart fs low high → AreApart gs low high → AreOthers fs gs → AreApart (fs ++ gs) low high
apart_both fs gs low high p q cross = record {
  differ = differ_both fs gs p.differ q.differ cross;
  within = each_both (λ f. (low ≤ f.at) × (f.at < high)) fs gs p.within q.within;
}

-- these before those, or behind them
pub apart_before : (fs gs : Faults) (low mid high : ℕ) → AreApart fs low mid → AreApart gs mid high → low ≤ mid → mid ≤ high → AreApart (fs ++ gs) low high
apart_before fs gs low mid high p q a b =
    apart_both fs gs low high (apart_wider fs low mid low high p (omega arith) b) (apart_wider gs mid high low high q a (omega arith))
    (λ i k f g x y same at. absurd (omega (arith, at, (p.within i f x).1, (q.within k g y).0)))

pub apart_behind : (fs gs : Faults) (low mid high : ℕ) → AreApart fs mid high → AreApart gs low mid → low ≤ mid → mid ≤ high → AreApart (fs ++ gs) low high
apart_behind fs gs low mid high p q a b =
    apart_both fs gs low high (apart_wider fs mid high low high p a (omega arith)) (apart_wider gs low mid low high q (omega arith) b)
    (λ i k f g x y same at. absurd (omega (arith, at, (p.within i f x).0, (q.within k g y).1)))

-- ---- kinds

-- the errors that an operator may be
abbrev pub is_operator : Kind → Bool
is_operator Overflow = true
is_operator DivisionByZero = true
is_operator ModulusNotPositive = true
is_operator NoNeighbour = true
is_operator _ = false

-- those that an expression may be
abbrev pub in_expression : Kind → Bool
in_expression UndefinedValue = true
in_expression IndexOutOfRange = true
in_expression k = is_operator k

abbrev pub IsInExpression : Fault → Type 0
IsInExpression f = in_expression f.kind ≡ true

operator_in : (k : Kind) → is_operator k ≡ true → in_expression k ≡ true
operator_in UndefinedValue h = refl
operator_in IndexOutOfRange h = refl
operator_in Overflow h = refl
operator_in DivisionByZero h = refl
operator_in ModulusNotPositive h = refl
operator_in NoNeighbour h = refl
operator_in ValueOutOfRange h = h
operator_in NoCaseLabel h = h
operator_in NoNumber h = h
operator_in WidthOutOfRange h = h
operator_in Assertion h = h
operator_in NoResult h = h

-- an error of an operator at a place
record OfOperator (fs : Faults) (at : ℕ) : Type 0 where
  apart : AreApart fs at (suc at)
  kinds : Each (λ f. is_operator f.kind ≡ true) fs

may_be : (kind : Kind) (at : ℕ) → is_operator kind ≡ true → OfOperator (one kind at) at
may_be kind at is = record { apart = apart_one kind at; kinds = each_one (λ f. is_operator f.kind ≡ true) kind at is }

never : (at : ℕ) → OfOperator [] at
never at = record { apart = apart_none at (suc at); kinds = each_none (λ f. is_operator f.kind ≡ true) }

of_unary : (op : UnOp) (at : ℕ) → OfOperator (unary_checks op at) at
of_unary unary.Neg at = never at
of_unary unary.Not at = never at
of_unary unary.Abs at = never at
of_unary unary.Sqr at = may_be Overflow at refl
of_unary unary.Odd at = never at
of_unary unary.SuccInt at = may_be NoNeighbour at refl
of_unary unary.PredInt at = may_be NoNeighbour at refl
of_unary unary.SuccBool at = may_be NoNeighbour at refl
of_unary unary.PredBool at = may_be NoNeighbour at refl
of_unary unary.OrdOf at = never at

of_binary : (op : BinOp) (at : ℕ) → OfOperator (binary_checks op at) at
of_binary binary.Add at = may_be Overflow at refl
of_binary binary.Sub at = may_be Overflow at refl
of_binary binary.Mul at = may_be Overflow at refl
of_binary binary.Div at = may_be DivisionByZero at refl
of_binary binary.Mod at = may_be ModulusNotPositive at refl
of_binary binary.And at = never at
of_binary binary.Or at = never at
of_binary binary.Eq at = never at
of_binary binary.Ne at = never at
of_binary binary.Lt at = never at
of_binary binary.Le at = never at
of_binary binary.Gt at = never at
of_binary binary.Ge at = never at

-- ---- parts of a text

pub from_test : {A : Type 0} (b : Bool) (o : Option A) (y : A) → cond b o None ≡ Some y → (b ≡ true) × (o ≡ Some y)
from_test true o y h = (refl, h)
from_test false o y h = absurd (none-some y h)

at_most : (a b : ℕ) → nat_le a b ≡ true → a ≤ b
at_most a b h = grind (arith, nat_tests)

pub token_is : (at least most : ℕ) → token at least ≡ Some most → (least ≤ at) × (suc at ≡ most)
token_is at least most h = let x = from_test (nat_le least at) (Some (suc at)) most h in (at_most least at x.0, same_some x.1)

-- an error of a subscript stands behind the place
abbrev IsBehind : ℕ → Fault → Type 0
IsBehind at f = f.kind ≡ IndexOutOfRange → at < f.at

-- the errors of a part of a text, between its first place and what follows
pub record Walked (fs : Faults) (first most : ℕ) : Type 0 where
  pub advances : first < most
  pub apart : AreApart fs first most
  pub kinds : Each IsInExpression fs
  pub behind : Each (IsBehind first) fs

pub record ExprWalked (w : Checked) (least most : ℕ) : Type 0 where
  pub later : least ≤ w.first
  pub walked : Walked w.faults w.first most

pub record AccessWalked (w : Checked) (least most : ℕ) : Type 0 where
  pub later : least ≤ w.first
  pub advances : w.first < most
  pub apart : AreApart w.faults (suc w.first) most
  pub kinds : Each IsInExpression w.faults

operator_behind : (fs : Faults) (at least : ℕ) → OfOperator fs at → Each (IsBehind least) fs
operator_behind fs at least o k f h is = absurd (true≢false (sym (o.kinds k f h) ∙ ap is_operator is))

-- ---- expressions

module _ (t : Tables) where
  abbrev OfActual : Actual → Type 0
  OfActual a = (least most : ℕ) → actual_part a least ≡ Some most → least ≤ most

  abbrev OfForm : ExprForm → Type 0
  OfForm d = (least most : ℕ) → form_part d least ≡ Some most → Walked (form_checks t d) least most

  abbrev OfAccess : Access → Type 0
  OfAccess a = (least most : ℕ) → access_part a least ≡ Some most → AccessWalked (checked_access t a) least most

  abbrev OfExpr : Expr → Type 0
  OfExpr e = (least most : ℕ) → expr_part e least ≡ Some most → ExprWalked (checked_expr t e) least most

  abbrev exprs : List (With OfExpr) → List Expr
  exprs ys = map (λ (y : With OfExpr). y.0) ys

  abbrev actuals_in : List (With OfActual) → List Actual
  actuals_in ys = map (λ (y : With OfActual). y.0) ys

  -- ---- actuals

  actuals_grow : (ys : List (With OfActual)) (least most : ℕ) → in_turn (map actual_part (actuals_in ys)) least ≡ Some most → least ≤ most
  actuals_grow [] least most h = omega (arith, same_some h)
  actuals_grow (y ∷ ys) least most h =
      let x = and_then_found (in_turn (map actual_part (actuals_in ys))) (actual_part y.0 least) most h in
      omega (arith, y.1 least x.0 x.1, actuals_grow ys x.0 most x.2)

  actual_opened : (d : Actual-F Actual ExprForm Access Expr) → actual_part (roll-Actual d) ≡ actual_step (map-Actual Actual ExprForm Access Expr Part Part Part Part actual_part form_part access_part expr_part d)
  actual_opened d = fold-roll-Actual Part Part Part Part actual_step rising.form_step rising.access_step rising.expr_step d

  of_actual : (y : Actual-F (With OfActual) (With OfForm) (With OfAccess) (With OfExpr)) → OfActual (roll-Actual (map-Actual (With OfActual) (With OfForm) (With OfAccess) (With OfExpr) Actual ExprForm Access Expr (λ e. e.0) (λ e. e.0) (λ e. e.0) (λ e. e.0) y))
  of_actual (Actual-F.«Actual::Value» e) least most h =
      let x = e.1 least most (ap (λ (p : Part). p least) (sym (actual_opened (Actual-F.«Actual::Value» e.0))) ∙ h) in
      omega (arith, x.later, x.walked.advances)
  of_actual (Actual-F.Whole a) least most h =
      let x = a.1 least most (ap (λ (p : Part). p least) (sym (actual_opened (Actual-F.Whole a.0))) ∙ h) in
      omega (arith, x.later, x.advances)
  of_actual (Actual-F.Var a) least most h =
      let x = a.1 least most (ap (λ (p : Part). p least) (sym (actual_opened (Actual-F.Var a.0))) ∙ h) in
      omega (arith, x.later, x.advances)

  -- ---- accesses

  record SubscriptsWalked (fs : Faults) (least most : ℕ) : Type 0 where
    grows : least ≤ most
    apart : AreApart fs least most
    kinds : Each IsInExpression fs

  subscripts_walked : (ys : List (With OfExpr)) (n least most : ℕ) → in_turn (map expr_part (exprs ys)) least ≡ Some most → SubscriptsWalked (subscripts_checks t n (map (checked_expr t) (exprs ys))) least most
  subscripts_walked [] n least most h = record { grows = omega (arith, same_some h); apart = apart_none least most; kinds = each_none IsInExpression }
  subscripts_walked (y ∷ ys) n least most h =
      let w = checked_expr t y.0 in
      let narrow = is_narrow (t.type_at (index_type (t.type_at n))) in
      let ranged = one_if narrow IndexOutOfRange w.first in
      let rest = subscripts_checks t (element_type (t.type_at n)) (map (checked_expr t) (exprs ys)) in
      let x = and_then_found (in_turn (map expr_part (exprs ys))) (expr_part y.0 least) most h in
      let mid = x.0 in
      let a = y.1 least mid x.1 in
      let b = subscripts_walked ys (element_type (t.type_at n)) mid most x.2 in
      let own = a.walked in
      let range = each_if (λ f. (f.kind ≡ IndexOutOfRange) × (f.at ≡ w.first)) narrow IndexOutOfRange w.first (refl, refl) in
      let both = apart_both w.faults ranged least mid
      (apart_wider w.faults w.first mid least mid own.apart a.later (omega arith)) (apart_wider ranged w.first (suc w.first) least mid (apart_if narrow IndexOutOfRange w.first) a.later (omega (arith, own.advances)))
      (λ i k f g p q same at. absurd (omega (arith, own.behind i f p (same ∙ (range k g q).0), at, (range k g q).1))) in
      record {
        grows = omega (arith, a.later, own.advances, b.grows);
        apart = apart_before (w.faults ++ ranged) rest least mid most both b.apart (omega (arith, a.later, own.advances)) b.grows;
        kinds = each_both IsInExpression (w.faults ++ ranged) rest (each_both IsInExpression w.faults ranged own.kinds (each_if IsInExpression narrow IndexOutOfRange w.first refl)) b.kinds;
      }

  of_access : (y : Access-F (With OfActual) (With OfForm) (With OfAccess) (With OfExpr)) → OfAccess (roll-Access (map-Access (With OfActual) (With OfForm) (With OfAccess) (With OfExpr) Actual ExprForm Access Expr (λ e. e.0) (λ e. e.0) (λ e. e.0) (λ e. e.0) y))
  of_access y least most h =
      let d = map-Access (With OfActual) (With OfForm) (With OfAccess) (With OfExpr) Actual ExprForm Access Expr (λ e. e.0) (λ e. e.0) (λ e. e.0) (λ e. e.0) y in
      let opened = ap (λ (p : Part). p least) (sym (fold-roll-Access Part Part Part Part actual_step rising.form_step rising.access_step rising.expr_step d)) ∙ h in
      let x = and_then_found (in_turn (map expr_part (exprs y.subscripts))) (token y.at least) most opened in
      let at = token_is y.at least x.0 x.1 in
      let s = subscripts_walked y.subscripts (var_type t y.var) x.0 most x.2 in
      let fs = subscripts_checks t (var_type t y.var) (map (checked_expr t) (exprs y.subscripts)) in
      subst (λ (w : Checked). AccessWalked w least most) (sym (fold-roll-Access (Unit {0}) Faults Checked Checked (λ a. tt) (checking.form_step t) (checking.access_step t) checking.expr_step d))
      (record { later = at.0; advances = omega (arith, at.1, s.grows); apart = apart_wider fs x.0 most (suc y.at) most s.apart (omega (arith, at.1)) (omega arith); kinds = s.kinds })

  -- ---- forms

  from_form : (d : ExprForm-F Actual ExprForm Access Expr) (least most : ℕ)
      → (rising.form_step (map-ExprForm Actual ExprForm Access Expr Part Part Part Part actual_part form_part access_part expr_part d) least ≡ Some most
      → Walked (checking.form_step t (map-ExprForm Actual ExprForm Access Expr (Unit {0}) Faults Checked Checked (λ a. tt) (form_checks t) (checked_access t) (checked_expr t) d)) least most)
      → form_part (roll-ExprForm d) least ≡ Some most → Walked (form_checks t (roll-ExprForm d)) least most
  from_form d least most f h =
      subst (λ fs. Walked fs least most) (sym (fold-roll-ExprForm (Unit {0}) Faults Checked Checked (λ a. tt) (checking.form_step t) (checking.access_step t) checking.expr_step d))
      (f (ap (λ (p : Part). p least) (sym (fold-roll-ExprForm Part Part Part Part actual_step rising.form_step rising.access_step rising.expr_step d)) ∙ h))

  of_used : (w : Checked) (least most : ℕ) → AccessWalked w least most → Walked (checking.used_checks w) least most
  of_used w least most a =
      let own = one UndefinedValue w.first in
      record {
        advances = omega (arith, a.later, a.advances);
        apart = apart_wider (w.faults ++ own) w.first most least most (apart_behind w.faults own w.first (suc w.first) most a.apart (apart_one UndefinedValue w.first) (omega arith) (omega (arith, a.advances))) a.later (omega arith);
        kinds = each_both IsInExpression w.faults own a.kinds (each_one IsInExpression UndefinedValue w.first refl);
        behind = each_both (IsBehind least) w.faults own (λ k f h is. omega (arith, a.later, (a.apart.within k f h).0)) (each_one (IsBehind least) UndefinedValue w.first (λ is. absurd (other is)));
      }
    where
      other : UndefinedValue ≡ IndexOutOfRange → ⊥
      other is = cc

  of_one : (w : Checked) (fs : Faults) (at least most : ℕ) → least ≤ at → OfOperator fs at → ExprWalked w (suc at) most → Walked (w.faults ++ fs) least most
  of_one w fs at least most low o e =
      let own = e.walked in
      record {
        advances = omega (arith, low, e.later, own.advances);
        apart = apart_wider (w.faults ++ fs) at most least most
            (apart_behind w.faults fs at (suc at) most (apart_wider w.faults w.first most (suc at) most own.apart e.later (omega arith)) o.apart (omega arith) (omega (arith, e.later, own.advances))) low (omega arith);
        kinds = each_both IsInExpression w.faults fs own.kinds (λ k f h. operator_in f.kind (o.kinds k f h));
        behind = each_both (IsBehind least) w.faults fs (λ k f h is. omega (arith, low, e.later, own.behind k f h is)) (operator_behind fs at least o);
      }

  of_two : (w : Checked) (fs : Faults) (least mid most : ℕ) → ExprWalked w least mid → Walked fs mid most → Walked (w.faults ++ fs) least most
  of_two w fs least mid most e g =
      let own = e.walked in
      record {
        advances = omega (arith, e.later, own.advances, g.advances);
        apart = apart_before w.faults fs least mid most (apart_wider w.faults w.first mid least mid own.apart e.later (omega arith)) g.apart (omega (arith, e.later, own.advances)) (omega (arith, g.advances));
        kinds = each_both IsInExpression w.faults fs own.kinds g.kinds;
        behind = each_both (IsBehind least) w.faults fs (λ k f h is. omega (arith, e.later, own.behind k f h is)) (λ k f h is. omega (arith, e.later, own.advances, g.behind k f h is));
      }

  of_form : (y : ExprForm-F (With OfActual) (With OfForm) (With OfAccess) (With OfExpr)) → OfForm (roll-ExprForm (map-ExprForm (With OfActual) (With OfForm) (With OfAccess) (With OfExpr) Actual ExprForm Access Expr (λ e. e.0) (λ e. e.0) (λ e. e.0) (λ e. e.0) y))
  of_form (ExprForm-F.Const boolean n) least most =
      from_form (ExprForm-F.Const boolean n) least most
      (λ h. record { advances = omega (arith, same_some h); apart = apart_none least most; kinds = each_none IsInExpression; behind = each_none (IsBehind least) })
  of_form (ExprForm-F.«ExprForm::Value» a) least most = from_form (ExprForm-F.«ExprForm::Value» a.0) least most (λ h. of_used (checked_access t a.0) least most (a.1 least most h))
  of_form (ExprForm-F.Unary op e at) least most =
      from_form (ExprForm-F.Unary op e.0 at) least most
      (λ h.
      let x = and_then_found (expr_part e.0) (token at least) most h in
      let here = token_is at least x.0 x.1 in
      of_one (checked_expr t e.0) (unary_checks op at) at least most here.0 (of_unary op at) (e.1 (suc at) most (ap (expr_part e.0) here.1 ∙ x.2)))
  of_form (ExprForm-F.Binary op left right at) least most =
      from_form (ExprForm-F.Binary op left.0 right.0 at) least most
      (λ h.
      let x = and_then_found (before (token at) (expr_part right.0)) (expr_part left.0 least) most h in
      let y = and_then_found (expr_part right.0) (token at x.0) most x.2 in
      let here = token_is at x.0 y.0 y.1 in
      of_two (checked_expr t left.0) ((checked_expr t right.0).faults ++ binary_checks op at) least x.0 most (left.1 least x.0 x.1)
      (of_one (checked_expr t right.0) (binary_checks op at) at x.0 most here.0 (of_binary op at) (right.1 (suc at) most (ap (expr_part right.0) here.1 ∙ y.2))))
  of_form (ExprForm-F.Call routine actuals slot at) least most =
      from_form (ExprForm-F.Call routine (actuals_in actuals) slot at) least most
      (λ h.
      let x = and_then_found (in_turn (map actual_part (actuals_in actuals))) (token at least) most h in
      let here = token_is at least x.0 x.1 in
      record { advances = omega (arith, here.0, here.1, actuals_grow actuals x.0 most x.2); apart = apart_none least most; kinds = each_none IsInExpression; behind = each_none (IsBehind least) })

  of_expr : (y : Expr-F (With OfActual) (With OfForm) (With OfAccess) (With OfExpr)) → OfExpr (roll-Expr (map-Expr (With OfActual) (With OfForm) (With OfAccess) (With OfExpr) Actual ExprForm Access Expr (λ e. e.0) (λ e. e.0) (λ e. e.0) (λ e. e.0) y))
  of_expr y least most h =
      let d = map-Expr (With OfActual) (With OfForm) (With OfAccess) (With OfExpr) Actual ExprForm Access Expr (λ e. e.0) (λ e. e.0) (λ e. e.0) (λ e. e.0) y in
      let x = from_test (nat_le least y.first) (form_part y.form.0 y.first) most (ap (λ (p : Part). p least) (sym (fold-roll-Expr Part Part Part Part actual_step rising.form_step rising.access_step rising.expr_step d)) ∙ h) in
      subst (λ (w : Checked). ExprWalked w least most) (sym (fold-roll-Expr (Unit {0}) Faults Checked Checked (λ a. tt) (checking.form_step t) (checking.access_step t) checking.expr_step d))
      (record { later = at_most least y.first x.0; walked = y.form.1 y.first most x.1 })

  pub expr_walked : (e : Expr) → OfExpr e
  expr_walked =
      ind-Expr OfActual OfForm OfAccess OfExpr
      (λ x y is. subst (λ z. OfActual (roll-Actual z)) is (of_actual y))
      (λ x y is. subst (λ z. OfForm (roll-ExprForm z)) is (of_form y))
      (λ x y is. subst (λ z. OfAccess (roll-Access z)) is (of_access y))
      (λ x y is. subst (λ z. OfExpr (roll-Expr z)) is (of_expr y))

  pub access_walked : (a : Access) → OfAccess a
  access_walked =
      ind-Access OfActual OfForm OfAccess OfExpr
      (λ x y is. subst (λ z. OfActual (roll-Actual z)) is (of_actual y))
      (λ x y is. subst (λ z. OfForm (roll-ExprForm z)) is (of_form y))
      (λ x y is. subst (λ z. OfAccess (roll-Access z)) is (of_access y))
      (λ x y is. subst (λ z. OfExpr (roll-Expr z)) is (of_expr y))
