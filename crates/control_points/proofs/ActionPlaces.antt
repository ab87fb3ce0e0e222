-- Where the places of an action rise, two of its errors that are of one kind have different places.
use Rattle.std.proofs.Common.{◌≡◌, inl, inr, ℕ, suc, ◌<◌, ◌≤◌, Bool, true, false, cond, List, [], ◌∷◌, ◌++◌, map, refl, sym, ap, subst, ◌∙◌, Option, Some, None, arith}
use Rattle.std.proofs.lemmas.Bool.{true≢false}
use Rattle.std.specs.List.{slice_get}
use Rattle.px_base.specs.declared.kind.Kind.{Kind}
use Rattle.px_base.specs.declared.kind.Kind.TheVariants.{Overflow, DivisionByZero, ModulusNotPositive, UndefinedValue, IndexOutOfRange, ValueOutOfRange, NoCaseLabel, NoNeighbour, NoNumber, WidthOutOfRange, Assertion, NoResult}
use Rattle.pas_program.specs.declared.expr.Access.{Access}
use Rattle.pas_program.specs.declared.expr.Actual.{Actual}
use Rattle.pas_program.specs.declared.expr.Actual.TheFolds.{fold_out-Actual, map-Actual}
use Rattle.pas_program.specs.declared.expr.Actual.TheOpen.{Actual-F}
use Rattle.pas_program.specs.declared.expr.Actual.TheViews.{out-Access, out-Actual, out-Expr}
use Rattle.pas_program.specs.declared.expr.Expr.{Expr}
use Rattle.pas_program.specs.declared.expr.ExprForm.{ExprForm}
use Rattle.pas_program.specs.declared.routine.Assert.{Assert}
use Rattle.pas_program.specs.declared.statement.WriteItem.{WriteItem}
use Rattle.pas_program.specs.declared.statement.WriteValue.{WriteValue}
use Rattle.pas_program.specs.declared.statement.WriteValue.TheVariants as written
use Rattle.pas_program.specs.Rising.{Part, access_part, actual_part, actual_step, before, condition_part, conditions_part, expr_part, form_part, in_turn, item_part, width_part, written_part}
use Rattle.pas_program.specs.Rising as rising
use Rattle.pas_program.specs.Tables.{Tables}
use Rattle.control_points.specs.declared.fault.Fault.{Fault}
use Rattle.control_points.specs.Checking.{Faults, access_checks, actual_checks, assert_check, assert_checks, assigned_checks, bounds_checks, expr_checks, is_narrow, item_checks, one, one_if, passing_checks, read_checks, result_checks, selector_checks, width_checks, written_checks}
use Rattle.control_points.specs.Evaluation.{access_type, var_type}
use Rattle.control_points.proofs.ExprPlaces.{AreApart, AreOthers, Differ, Each, IsInExpression, access_walked, apart_before, apart_both, apart_none, apart_one, apart_wider, differ_both, differ_if, differ_none, differ_one, each_both, each_if, each_none, each_one, expr_walked, in_expression, token_is}
use Rattle.control_points.proofs.JudgedParts.{first_is}
use Rattle.control_points.proofs.Listed.{get_either, same_some}
use Rattle.control_points.proofs.ValidBasics.{and_then_found}

-- ---- kinds

abbrev pub is_assertion : Kind → Bool
is_assertion Assertion = true
is_assertion _ = false

abbrev pub IsQuiet : Fault → Type 0
IsQuiet f = is_assertion f.kind ≡ false

quiet_in : (k : Kind) → in_expression k ≡ true → is_assertion k ≡ false
quiet_in Assertion h = absurd (true≢false (sym h))
quiet_in Overflow h = refl
quiet_in DivisionByZero h = refl
quiet_in ModulusNotPositive h = refl
quiet_in UndefinedValue h = refl
quiet_in IndexOutOfRange h = refl
quiet_in ValueOutOfRange h = refl
quiet_in NoCaseLabel h = refl
quiet_in NoNeighbour h = refl
quiet_in NoNumber h = refl
quiet_in WidthOutOfRange h = refl
quiet_in NoResult h = refl

-- an error of an action that is none of an expression
abbrev IsOwn : Fault → Type 0
IsOwn f = in_expression f.kind ≡ false

others_by_kind : (fs gs : Faults) → Each IsInExpression fs → Each IsOwn gs → AreOthers fs gs
others_by_kind fs gs p q i k f g x y same at = true≢false (sym (p i f x) ∙ ap in_expression same ∙ q k g y)

others_both : (fs gs hs : Faults) → AreOthers fs gs → AreOthers fs hs → AreOthers fs (gs ++ hs)
others_both fs gs hs p q i k f g x y same at = elim (get_either gs hs k g y) [ inl a ↦ p i k f g x a same at | inr a ↦ q i _ f g x a.1 same at ]

others_by_place : (fs gs : Faults) (low mid high : ℕ) → AreApart fs low mid → AreApart gs mid high → AreOthers fs gs
others_by_place fs gs low mid high p q i k f g x y same at = absurd (omega (arith, at, (p.within i f x).1, (q.within k g y).0))

-- ---- what an action has, of which two of one kind have different places, and none of which is of an assertion

pub record AreSettled (fs : Faults) : Type 0 where
  pub differ : Differ fs
  pub quiet : Each IsQuiet fs

-- of a part of a text
pub record Told (fs : Faults) (least most : ℕ) : Type 0 where
  pub grows : least ≤ most
  pub apart : AreApart fs least most
  pub quiet : Each IsQuiet fs

pub told_settled : (fs : Faults) (least most : ℕ) → Told fs least most → AreSettled fs
told_settled fs least most h = record { differ = (h.apart).differ; quiet = h.quiet }

told_none : (least most : ℕ) → least ≤ most → Told [] least most
told_none least most h = record { grows = h; apart = apart_none least most; quiet = each_none IsQuiet }

told_both : (fs gs : Faults) (least mid most : ℕ) → Told fs least mid → Told gs mid most → Told (fs ++ gs) least most
told_both fs gs least mid most p q = record {
  grows = omega (arith, p.grows, q.grows);
  apart = apart_before fs gs least mid most p.apart q.apart p.grows q.grows;
  quiet = each_both IsQuiet fs gs p.quiet q.quiet;
}

module _ (t : Tables) where
  pub told_expr : (e : Expr) (least most : ℕ) → expr_part e least ≡ Some most → Told (expr_checks t e) least most
  told_expr e least most h =
      let w = expr_walked t e least most h in
      let own = w.walked in
      record { grows = omega (arith, w.later, own.advances); apart = apart_wider _ _ most least most own.apart w.later (omega arith); quiet = λ k f x. quiet_in f.kind (own.kinds k f x) }

  pub told_access : (a : Access) (least most : ℕ) → access_part a least ≡ Some most → Told (access_checks t a) least most
  told_access a least most h =
      let w = access_walked t a least most h in
      record { grows = omega (arith, w.later, w.advances); apart = apart_wider _ _ most least most w.apart (omega (arith, w.later)) (omega arith); quiet = λ k f x. quiet_in f.kind (w.kinds k f x) }

  -- an expression, and an error of its whole
  told_own : (e : Expr) (b : Bool) (kind : Kind) (least most : ℕ) → in_expression kind ≡ false → is_assertion kind ≡ false → expr_part e least ≡ Some most → Told (expr_checks t e ++ one_if b kind (out-Expr e).first) least most
  told_own e b kind least most other silent h =
      let w = expr_walked t e least most h in
      let own = w.walked in
      let same = first_is t e in
      let x = told_expr e least most h in
      let fs = expr_checks t e in
      let gs = one_if b kind (out-Expr e).first in
      record {
        grows = x.grows;
        apart = apart_both fs gs least most x.apart
            (record { differ = differ_if b kind (out-Expr e).first; within = each_if (λ f. (least ≤ f.at) × (f.at < most)) b kind (out-Expr e).first (omega (arith, same, w.later), omega (arith, same, own.advances)) })
            (others_by_kind fs gs own.kinds (each_if IsOwn b kind (out-Expr e).first other));
        quiet = each_both IsQuiet fs gs x.quiet (each_if IsQuiet b kind (out-Expr e).first silent);
      }

  told_assigned : (n : ℕ) (e : Expr) (least most : ℕ) → expr_part e least ≡ Some most → Told (assigned_checks t n e) least most
  told_assigned n e least most h = told_own e (is_narrow (t.type_at n)) ValueOutOfRange least most refl refl h

  pub told_assignment : (a : Access) (e : Expr) (least most : ℕ) → before (access_part a) (expr_part e) least ≡ Some most → Told (access_checks t a ++ assigned_checks t (access_type t a) e) least most
  told_assignment a e least most h =
      let x = and_then_found (expr_part e) (access_part a least) most h in
      told_both _ _ least x.0 most (told_access a least x.0 x.1) (told_assigned (access_type t a) e x.0 most x.2)

  pub told_copy : (a b : Access) (least most : ℕ) → before (access_part a) (access_part b) least ≡ Some most → Told (access_checks t a ++ access_checks t b) least most
  told_copy a b least most h =
      let x = and_then_found (access_part b) (access_part a least) most h in
      told_both _ _ least x.0 most (told_access a least x.0 x.1) (told_access b x.0 most x.2)

  -- ---- actuals

  told_by_form : (v : ℕ) (d : Actual-F Actual ExprForm Access Expr) (least most : ℕ) → actual_step (map-Actual Actual ExprForm Access Expr Part Part Part Part actual_part form_part access_part expr_part d) least ≡ Some most → Told (actual_checks t v d) least most
  told_by_form v (Actual-F.«Actual::Value» e) least most h = told_assigned (var_type t v) e least most h
  told_by_form v (Actual-F.Whole a) least most h = told_access a least most h
  told_by_form v (Actual-F.Var a) least most h = told_access a least most h

  told_actual : (v : ℕ) (a : Actual) (least most : ℕ) → actual_part a least ≡ Some most → Told (actual_checks t v (out-Actual a)) least most
  told_actual v a least most h =
      told_by_form v (out-Actual a) least most (ap (λ (p : Part). p least) (sym (fold_out-Actual Part Part Part Part actual_step rising.form_step rising.access_step rising.expr_step a)) ∙ h)

  pub told_passing : (actuals : List Actual) (formals : List ℕ) (least most : ℕ) → in_turn (map actual_part actuals) least ≡ Some most → Told (passing_checks t actuals formals) least most
  told_passing [] formals least most h = told_none least most (omega (arith, same_some h))
  told_passing (a ∷ actuals) [] least most h =
      let x = and_then_found (in_turn (map actual_part actuals)) (actual_part a least) most h in
      let first = told_actual 0 a least x.0 x.1 in
      let rest = told_passing actuals [] x.0 most x.2 in
      told_none least most (omega (arith, first.grows, rest.grows))
  told_passing (a ∷ actuals) (v ∷ formals) least most h =
      let x = and_then_found (in_turn (map actual_part actuals)) (actual_part a least) most h in
      told_both _ _ least x.0 most (told_actual v a least x.0 x.1) (told_passing actuals formals x.0 most x.2)

  -- ---- `write`, and a selector

  told_written : (w : WriteValue) (least most : ℕ) → written_part w least ≡ Some most → Told (written_checks t w) least most
  told_written (written.Value e) least most h = told_expr e least most h
  told_written (written.Text bytes at) least most h = told_none least most (omega (arith, same_some h))

  told_width : (o : Option Expr) (least most : ℕ) → width_part o least ≡ Some most → Told (width_checks t o) least most
  told_width None least most h = told_none least most (omega (arith, same_some h))
  told_width (Some e) least most h = told_own e true WidthOutOfRange least most refl refl h

  pub told_item : (item : WriteItem) (least most : ℕ) → item_part item least ≡ Some most → Told (item_checks t item) least most
  told_item item least most h =
      let x = and_then_found (width_part item.width) (written_part item.value least) most h in
      told_both _ _ least x.0 most (told_written item.value least x.0 x.1) (told_width item.width x.0 most x.2)

  pub told_selector : (e : Expr) (least most : ℕ) → expr_part e least ≡ Some most → Told (selector_checks t e) least most
  told_selector e least most h = told_own e true NoCaseLabel least most refl refl h

  -- ---- `read`, and the bounds of a `for`

  number_no_value : NoNumber ≡ ValueOutOfRange → ⊥
  number_no_value is = cc

  pub settled_read : (n : ℕ) (a : Access) (least most : ℕ) → access_part a least ≡ Some most → AreSettled (read_checks t n a)
  settled_read n a least most h =
      let w = access_walked t a least most h in
      let at = (out-Access a).at in
      let narrow = is_narrow (t.type_at n) in
      let first = one NoNumber at in
      let second = one_if narrow ValueOutOfRange at in
      let x = told_access a least most h in
      let is_first = each_one (λ f. f.kind ≡ NoNumber) NoNumber at refl in
      let is_second = each_if (λ f. f.kind ≡ ValueOutOfRange) narrow ValueOutOfRange at refl in
      record {
        differ = differ_both (access_checks t a) (first ++ second) (x.apart).differ
            (differ_both first second (differ_one NoNumber at) (differ_if narrow ValueOutOfRange at) (λ i k f g p q same there. number_no_value (sym (is_first i f p) ∙ same ∙ is_second k g q)))
            (others_by_kind (access_checks t a) (first ++ second) w.kinds (each_both IsOwn first second (each_one IsOwn NoNumber at refl) (each_if IsOwn narrow ValueOutOfRange at refl)));
        quiet = each_both IsQuiet (access_checks t a) (first ++ second) x.quiet (each_both IsQuiet first second (each_one IsQuiet NoNumber at refl) (each_if IsQuiet narrow ValueOutOfRange at refl));
      }

  pub settled_bounds : (n : ℕ) (first last : Expr) (least most : ℕ) → before (expr_part first) (expr_part last) least ≡ Some most → AreSettled (bounds_checks t n first last)
  settled_bounds n first last least most h =
      let x = and_then_found (expr_part last) (expr_part first least) most h in
      let mid = x.0 in
      let narrow = is_narrow (t.type_at n) in
      let p = expr_walked t first least mid x.1 in
      let q = expr_walked t last mid most x.2 in
      let a = told_expr first least mid x.1 in
      let b = told_expr last mid most x.2 in
      let low = (out-Expr first).first in
      let high = (out-Expr last).first in
      let apart : low < high = omega (arith, first_is t first, first_is t last, (p.walked).advances, q.later) in
      let fs = expr_checks t first in
      let gs = expr_checks t last in
      let one_low = one_if narrow ValueOutOfRange low in
      let one_high = one_if narrow ValueOutOfRange high in
      let both = one_low ++ one_high in
      let at_low = each_if (λ f. f.at ≡ low) narrow ValueOutOfRange low refl in
      let at_high = each_if (λ f. f.at ≡ high) narrow ValueOutOfRange high refl in
      let own = each_both IsOwn one_low one_high (each_if IsOwn narrow ValueOutOfRange low refl) (each_if IsOwn narrow ValueOutOfRange high refl) in
      let silent = each_both IsQuiet one_low one_high (each_if IsQuiet narrow ValueOutOfRange low refl) (each_if IsQuiet narrow ValueOutOfRange high refl) in
      let differ_ends = differ_both one_low one_high (differ_if narrow ValueOutOfRange low) (differ_if narrow ValueOutOfRange high) (λ i k f g y z same at. absurd (omega (arith, apart, at_low i f y, at_high k g z, at))) in
      record {
        differ = differ_both fs (gs ++ both) (a.apart).differ
            (differ_both gs both (b.apart).differ differ_ends (others_by_kind gs both (q.walked).kinds own))
            (others_both fs gs both (others_by_place fs gs least mid most a.apart b.apart) (others_by_kind fs both (p.walked).kinds own));
        quiet = each_both IsQuiet fs (gs ++ both) a.quiet (each_both IsQuiet gs both b.quiet silent);
      }

pub settled_result : (o : Option ℕ) (at : ℕ) → AreSettled (result_checks o at)
settled_result None at = record { differ = differ_none; quiet = each_none IsQuiet }
settled_result (Some v) at = record { differ = differ_one NoResult at; quiet = each_one IsQuiet NoResult at refl }

-- ---- assertions

abbrev pub IsAsserted : Fault → Type 0
IsAsserted f = is_assertion f.kind ≡ true

pub record Asserts (fs : Faults) (least most : ℕ) : Type 0 where
  pub grows : least ≤ most
  pub apart : AreApart fs least most
  pub loud : Each IsAsserted fs

unless_asserts : (sometime : Bool) (at least : ℕ) → least ≤ at → Asserts (cond sometime [] (one Assertion at)) least (suc at)
unless_asserts true at least h = record { grows = omega (arith, h); apart = apart_none least (suc at); loud = each_none IsAsserted }
unless_asserts false at least h = record { grows = omega (arith, h); apart = apart_wider (one Assertion at) at (suc at) least (suc at) (apart_one Assertion at) h (omega arith); loud = each_one IsAsserted Assertion at refl }

one_asserts : (o : Option Assert) (least most : ℕ) → condition_part o least ≡ Some most → Asserts (assert_check o) least most
one_asserts None least most h = record { grows = omega (arith, same_some h); apart = apart_none least most; loud = each_none IsAsserted }
one_asserts (Some a) least most h = let at = token_is (out-Expr a.cond).first least most h in subst (Asserts (assert_check (Some a)) least) at.1 (unless_asserts a.sometime (out-Expr a.cond).first least at.0)

pub all_assert : (asserts : List Assert) (listed : List ℕ) (least most : ℕ) → conditions_part asserts listed least ≡ Some most → Asserts (assert_checks asserts listed) least most
all_assert asserts [] least most h = record { grows = omega (arith, same_some h); apart = apart_none least most; loud = each_none IsAsserted }
all_assert asserts (a ∷ listed) least most h =
    let x = and_then_found (conditions_part asserts listed) (condition_part (slice_get asserts a) least) most h in
    let p = one_asserts (slice_get asserts a) least x.0 x.1 in
    let q = all_assert asserts listed x.0 most x.2 in
    record {
      grows = omega (arith, p.grows, q.grows);
      apart = apart_before _ _ least x.0 most p.apart q.apart p.grows q.grows;
      loud = each_both IsAsserted (assert_check (slice_get asserts a)) (assert_checks asserts listed) p.loud q.loud;
    }
