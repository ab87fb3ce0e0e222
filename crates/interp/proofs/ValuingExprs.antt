-- What is read at a variable's place is what the state holds there.
use Rattle.std.proofs.Common.{◌≡◌, ℕ, true, List, sym, ap, ◌∙◌, ℤ, rules, Option, Some, None, Ok, Err}
use Rattle.std.specs.Int.{w32}
use Rattle.std.specs.List.{slice_get}
use Rattle.std.specs.Option.{option_and_then, option_map, unwrap_or}
use Rattle.std.proofs.lemmas.Bool.{true≢false}
use Rattle.std.proofs.lemmas.Int.{ints, to_z-of_z}
use Rattle.arithmetic.specs.Numbers.{IsNumber}
use Rattle.pas_program.specs.declared.expr.Access.{Access}
use Rattle.pas_program.specs.declared.expr.Actual.{Actual}
use Rattle.pas_program.specs.declared.expr.Actual.TheFolds.{fold-Actual, fold-ExprForm, fold_out-Expr, fold_out-ExprForm, fold-roll-ExprForm, map-ExprForm}
use Rattle.pas_program.specs.declared.expr.Actual.TheOpen.{ExprForm-F}
use Rattle.pas_program.specs.declared.expr.Actual.TheViews.{out-Expr, out-ExprForm, roll-ExprForm}
use Rattle.pas_program.specs.declared.expr.Expr.{Expr}
use Rattle.pas_program.specs.declared.expr.ExprForm.{ExprForm}
use Rattle.pas_program.specs.declared.program.Program.{Program}
use Rattle.pas_program.specs.declared.variable.VarDef.{VarDef}
use Rattle.pas_program.specs.Checked.{tables}
use Rattle.pas_program.specs.Typed.{type_of_var}
use Rattle.pas_program.specs.Types.{is_scalar}
use Rattle.control_points.specs.Evaluation as meaning
use Rattle.control_points.specs.Evaluation.{Answer, Spot, Valued, View, access_step, defined, expr_step, form_step, spot, then_with, value, var_type}
use Rattle.interp.specs.declared.frame.Frame.{Frame}
use Rattle.interp.specs.Meant.{IsSpot, valued}
use Rattle.interp.specs.Standing.{StoreIs, content}
use mir.Val.{of_z, to_z}

-- a number of the language is the same after it was passed as bits
pub number_same : (z : ℤ) → IsNumber z → to_z w32 (of_z w32 z) ≡ z
number_same z h = let low = h.0 in let high = h.1 in to_z-of_z w32 z (search (rules, ints))

-- an expression that is an access has the value that is held where the access leads to
pub value_of_access : (view : View) (e : Expr) (a : Access) (f : ExprForm) → (out-Expr e).form ≡ f → out-ExprForm f ≡ ExprForm-F.«ExprForm::Value» a → value view e ≡ then_with (spot view a) (meaning.used view)
value_of_access view e a f is o =
    ap (λ (v : Valued). v.value) (fold_out-Expr (Unit {0}) (Answer ℤ) (Answer Spot) Valued (λ a. tt) (form_step view) (access_step view) expr_step e)
    ∙ ap (fold-ExprForm (Unit {0}) (Answer ℤ) (Answer Spot) Valued (λ a. tt) (form_step view) (access_step view) expr_step) is
    ∙ fold_out-ExprForm (Unit {0}) (Answer ℤ) (Answer Spot) Valued (λ a. tt) (form_step view) (access_step view) expr_step f
    ∙ ap (λ d. form_step view (map-ExprForm Actual ExprForm Access Expr (Unit {0}) (Answer ℤ) (Answer Spot) Valued
    (fold-Actual (Unit {0}) (Answer ℤ) (Answer Spot) Valued (λ a. tt) (form_step view) (access_step view) expr_step)
    (fold-ExprForm (Unit {0}) (Answer ℤ) (Answer Spot) Valued (λ a. tt) (form_step view) (access_step view) expr_step)
    (spot view) (valued view) d)) o

-- what is used of a scalar
pub used_is : (p : Program) (frames : List Frame) (scalars : List (Option ℤ)) (view : View) → StoreIs p frames scalars view.store → (t at a : ℕ) → is_scalar (slice_get p.types t) ≡ true
    → (x : Answer Spot) → IsSpot p frames t at x (Ok a) → then_with x (meaning.used view) ≡ defined at (content scalars a)
used_is p frames scalars view h t at a s (Ok x) i = ap (λ n. defined n (view.store x.place)) i.1 ∙ ap (defined at) (h.held x.place a t i.0 s)
used_is p frames scalars view h t at a s (Err f) i = absurd i

-- the value of a call is what its slot holds
pub value_of_call : (view : View) (e : Expr) (routine : ℕ) (actuals : List Actual) (slot at : ℕ) → (out-Expr e).form ≡ roll-ExprForm (ExprForm-F.Call routine actuals slot at)
    → value view e ≡ meaning.used view (record { place = view.place slot; at = at })
value_of_call view e routine actuals slot at is =
    ap (λ (v : Valued). v.value) (fold_out-Expr (Unit {0}) (Answer ℤ) (Answer Spot) Valued (λ a. tt) (form_step view) (access_step view) expr_step e)
    ∙ ap (fold-ExprForm (Unit {0}) (Answer ℤ) (Answer Spot) Valued (λ a. tt) (form_step view) (access_step view) expr_step) is
    ∙ fold-roll-ExprForm (Unit {0}) (Answer ℤ) (Answer Spot) Valued (λ a. tt) (form_step view) (access_step view) expr_step (ExprForm-F.Call routine actuals slot at)

-- a variable of a scalar type
pub scalar_type : (p : Program) (v : ℕ) → is_scalar (type_of_var (tables p) v) ≡ true → is_scalar (slice_get p.types (var_type (tables p) v)) ≡ true
scalar_type p v h = by_var (slice_get p.vars v) h
  where
    by_var : (o : Option VarDef) → is_scalar (option_and_then (λ (d : VarDef). slice_get p.types d.of_type) o) ≡ true → is_scalar (slice_get p.types (unwrap_or (option_map (λ (d : VarDef). d.of_type) o) 0)) ≡ true
    by_var None h = absurd (true≢false (sym h))
    by_var (Some d) h = h
