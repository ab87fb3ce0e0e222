-- What is found of an expression and of an actual, one level at a time.
use Rattle.std.proofs.Common.{◌≡◌, ℕ, List, [], ◌∷◌, Option, Some, None, Result, Ok, Err, map, refl, sym, ap, subst, ◌∙◌}
use Rattle.std.specs.Option.{option_map}
use Rattle.px_base.specs.declared.place.Span.{Span}
use Rattle.pas_tree.specs.Expr.{expr_span, span_of_form}
use Rattle.pas_tree.specs.declared.expr.Access.{Access}
use Rattle.pas_tree.specs.declared.expr.Actual.{Actual}
use Rattle.pas_tree.specs.declared.expr.ActualValue.{ActualValue}
use Rattle.pas_tree.specs.declared.expr.ActualValue.TheOpen.{ActualValue-F, Expr-F}
use Rattle.pas_tree.specs.declared.expr.ActualValue.TheFolds.{fold_out-Access, fold_out-Expr, fold_out-Actual, fold-roll-ActualValue, fold-roll-Expr, map-Actual, map-Expr}
use Rattle.pas_tree.specs.declared.expr.ActualValue.TheViews.{out-Access, out-Expr, out-Actual}
use Rattle.pas_tree.specs.declared.expr.ActualValue.TheVariants as actual_value
use Rattle.pas_tree.specs.declared.expr.Expr.{Expr}
use Rattle.pas_tree.specs.declared.expr.Expr.TheVariants as form
use Rattle.pas_check.specs.declared.fault.Rule.TheVariants as rule
use Rattle.pas_check.specs.declared.meaning.Variable.{Variable}
use Rattle.pas_check.specs.Expr.{Found, Given, Reach, access_found, access_step, accessed, actual_step, expr_step, found, found_writes, given, lower_first, reached, value_given, value_step, variable_named}
use Rattle.pas_check.specs.Outcome.{Outcome, ◌>>=◌}
use Rattle.pas_check.specs.Sight.{Sight}
use Rattle.pas_check.specs.Written.{Written, writes_in_turn}

module _ (v : Sight) where
  same_span : (x : Expr-F ActualValue Expr Access Actual) → span_of_form (map-Expr ActualValue Expr Access Actual (Result Found ℕ) Found Reach Given (value_given v) (found v) (access_found v) (given v) x) ≡ span_of_form x
  same_span (Expr-F.Number value span) = refl
  same_span (Expr-F.Name name actuals span) = refl
  same_span (Expr-F.Indexed access span) = refl
  same_span (Expr-F.Paren inner span) = refl
  same_span (Expr-F.Not inner span) = refl
  same_span (Expr-F.Signed sign inner span) = refl
  same_span (Expr-F.Binary op left right at span) = refl

  pub first_is : (e : Expr) → (found v e).first ≡ (expr_span e).start
  unfolding found access_found given value_given
  first_is e =
      ap (λ (f : Found). f.first) (fold_out-Expr (Result Found ℕ) Found Reach Given value_step (expr_step v) (access_step v) actual_step e)
      ∙ ap (λ (s : Span). s.start) (same_span (out-Expr e))

  pub given_value : (a : Actual) → (given v a).value ≡ value_given v (out-Actual a).value
  unfolding found access_found given value_given
  given_value a = ap (λ (g : Given). g.value) (fold_out-Actual (Result Found ℕ) Found Reach Given value_step (expr_step v) (access_step v) actual_step a)

  width_step : (value : ActualValue) (width : Option Expr) → (actual_step (map-Actual ActualValue Expr Access Actual (Result Found ℕ) Found Reach Given (value_given v) (found v) (access_found v) (given v) (record { value = value; width = width }))).width ≡ option_map (found v) width
  width_step value None = refl
  width_step value (Some e) = refl

  pub given_width : (a : Actual) → (given v a).width ≡ option_map (found v) (out-Actual a).width
  unfolding found access_found given value_given
  given_width a =
      ap (λ (g : Given). g.width) (fold_out-Actual (Result Found ℕ) Found Reach Given value_step (expr_step v) (access_step v) actual_step a)
      ∙ width_step (out-Actual a).value (out-Actual a).width

  pub value_of_expression : (e : Expr) → value_given v (actual_value.Value e) ≡ Ok (found v e)
  unfolding found access_found given value_given
  value_of_expression e = ap (value_given v) (sym (actual_value.rolls-Value e)) ∙ fold-roll-ActualValue (Result Found ℕ) Found Reach Given value_step (expr_step v) (access_step v) actual_step (ActualValue-F.Value e)

  pub value_of_text : (span : Span) → value_given v (actual_value.«Text» span) ≡ Err span.start
  unfolding found access_found given value_given
  value_of_text span = ap (value_given v) (sym (actual_value.rolls-Text span)) ∙ fold-roll-ActualValue (Result Found ℕ) Found Reach Given value_step (expr_step v) (access_step v) actual_step (ActualValue-F.«Text» span)

  -- a variable with its subscripts
  pub accessed_by : (a : Access) (x : Variable) (subscripts : List Expr) → subscripts ≡ (out-Access a).subscripts → variable_named v (out-Access a).name ≡ Ok x → (access_found v a).place ≡ reached v x (map (found v) subscripts)
  unfolding found access_found given value_given accessed
  accessed_by a x subscripts same is =
      ap (λ (r : Reach). r.place) (fold_out-Access (Result Found ℕ) Found Reach Given value_step (expr_step v) (access_step v) actual_step a)
      ∙ ap (λ (o : Outcome Variable). o >>= (λ y. reached v y (map (found v) (out-Access a).subscripts))) is
      ∙ ap (λ xs. reached v x (map (found v) xs)) (sym same)

  pub access_writes : (a : Access) (subscripts : List Expr) (w : Written) → subscripts ≡ (out-Access a).subscripts → (access_found v a).writes w ≡ writes_in_turn found_writes (map (found v) subscripts) w
  unfolding found access_found given value_given
  access_writes a subscripts w same =
      ap (λ (r : Reach). r.writes w) (fold_out-Access (Result Found ℕ) Found Reach Given value_step (expr_step v) (access_step v) actual_step a)
      ∙ ap (λ xs. writes_in_turn found_writes (map (found v) xs) w) (sym same)

  -- a call is no variable
  call_by_cases : (name : Span) (actuals : List Actual) (span : Span) → (actuals ≡ [] → ⊥) → (f : Found) → f ≡ expr_step v (Expr-F.Name name (map (given v) actuals) span) → f.variable ≡ Err (lower_first f.first rule.VarActual f.value)
  call_by_cases name [] span some f e = absurd (some refl)
  call_by_cases name (a ∷ actuals) span some f e = subst (λ (g : Found). g.variable ≡ Err (lower_first g.first rule.VarActual g.value)) (sym e) refl

  pub call_is_no_variable : (e : Expr) (name : Span) (actuals : List Actual) (span : Span) → e ≡ form.Name name actuals span → (actuals ≡ [] → ⊥) → (found v e).variable ≡ Err (lower_first (found v e).first rule.VarActual (found v e).value)
  unfolding found access_found given value_given
  call_is_no_variable e name actuals span is some =
      call_by_cases name actuals span some (found v e)
      (ap (found v) (is ∙ sym (form.rolls-Name name actuals span)) ∙ fold-roll-Expr (Result Found ℕ) Found Reach Given value_step (expr_step v) (access_step v) actual_step (Expr-F.Name name actuals span))
