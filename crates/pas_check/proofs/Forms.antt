-- What expressions, variables and actuals are in the program, one level at a time.
use Rattle.std.proofs.Common.{◌≡◌, ℕ, suc, ◌+◌, ◌<◌, ◌≤◌, List, [], ◌∷◌, ◌++◌, length, get_or, drop, map, Option, Some, None, Result, Ok, refl, sym, ap, ◌∙◌, append_assoc, arith, if◌then◌else◌, nat_eq}
use Rattle.std.proofs.lemmas.List.{append-nil, drop_all, length-map}
use Rattle.std.specs.List.{slice_get}
use Rattle.px_base.specs.declared.place.Span.{Span}
use Rattle.pas_program.specs.declared.expr.Actual as built_actual
use Rattle.pas_program.specs.declared.expr.Expr as built_expr
use Rattle.pas_tree.specs.declared.expr.Access.{Access}
use Rattle.pas_tree.specs.declared.expr.Actual.{Actual}
use Rattle.pas_tree.specs.declared.expr.ActualValue.TheOpen.{ActualValue-F}
use Rattle.pas_tree.specs.declared.expr.ActualValue.TheFolds.{fold_out-Access, fold_out-Actual, fold-roll-ActualValue}
use Rattle.pas_tree.specs.declared.expr.ActualValue.TheViews.{out-Access, out-Actual}
use Rattle.pas_tree.specs.declared.expr.ActualValue.TheVariants as actual_value
use Rattle.pas_tree.specs.declared.expr.Expr.{Expr}
use Rattle.pas_check.specs.declared.access.Reached.{Reached}
use Rattle.pas_check.specs.declared.actual.Formal.{Formal}
use Rattle.pas_check.specs.declared.built.Built.{Built}
use Rattle.pas_check.specs.declared.meaning.Variable.{Variable}
use Rattle.pas_check.specs.Built.{Builds, ◌>>=◌, allowed}
use Rattle.pas_check.specs.Expr.{others, variable_named}
use Rattle.pas_check.specs.Forms.{Form, GivenForm, access_by, access_form, access_of, access_step, actual_step, actual_value_form, all_passed_form, expr_form, expr_step, given_form, operand_form, passed_form, reached_form, subscripts_form, value_step}
use Rattle.pas_check.specs.Outcome.{Outcome}
use Rattle.pas_check.specs.Sight.{Sight, parts_at}
use Rattle.pas_check.proofs.InOrder.{after, after_more, after_nothing}
use Rattle.pas_check.proofs.Passing.{drop_next, first_drop, others_drop}

-- the subscripts that were built before, and then the others, with the type that they lead to
abbrev pub after_subscripts : List built_expr.Expr → Option ((List built_expr.Expr × ℕ) × Built) → Option ((List built_expr.Expr × ℕ) × Built)
after_subscripts ys None = None
after_subscripts ys (Some p) = Some ((ys ++ p.0.0, p.0.1), p.1)

after_no_subscripts : (o : Option ((List built_expr.Expr × ℕ) × Built)) → o ≡ after_subscripts [] o
after_no_subscripts None = refl
after_no_subscripts (Some p) = refl

one_more_subscript : (ys : List built_expr.Expr) (y : built_expr.Expr) (o : Option ((List built_expr.Expr × ℕ) × Built)) → after_subscripts ys (o >>= (λ zs. Some ((y ∷ zs.0.0, zs.0.1), zs.1))) ≡ after_subscripts (ys ++ y ∷ []) o
one_more_subscript ys y None = refl
one_more_subscript ys y (Some p) = ap (λ zs. Some ((zs, p.0.1), p.1)) (sym (append_assoc ys (y ∷ []) p.0.0))

module _ (v : Sight) where
  pub given_form_value : (a : Actual) → (given_form v a).value ≡ actual_value_form v (out-Actual a).value
  unfolding expr_form access_form given_form actual_value_form
  given_form_value a = ap (λ (g : GivenForm). g.value) (fold_out-Actual (Result Form Span) Form (Builds Reached) GivenForm value_step (expr_step v) (access_step v) actual_step a)

  pub value_form_of_expression : (e : Expr) → actual_value_form v (actual_value.Value e) ≡ Ok (expr_form v e)
  unfolding expr_form access_form given_form actual_value_form
  value_form_of_expression e = ap (actual_value_form v) (sym (actual_value.rolls-Value e)) ∙ fold-roll-ActualValue (Result Form Span) Form (Builds Reached) GivenForm value_step (expr_step v) (access_step v) actual_step (ActualValue-F.Value e)

  -- a variable with its subscripts
  pub access_form_by : (a : Access) (x : Variable) (subscripts : List Expr) (b : Built) → subscripts ≡ (out-Access a).subscripts → variable_named v (out-Access a).name ≡ Ok x
      → access_form v a b ≡ reached_form v x (out-Access a).name.start (map (expr_form v) subscripts) b
  unfolding expr_form access_form given_form actual_value_form access_by
  access_form_by a x subscripts b same is =
      ap (λ (f : Builds Reached). f b) (fold_out-Access (Result Form Span) Form (Builds Reached) GivenForm value_step (expr_step v) (access_step v) actual_step a)
      ∙ ap (λ (o : Outcome Variable). allowed o >>= (λ y. reached_form v y (out-Access a).name.start (map (expr_form v) (out-Access a).subscripts) b)) is
      ∙ ap (λ xs. reached_form v x (out-Access a).name.start (map (expr_form v) xs) b) (sym same)

  -- ---- actuals, one after the other

  pub actuals_begin : (formals : List Formal) (actuals : List Actual) (b : Built) → all_passed_form formals (map (given_form v) actuals) b ≡ after [] (all_passed_form (drop 0 formals) (map (given_form v) (drop 0 actuals)) b)
  actuals_begin formals actuals b = after_nothing (all_passed_form formals (map (given_form v) actuals) b)

  pub actuals_go : (start : Option (List built_actual.Actual × Built)) (ys : List built_actual.Actual) (formals : List Formal) (actuals : List Actual) (k : ℕ) (a : Actual) (b : Built) (y : built_actual.Actual) (c : Built)
      → start ≡ after ys (all_passed_form (drop k formals) (map (given_form v) (drop k actuals)) b) → k < length actuals → a ≡ get_or actuals k a → passed_form (slice_get formals k) (given_form v a) b ≡ Some (y, c)
      → start ≡ after (ys ++ y ∷ []) (all_passed_form (drop (k + 1) formals) (map (given_form v) (drop (k + 1) actuals)) c)
  actuals_go start ys formals actuals k a b y c so h e is =
      let more : suc k ≡ k + 1 = omega arith in
      let rest = map (given_form v) (drop (k + 1) actuals) in
      so ∙ ap (λ zs. after ys (all_passed_form (drop k formals) (map (given_form v) zs) b)) (drop_next actuals k a h e)
      ∙ ap (λ f. after ys (passed_form f (given_form v a) b >>= (λ x. all_passed_form (others (drop k formals)) rest x.1 >>= (λ xs. Some (x.0 ∷ xs.0, xs.1))))) (first_drop formals k)
      ∙ ap (λ (o : Option (built_actual.Actual × Built)). after ys (o >>= (λ x. all_passed_form (others (drop k formals)) rest x.1 >>= (λ xs. Some (x.0 ∷ xs.0, xs.1))))) is
      ∙ after_more ys y (all_passed_form (others (drop k formals)) rest c)
      ∙ ap (λ fs. after (ys ++ y ∷ []) (all_passed_form fs rest c)) (others_drop formals k ∙ ap (λ n. drop n formals) more)

  pub actuals_end : (start : Option (List built_actual.Actual × Built)) (ys : List built_actual.Actual) (formals : List Formal) (actuals : List Actual) (k : ℕ) (b : Built)
      → start ≡ after ys (all_passed_form (drop k formals) (map (given_form v) (drop k actuals)) b) → length actuals ≤ k → start ≡ Some (ys, b)
  actuals_end start ys formals actuals k b so h =
      so ∙ ap (λ zs. after ys (all_passed_form (drop k formals) (map (given_form v) zs) b)) (drop_all k actuals h) ∙ ap (λ zs. Some (zs, b)) (append-nil ys)

  -- ---- subscripts, one after the other

  pub subscripts_begin : (t : ℕ) (subscripts : List Expr) (b : Built) → subscripts_form v t (map (expr_form v) subscripts) b ≡ after_subscripts [] (subscripts_form v t (map (expr_form v) (drop 0 subscripts)) b)
  subscripts_begin t subscripts b = after_no_subscripts (subscripts_form v t (map (expr_form v) subscripts) b)

  pub subscripts_go : (start : Option ((List built_expr.Expr × ℕ) × Built)) (ys : List built_expr.Expr) (t : ℕ) (subscripts : List Expr) (k : ℕ) (s : Expr) (b : Built) (p : ℕ × ℕ) (y : built_expr.Expr) (c : Built)
      → start ≡ after_subscripts ys (subscripts_form v t (map (expr_form v) (drop k subscripts)) b) → k < length subscripts → s ≡ get_or subscripts k s → parts_at v t ≡ Some p → operand_form (expr_form v s) b ≡ Some (y, c)
      → start ≡ after_subscripts (ys ++ y ∷ []) (subscripts_form v p.1 (map (expr_form v) (drop (k + 1) subscripts)) c)
  subscripts_go start ys t subscripts k s b p y c so h e some is =
      let rest = map (expr_form v) (drop (k + 1) subscripts) in
      so ∙ ap (λ zs. after_subscripts ys (subscripts_form v t (map (expr_form v) zs) b)) (drop_next subscripts k s h e)
      ∙ ap (λ (q : Option (ℕ × ℕ)). after_subscripts ys (q >>= (λ parts. operand_form (expr_form v s) b >>= (λ x. subscripts_form v parts.1 rest x.1 >>= (λ more. Some ((x.0 ∷ more.0.0, more.0.1), more.1)))))) some
      ∙ ap (λ (o : Option (built_expr.Expr × Built)). after_subscripts ys (o >>= (λ x. subscripts_form v p.1 rest x.1 >>= (λ more. Some ((x.0 ∷ more.0.0, more.0.1), more.1))))) is
      ∙ one_more_subscript ys y (subscripts_form v p.1 rest c)

  pub subscripts_end : (start : Option ((List built_expr.Expr × ℕ) × Built)) (ys : List built_expr.Expr) (t : ℕ) (subscripts : List Expr) (k : ℕ) (b : Built)
      → start ≡ after_subscripts ys (subscripts_form v t (map (expr_form v) (drop k subscripts)) b) → length subscripts ≤ k → start ≡ Some ((ys, t), b)
  subscripts_end start ys t subscripts k b so h =
      so ∙ ap (λ zs. after_subscripts ys (subscripts_form v t (map (expr_form v) zs) b)) (drop_all k subscripts h) ∙ ap (λ zs. Some ((zs, t), b)) (append-nil ys)

  -- what subscripts reach
  pub reached_by : (x : Variable) (at : ℕ) (subscripts : List Expr) (b : Built) (ys : List built_expr.Expr) (t : ℕ) (whole : Option Variable) (c : Built) → subscripts_form v x.of_type (map (expr_form v) subscripts) b ≡ Some ((ys, t), c)
      → whole ≡ (if nat_eq (length subscripts) 0 then Some x else None) → reached_form v x at (map (expr_form v) subscripts) b ≡ Some (record { access = access_of x ys at; of_type = t; whole = whole }, c)
  unfolding reached_form
  reached_by x at subscripts b ys t whole c is itself =
      ap (λ (o : Option ((List built_expr.Expr × ℕ) × Built)). o >>= (λ led. Some (record { access = access_of x led.0.0 at; of_type = led.0.1; whole = if nat_eq (length (map (expr_form v) subscripts)) 0 then Some x else None }, led.1))) is
      ∙ ap (λ w. Some (record { access = access_of x ys at; of_type = t; whole = w }, c)) (ap (λ n. if nat_eq n 0 then Some x else None) (length-map subscripts (expr_form v)) ∙ sym itself)
