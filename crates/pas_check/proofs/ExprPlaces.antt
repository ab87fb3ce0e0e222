-- Expressions that are built of a tree in a text lie in it.
use Rattle.std.proofs.Common.{◌≡◌, ℕ, ℤ, Bool, true, false, ◌&&◌, cond, List, [], ◌∷◌, length, map, Option, Some, None, Result, Ok, Err, refl, sym, ap, subst, ◌∙◌}
use Rattle.std.proofs.lemmas.Bool.{and_parts, and_from}
use Rattle.std.specs.List.{AllByRecursion}
use Rattle.px_base.specs.declared.operator.BinOp.{BinOp}
use Rattle.px_base.specs.declared.operator.UnOp.{UnOp}
use Rattle.px_base.specs.declared.place.Span.{Span}
use Rattle.pas_program.specs.declared.expr.Access as built_access
use Rattle.pas_program.specs.declared.expr.Actual as built_actual
use Rattle.pas_program.specs.declared.expr.Actual.TheVariants as passed_as
use Rattle.pas_program.specs.declared.expr.Actual.TheFolds as built_folds
use Rattle.pas_program.specs.declared.expr.Actual.TheOpen as built_open
use Rattle.pas_program.specs.declared.expr.Actual.TheViews as built_views
use Rattle.pas_program.specs.declared.expr.Expr as built_expr
use Rattle.pas_program.specs.declared.expr.ExprForm.{ExprForm}
use Rattle.pas_program.specs.declared.expr.ExprForm.TheVariants as form
use Rattle.pas_program.specs.Each.{all_true, true_if_some}
use Rattle.pas_program.specs.Each as each
use Rattle.pas_program.specs.Places.{access_lies, actual_lies, expr_lies, form_lies, is_piece, is_place}
use Rattle.pas_program.specs.Places as places
use Rattle.pas_program.proofs.Weaker.{With}
use Rattle.pas_tree.specs.declared.constant.Sign.{Sign}
use Rattle.pas_tree.specs.declared.constant.Sign.TheVariants as sign
use Rattle.pas_tree.specs.declared.expr.Access.{Access}
use Rattle.pas_tree.specs.declared.expr.Actual.{Actual}
use Rattle.pas_tree.specs.declared.expr.ActualValue.{ActualValue}
use Rattle.pas_tree.specs.declared.expr.ActualValue.TheOpen.{ActualValue-F, Expr-F, Access-F, Actual-F}
use Rattle.pas_tree.specs.declared.expr.ActualValue.TheFolds.{fold-roll-ActualValue, fold-roll-Expr, fold-roll-Access, fold-roll-Actual, ind-Expr, ind-Actual, map-ActualValue, map-Expr, map-Access, map-Actual}
use Rattle.pas_tree.specs.declared.expr.ActualValue.TheViews.{roll-ActualValue, roll-Expr, roll-Access, roll-Actual}
use Rattle.pas_tree.specs.declared.expr.Expr.{Expr}
use Rattle.pas_check.specs.declared.access.Reached.{Reached}
use Rattle.pas_check.specs.declared.actual.Formal.{Formal}
use Rattle.pas_check.specs.declared.built.Built.{Built}
use Rattle.pas_check.specs.declared.expr.Typed.{Typed}
use Rattle.pas_check.specs.declared.expr.Typed.TheVariants as typed
use Rattle.pas_check.specs.declared.meaning.Meaning.{Meaning}
use Rattle.pas_check.specs.declared.meaning.Meaning.TheVariants as means
use Rattle.pas_check.specs.declared.meaning.Required.{Required}
use Rattle.pas_check.specs.declared.meaning.Variable.{Variable}
use Rattle.pas_check.specs.Built.{Builds, allowed, with_own}
use Rattle.pas_program.specs.declared.variable.VarKind.TheVariants as kind
use Rattle.pas_check.specs.Constant.{number}
use Rattle.pas_check.specs.Expr.{Call, callee_at, first_of, formals_at, gives_truth, is_host, meant, others, variable_named}
use Rattle.pas_check.specs.Forms.{Form, GivenForm, access_by, access_form, access_of, access_step, actual_step, actual_value_form, all_passed_form, alone, alone_form, alone_meant, as_scalar, begun_at, binary_form, call_form, called_form, expr_form, expr_of, expr_step, expression_form, function_form, given_form, named_by_form, named_form, operand_form, or_call_form, passed_by_value_form, passed_by_var_form, passed_form, reached_form, required_form, required_of_form, required_operator, scalar_form, scalar_of, signed_form, subscripts_form, value_by, value_made, value_passed, value_step, variable_in}
use Rattle.pas_check.specs.Sight.{Sight, host_at, parts_at}
use Rattle.pas_check.specs.Spans.{access_within, actual_within, expr_within, value_within}
use Rattle.pas_check.specs.Spans as spans
use Rattle.pas_check.proofs.PlacesKept.{BuiltLies, If, Safe, begins_in, next, slot_kept, whatever}

module _ (len : ℕ) where
  -- ---- one level of what is built

  form_is : (d : built_open.ExprForm-F built_actual.Actual ExprForm built_access.Access built_expr.Expr)
      → places.form_step len (built_folds.map-ExprForm built_actual.Actual ExprForm built_access.Access built_expr.Expr Bool Bool Bool Bool (actual_lies len) (form_lies len) (access_lies len) (expr_lies len) d) ≡ true → form_lies len (built_views.roll-ExprForm d) ≡ true
  form_is d h = built_folds.fold-roll-ExprForm Bool Bool Bool Bool each.actual_step (places.form_step len) (places.access_step len) (places.expr_step len) d ∙ h

  const_lies : (boolean : Bool) (value : ℤ) → form_lies len (form.Const boolean value) ≡ true
  const_lies boolean value = ap (form_lies len) (sym (form.rolls-Const boolean value)) ∙ form_is (built_open.ExprForm-F.Const boolean value) refl

  value_lies : (a : built_access.Access) → access_lies len a ≡ true → form_lies len (form.Value a) ≡ true
  value_lies a h = ap (form_lies len) (sym (form.rolls-Value a)) ∙ form_is (built_open.ExprForm-F.«ExprForm::Value» a) h

  unary_lies : (o : UnOp) (e : built_expr.Expr) (at : ℕ) → is_place len at ≡ true → expr_lies len e ≡ true → form_lies len (form.Unary o e at) ≡ true
  unary_lies o e at p h = ap (form_lies len) (sym (form.rolls-Unary o e at)) ∙ form_is (built_open.ExprForm-F.Unary o e at) (and_from _ _ p h)

  binary_lies : (o : BinOp) (l r : built_expr.Expr) (at : ℕ) → is_place len at ≡ true → expr_lies len l ≡ true → expr_lies len r ≡ true → form_lies len (form.Binary o l r at) ≡ true
  binary_lies o l r at p h k = ap (form_lies len) (sym (form.rolls-Binary o l r at)) ∙ form_is (built_open.ExprForm-F.Binary o l r at) (and_from _ _ p (and_from _ _ h k))

  call_lies : (routine : ℕ) (actuals : List built_actual.Actual) (slot at : ℕ) → is_place len at ≡ true → all_true (map (actual_lies len) actuals) ≡ true → form_lies len (form.Call routine actuals slot at) ≡ true
  call_lies routine actuals slot at p h = ap (form_lies len) (sym (form.rolls-Call routine actuals slot at)) ∙ form_is (built_open.ExprForm-F.Call routine actuals slot at) (and_from _ _ p h)

  expr_of_lies : (first : ℕ) (f : ExprForm) → is_place len first ≡ true → form_lies len f ≡ true → expr_lies len (expr_of first f) ≡ true
  expr_of_lies first f p h =
      built_folds.fold-roll-Expr Bool Bool Bool Bool each.actual_step (places.form_step len) (places.access_step len) (places.expr_step len) (record { first = first; form = f }) ∙ and_from _ _ p h

  expr_parts : (e : built_expr.Expr) → expr_lies len e ≡ true → (is_place len (built_views.out-Expr e).first ≡ true) × (form_lies len (built_views.out-Expr e).form ≡ true)
  expr_parts e h =
      and_parts (is_place len (built_views.out-Expr e).first) _ (sym (built_folds.fold_out-Expr Bool Bool Bool Bool each.actual_step (places.form_step len) (places.access_step len) (places.expr_step len) e) ∙ h)

  access_of_lies : (x : Variable) (subscripts : List built_expr.Expr) (at : ℕ) → is_place len at ≡ true → all_true (map (expr_lies len) subscripts) ≡ true → access_lies len (access_of x subscripts at) ≡ true
  access_of_lies x subscripts at p h =
      built_folds.fold-roll-Access Bool Bool Bool Bool each.actual_step (places.form_step len) (places.access_step len) (places.expr_step len) (record { var = x.number; subscripts = subscripts; at = at }) ∙ and_from _ _ p h

  access_at : (a : built_access.Access) → access_lies len a ≡ true → is_place len (built_views.out-Access a).at ≡ true
  access_at a h =
      (and_parts (is_place len (built_views.out-Access a).at) _ (sym (built_folds.fold_out-Access Bool Bool Bool Bool each.actual_step (places.form_step len) (places.access_step len) (places.expr_step len) a) ∙ h)).0

  passed_is : (d : built_open.Actual-F built_actual.Actual ExprForm built_access.Access built_expr.Expr)
      → each.actual_step (built_folds.map-Actual built_actual.Actual ExprForm built_access.Access built_expr.Expr Bool Bool Bool Bool (actual_lies len) (form_lies len) (access_lies len) (expr_lies len) d) ≡ true → actual_lies len (built_views.roll-Actual d) ≡ true
  passed_is d h = built_folds.fold-roll-Actual Bool Bool Bool Bool each.actual_step (places.form_step len) (places.access_step len) (places.expr_step len) d ∙ h

  by_value_lies : (e : built_expr.Expr) → expr_lies len e ≡ true → actual_lies len (passed_as.Value e) ≡ true
  by_value_lies e h = ap (actual_lies len) (sym (passed_as.rolls-Value e)) ∙ passed_is (built_open.Actual-F.«Actual::Value» e) h

  whole_lies : (a : built_access.Access) → access_lies len a ≡ true → actual_lies len (passed_as.Whole a) ≡ true
  whole_lies a h = ap (actual_lies len) (sym (passed_as.rolls-Whole a)) ∙ passed_is (built_open.Actual-F.Whole a) h

  by_var_lies : (a : built_access.Access) → access_lies len a ≡ true → actual_lies len (passed_as.Var a) ≡ true
  by_var_lies a h = ap (actual_lies len) (sym (passed_as.rolls-Var a)) ∙ passed_is (built_open.Actual-F.Var a) h

  -- ---- what lies in the text

  abbrev pub TypedLies : Typed → Type 0
  TypedLies (typed.Scalar e boolean) = expr_lies len e ≡ true
  TypedLies (typed.Array a t) = access_lies len a ≡ true

  abbrev pub ReachedLies : Reached → Type 0
  ReachedLies r = access_lies len r.access ≡ true

  pub record FormLies (f : Form) : Type 0 where
    pub value : Safe len TypedLies f.value
    pub variable : Safe len ReachedLies f.variable

  abbrev pub ValueLies : Result Form Span → Type 0
  ValueLies (Ok f) = FormLies f
  ValueLies (Err span) = is_piece len span ≡ true

  pub record GivenLies (g : GivenForm) : Type 0 where
    pub value : ValueLies g.value
    pub width : If g.width FormLies

  -- a part with what is built after it
  abbrev pub After : {A : Type 0} → (A → Type 0) → A × Built → Type 0
  After P r = P r.0 × BuiltLies len r.1

  abbrev pub ExprLies : built_expr.Expr → Type 0
  ExprLies e = expr_lies len e ≡ true

  -- with its host
  abbrev pub HostedLies : built_expr.Expr × Bool → Type 0
  HostedLies x = expr_lies len x.0 ≡ true

  -- subscripts, with the type that they lead to
  abbrev SubscriptsLie : List built_expr.Expr × ℕ → Type 0
  SubscriptsLie xs = all_true (map (expr_lies len) xs.0) ≡ true

  -- ---- values

  scalar_lies : (first : ℕ) (f : ExprForm) (boolean : Bool) → is_place len first ≡ true → form_lies len f ≡ true → TypedLies (scalar_of first f boolean)
  scalar_lies first f boolean p h = expr_of_lies first f p h

  scalar_parts : (t : Typed) → TypedLies t → If (as_scalar t) HostedLies
  scalar_parts (typed.Scalar e boolean) h = h
  scalar_parts (typed.Array a t) h = tt

  begun_lies : (first : ℕ) (t : Typed) → is_place len first ≡ true → TypedLies t → TypedLies (begun_at first t)
  begun_lies first (typed.Scalar e boolean) p h = scalar_lies first (built_views.out-Expr e).form boolean p (expr_parts e h).1
  begun_lies first (typed.Array a t) p h = h

  pub scalar_kept : (e : Form) → FormLies e → Safe len HostedLies (scalar_form e)
  unfolding scalar_form
  scalar_kept e h b l =
      next (e.value b) _ (After TypedLies) (After HostedLies) (h.value b l)
      (λ t p. next (as_scalar t.0) _ HostedLies (After HostedLies) (scalar_parts t.0 p.0) (λ s q. (q, p.1)))

  pub operand_kept : (e : Form) → FormLies e → Safe len ExprLies (operand_form e)
  unfolding operand_form
  operand_kept e h b l = next (scalar_form e b) _ (After HostedLies) (After ExprLies) (scalar_kept e h b l) (λ x p. (p.0, p.1))

  signed_lies : (s : Sign) (e : built_expr.Expr) (at : ℕ) → is_place len at ≡ true → ExprLies e → TypedLies (signed_form s e at)
  signed_lies sign.Minus e at p h = scalar_lies at _ false p (unary_lies _ e at p h)
  signed_lies sign.Plus e at p h = scalar_lies at _ false p (expr_parts e h).1

  binary_form_lies : (o : BinOp) (l r : built_expr.Expr) (at : ℕ) → is_place len at ≡ true → ExprLies l → ExprLies r → TypedLies (binary_form o l r at)
  binary_form_lies o l r at p h k = scalar_lies (built_views.out-Expr l).first _ (gives_truth o) (expr_parts l h).0 (binary_lies o l r at p h k)

  -- ---- variables

  value_by_lies : (o : Option Bool) (a : built_access.Access) (t : ℕ) → access_lies len a ≡ true → TypedLies (value_by o a t)
  value_by_lies (Some boolean) a t h = scalar_lies (built_views.out-Access a).at _ boolean (access_at a h) (value_lies a h)
  value_by_lies None a t h = h

  made_lies : (v : Sight) (r : Reached) → ReachedLies r → TypedLies (value_made v r)
  unfolding value_made
  made_lies v r h = value_by_lies (host_at v r.of_type) r.access r.of_type h

  alone_lies : (x : Variable) (at : ℕ) → is_place len at ≡ true → ReachedLies (alone x at)
  alone_lies x at p = access_of_lies x [] at p refl

  subscripts_kept : (v : Sight) (t : ℕ) (fs : List Form) → AllByRecursion FormLies fs → Safe len SubscriptsLie (subscripts_form v t fs)
  subscripts_kept v t [] h b l = (refl, l)
  subscripts_kept v t (s ∷ rest) h b l =
      whatever (parts_at v t) _ (After SubscriptsLie) (λ parts.
      next (operand_form s b) _ (After ExprLies) (After SubscriptsLie) (operand_kept s h.0 b l) (λ x p.
      next (subscripts_form v parts.1 rest x.1) _ (After SubscriptsLie) (After SubscriptsLie) (subscripts_kept v parts.1 rest h.1 x.1 p.1) (λ more q.
      (and_from _ _ p.0 q.0, q.1))))

  pub reached_kept : (v : Sight) (x : Variable) (at : ℕ) (fs : List Form) → is_place len at ≡ true → AllByRecursion FormLies fs → Safe len ReachedLies (reached_form v x at fs)
  unfolding reached_form
  reached_kept v x at fs place h b l =
      next (subscripts_form v x.of_type fs b) _ (After SubscriptsLie) (After ReachedLies) (subscripts_kept v x.of_type fs h b l)
      (λ led p. (access_of_lies x led.0.0 at place p.0, p.1))

  access_kept : (v : Sight) (name : Span) (fs : List Form) → is_piece len name ≡ true → AllByRecursion FormLies fs → Safe len ReachedLies (access_by v name fs)
  unfolding access_by
  access_kept v name fs piece h b l =
      whatever (allowed (variable_named v name)) _ (After ReachedLies) (λ x. reached_kept v x name.start fs (begins_in len name piece) h b l)

  -- ---- actuals

  pub given_expression : (value : Result Form Span) → ValueLies value → If (expression_form value) FormLies
  given_expression (Ok f) h = h
  given_expression (Err span) h = tt

  abbrev pub ActualLies : built_actual.Actual → Type 0
  ActualLies a = actual_lies len a ≡ true

  value_passed_lies : (t : Typed) → TypedLies t → ActualLies (value_passed t)
  value_passed_lies (typed.Scalar e boolean) h = by_value_lies e h
  value_passed_lies (typed.Array a t) h = whole_lies a h

  by_value_kept : (e : Form) → FormLies e → Safe len ActualLies (passed_by_value_form e)
  unfolding passed_by_value_form
  by_value_kept e h b l = next (e.value b) _ (After TypedLies) (After ActualLies) (h.value b l) (λ t p. (value_passed_lies t.0 p.0, p.1))

  by_var_kept : (e : Form) → FormLies e → Safe len ActualLies (passed_by_var_form e)
  unfolding passed_by_var_form
  by_var_kept e h b l = next (e.variable b) _ (After ReachedLies) (After ActualLies) (h.variable b l) (λ r p. (by_var_lies r.0.access p.0, p.1))

  passed_by : (by_var : Bool) (e : Form) → FormLies e → (b : Built) → BuiltLies len b → If (cond by_var (passed_by_var_form e b) (passed_by_value_form e b)) (After ActualLies)
  passed_by true e h b l = by_var_kept e h b l
  passed_by false e h b l = by_value_kept e h b l

  passed_kept : (formal : Option Formal) (a : GivenForm) → GivenLies a → Safe len ActualLies (passed_form formal a)
  unfolding passed_form
  passed_kept formal a h b l =
      next (expression_form a.value) _ FormLies (After ActualLies) (given_expression a.value h.value) (λ e k.
      whatever formal _ (After ActualLies) (λ f. passed_by f.by_var e k b l))

  abbrev pub ActualsLie : List built_actual.Actual → Type 0
  ActualsLie xs = all_true (map (actual_lies len) xs) ≡ true

  pub all_passed_kept : (formals : List Formal) (gs : List GivenForm) → AllByRecursion GivenLies gs → Safe len ActualsLie (all_passed_form formals gs)
  all_passed_kept formals [] h b l = (refl, l)
  all_passed_kept formals (a ∷ rest) h b l =
      next (passed_form (first_of formals) a b) _ (After ActualLies) (After ActualsLie) (passed_kept (first_of formals) a h.0 b l) (λ x p.
      next (all_passed_form (others formals) rest x.1) _ (After ActualsLie) (After ActualsLie) (all_passed_kept (others formals) rest h.1 x.1 p.1) (λ xs q.
      (and_from _ _ p.0 q.0, q.1)))

  -- ---- calls

  called_kept : (v : Sight) (c : Call) (formals : List Formal) (name : Span) (gs : List GivenForm) → is_piece len name ≡ true → AllByRecursion GivenLies gs → Safe len TypedLies (called_form v c formals name gs)
  called_kept v c formals name gs piece h b l =
      next (all_passed_form formals gs (with_own name kind.Slot c.result b)) _ (After ActualsLie) (After TypedLies) (all_passed_kept formals gs h (with_own name kind.Slot c.result b) (slot_kept len name c.result b piece l)) (λ xs p.
      (scalar_lies name.start _ (is_host (host_at v c.result) true) (begins_in len name piece) (call_lies c.routine xs.0 (length b.vars) name.start (begins_in len name piece) p.0), p.1))

  function_kept : (v : Sight) (head : ℕ) (name : Span) (gs : List GivenForm) → is_piece len name ≡ true → AllByRecursion GivenLies gs → Safe len TypedLies (function_form v head name gs)
  unfolding function_form
  function_kept v head name gs piece h b l = whatever (callee_at v head) _ (After TypedLies) (λ c. called_kept v c (formals_at v head) name gs piece h b l)

  required_of_kept : (f : Required) (at : ℕ) (a : GivenForm) → is_place len at ≡ true → GivenLies a → Safe len TypedLies (required_of_form f at a)
  unfolding required_of_form
  required_of_kept f at a place h b l =
      next (expression_form a.value) _ FormLies (After TypedLies) (given_expression a.value h.value) (λ e k.
      next (scalar_form e b) _ (After HostedLies) (After TypedLies) (scalar_kept e k b l) (λ x p.
      whatever (required_operator f x.0.1) _ (After TypedLies) (λ o. (scalar_lies at _ o.1 place (unary_lies o.0 x.0.0 at place p.0), p.1))))

  required_kept : (f : Required) (at : ℕ) (gs : List GivenForm) → is_place len at ≡ true → AllByRecursion GivenLies gs → Safe len TypedLies (required_form f at gs)
  required_kept f at [] place h b l = tt
  required_kept f at (a ∷ []) place h b l = required_of_kept f at a place h.0 b l
  required_kept f at (a ∷ (c ∷ rest)) place h b l = tt

  call_kept : (v : Sight) (m : Meaning) (name : Span) (gs : List GivenForm) → is_piece len name ≡ true → AllByRecursion GivenLies gs → Safe len TypedLies (call_form v m name gs)
  unfolding call_form
  call_kept v (means.Routine head true) name gs piece h b l = function_kept v head name gs piece h b l
  call_kept v (means.Required f) name gs piece h b l = required_kept f name.start gs (begins_in len name piece) h b l
  call_kept v _ name gs piece h b l = tt

  alone_form_lies : (v : Sight) (m : Meaning) (at : ℕ) → is_place len at ≡ true → If (alone_form v m at) TypedLies
  unfolding alone_form
  alone_form_lies v (means.Constant c) at place = scalar_lies at _ c.boolean place (const_lies c.boolean c.value)
  alone_form_lies v (means.Variable x) at place = made_lies v (alone x at) (alone_lies x at place)
  alone_form_lies v _ at place = tt

  or_call_kept : (o : Option Typed) (b : Built) (call : Option (Typed × Built)) → If o TypedLies → BuiltLies len b → If call (After TypedLies) → If (or_call_form o b call) (After TypedLies)
  or_call_kept None b call h l k = k
  or_call_kept (Some t) b call h l k = (h, l)

  named_by_kept : (v : Sight) (m : Meaning) (name : Span) (gs : List GivenForm) → is_piece len name ≡ true → AllByRecursion GivenLies gs → Safe len TypedLies (named_by_form v m name gs)
  named_by_kept v m name [] piece h b l =
      or_call_kept (alone_form v m name.start) b (call_form v m name [] b) (alone_form_lies v m name.start (begins_in len name piece)) l (call_kept v m name [] piece h b l)
  named_by_kept v m name (a ∷ rest) piece h b l = call_kept v m name (a ∷ rest) piece h b l

  named_kept : (v : Sight) (name : Span) (gs : List GivenForm) → is_piece len name ≡ true → AllByRecursion GivenLies gs → Safe len TypedLies (named_form v name gs)
  unfolding named_form
  named_kept v name gs piece h b l = whatever (allowed (meant v name)) _ (After TypedLies) (λ m. named_by_kept v m name gs piece h b l)

  meant_lies : (m : Meaning) (at : ℕ) → is_place len at ≡ true → If (alone_meant m at) ReachedLies
  meant_lies (means.Variable x) at place = alone_lies x at place
  meant_lies _ at place = tt

  -- ---- the whole

  module _ (v : Sight) where
    abbrev OfValue : ActualValue → Type 0
    OfValue x = value_within len x ≡ true → ValueLies (actual_value_form v x)

    abbrev OfExpr : Expr → Type 0
    OfExpr e = expr_within len e ≡ true → FormLies (expr_form v e)

    abbrev OfAccess : Access → Type 0
    OfAccess a = access_within len a ≡ true → Safe len ReachedLies (access_form v a)

    abbrev OfActual : Actual → Type 0
    OfActual a = actual_within len a ≡ true → GivenLies (given_form v a)

    exprs_lie : (ys : List (With OfExpr)) → all_true (map (expr_within len) (map (λ (y : With OfExpr). y.0) ys)) ≡ true → AllByRecursion FormLies (map (expr_form v) (map (λ (y : With OfExpr). y.0) ys))
    exprs_lie [] h = tt
    exprs_lie (y ∷ ys) h = let p = and_parts (expr_within len y.0) _ h in (y.1 p.0, exprs_lie ys p.1)

    actuals_lie : (ys : List (With OfActual)) → all_true (map (actual_within len) (map (λ (y : With OfActual). y.0) ys)) ≡ true → AllByRecursion GivenLies (map (given_form v) (map (λ (y : With OfActual). y.0) ys))
    actuals_lie [] h = tt
    actuals_lie (y ∷ ys) h = let p = and_parts (actual_within len y.0) _ h in (y.1 p.0, actuals_lie ys p.1)

    -- one form of expression, with what is known of its parts
    name_variable : (name : Span) (gs : List GivenForm) (span : Span) → is_piece len name ≡ true → Safe len ReachedLies (variable_in v (Expr-F.Name name gs span))
    name_variable name [] span piece b l =
        whatever (allowed (meant v name)) _ (After ReachedLies) (λ m. next (alone_meant m name.start) _ ReachedLies (After ReachedLies) (meant_lies m name.start (begins_in len name piece)) (λ r p. (p, l)))
    name_variable name (a ∷ rest) span piece b l = tt

    abbrev StepLies : Expr-F (Result Form Span) Form (Builds Reached) GivenForm → Type 0
    StepLies f = FormLies (expr_step v f)

    number_step : (value : ℕ) (span : Span) → is_piece len span ≡ true → StepLies (Expr-F.Number value span)
    number_step value span piece = record { value = λ b l. (scalar_lies span.start _ false (begins_in len span piece) (const_lies false (number value)), l); variable = λ b l. tt }

    name_step : (name : Span) (gs : List GivenForm) (span : Span) → is_piece len name ≡ true → AllByRecursion GivenLies gs → StepLies (Expr-F.Name name gs span)
    name_step name gs span piece h = record { value = named_kept v name gs piece h; variable = name_variable name gs span piece }

    indexed_step : (access : Builds Reached) (span : Span) → Safe len ReachedLies access → StepLies (Expr-F.Indexed access span)
    indexed_step access span h = record {
      value = λ b l. next (access b) _ (After ReachedLies) (After TypedLies) (h b l) (λ r p. (made_lies v r.0 p.0, p.1));
      variable = h;
    }

    paren_step : (inner : Form) (span : Span) → FormLies inner → is_piece len span ≡ true → StepLies (Expr-F.Paren inner span)
    paren_step inner span h piece = record {
      value = λ b l. next (inner.value b) _ (After TypedLies) (After TypedLies) (h.value b l) (λ t p. (begun_lies span.start t.0 (begins_in len span piece) p.0, p.1));
      variable = λ b l. tt;
    }

    not_step : (inner : Form) (span : Span) → FormLies inner → is_piece len span ≡ true → StepLies (Expr-F.Not inner span)
    not_step inner span h piece = record {
      value = λ b l. next (operand_form inner b) _ (After ExprLies) (After TypedLies) (operand_kept inner h b l) (λ x p.
          (scalar_lies span.start _ true (begins_in len span piece) (unary_lies _ x.0 span.start (begins_in len span piece) p.0), p.1));
      variable = λ b l. tt;
    }

    signed_step : (s : Sign) (inner : Form) (span : Span) → FormLies inner → is_piece len span ≡ true → StepLies (Expr-F.Signed s inner span)
    signed_step s inner span h piece = record {
      value = λ b l. next (operand_form inner b) _ (After ExprLies) (After TypedLies) (operand_kept inner h b l) (λ x p. (signed_lies s x.0 span.start (begins_in len span piece) p.0, p.1));
      variable = λ b l. tt;
    }

    binary_step : (o : BinOp) (left right : Form) (at span : Span) → FormLies left → FormLies right → is_piece len at ≡ true → StepLies (Expr-F.Binary o left right at span)
    binary_step o left right at span h k piece = record {
      value = λ b l.
          next (operand_form left b) _ (After ExprLies) (After TypedLies) (operand_kept left h b l) (λ x p.
          next (operand_form right x.1) _ (After ExprLies) (After TypedLies) (operand_kept right k x.1 p.1) (λ y q.
          (binary_form_lies o x.0 y.0 at.start (begins_in len at piece) p.0 q.0, q.1)));
      variable = λ b l. tt;
    }

    -- one level of the tree
    within_expr : (d : Expr-F ActualValue Expr Access Actual) → expr_within len (roll-Expr d) ≡ true → spans.expr_step len (map-Expr ActualValue Expr Access Actual Bool Bool Bool Bool (value_within len) (expr_within len) (access_within len) (actual_within len) d) ≡ true
    within_expr d h = sym (fold-roll-Expr Bool Bool Bool Bool (spans.value_step len) (spans.expr_step len) (spans.access_step len) spans.actual_step d) ∙ h

    expr_lies_by : (d : Expr-F ActualValue Expr Access Actual) → StepLies (map-Expr ActualValue Expr Access Actual (Result Form Span) Form (Builds Reached) GivenForm (actual_value_form v) (expr_form v) (access_form v) (given_form v) d) → FormLies (expr_form v (roll-Expr d))
    unfolding expr_form access_form given_form actual_value_form
    expr_lies_by d h = subst FormLies (sym (fold-roll-Expr (Result Form Span) Form (Builds Reached) GivenForm value_step (expr_step v) (access_step v) actual_step d)) h

    of_expr : (y : Expr-F (With OfValue) (With OfExpr) (With OfAccess) (With OfActual)) → OfExpr (roll-Expr (map-Expr (With OfValue) (With OfExpr) (With OfAccess) (With OfActual) ActualValue Expr Access Actual (λ e. e.0) (λ e. e.0) (λ e. e.0) (λ e. e.0) y))
    of_expr (Expr-F.Number value span) h = expr_lies_by (Expr-F.Number value span) (number_step value span (within_expr (Expr-F.Number value span) h))
    of_expr (Expr-F.Name name actuals span) h =
        let old = map (λ (y : With OfActual). y.0) actuals in
        let p = and_parts (is_piece len name) _ (within_expr (Expr-F.Name name old span) h) in
        let q = and_parts (all_true (map (actual_within len) old)) _ p.1 in
        expr_lies_by (Expr-F.Name name old span) (name_step name (map (given_form v) old) span p.0 (actuals_lie actuals q.0))
    of_expr (Expr-F.Indexed access span) h =
        let p = and_parts (access_within len access.0) _ (within_expr (Expr-F.Indexed access.0 span) h) in
        expr_lies_by (Expr-F.Indexed access.0 span) (indexed_step (access_form v access.0) span (access.1 p.0))
    of_expr (Expr-F.Paren inner span) h =
        let p = and_parts (expr_within len inner.0) _ (within_expr (Expr-F.Paren inner.0 span) h) in
        expr_lies_by (Expr-F.Paren inner.0 span) (paren_step (expr_form v inner.0) span (inner.1 p.0) p.1)
    of_expr (Expr-F.Not inner span) h =
        let p = and_parts (expr_within len inner.0) _ (within_expr (Expr-F.Not inner.0 span) h) in
        expr_lies_by (Expr-F.Not inner.0 span) (not_step (expr_form v inner.0) span (inner.1 p.0) p.1)
    of_expr (Expr-F.Signed s inner span) h =
        let p = and_parts (expr_within len inner.0) _ (within_expr (Expr-F.Signed s inner.0 span) h) in
        expr_lies_by (Expr-F.Signed s inner.0 span) (signed_step s (expr_form v inner.0) span (inner.1 p.0) p.1)
    of_expr (Expr-F.Binary o left right at span) h =
        let p = and_parts (expr_within len left.0) _ (within_expr (Expr-F.Binary o left.0 right.0 at span) h) in
        let q = and_parts (is_piece len at) _ p.1 in
        let r = and_parts (expr_within len right.0) _ q.1 in
        expr_lies_by (Expr-F.Binary o left.0 right.0 at span) (binary_step o (expr_form v left.0) (expr_form v right.0) at span (left.1 p.0) (right.1 r.0) q.0)

    within_access : (d : Access-F ActualValue Expr Access Actual) → access_within len (roll-Access d) ≡ true → (is_piece len d.name && (all_true (map (expr_within len) d.subscripts) && is_piece len d.span)) ≡ true
    within_access d h = sym (fold-roll-Access Bool Bool Bool Bool (spans.value_step len) (spans.expr_step len) (spans.access_step len) spans.actual_step d) ∙ h

    access_lies_by : (d : Access-F ActualValue Expr Access Actual) → Safe len ReachedLies (access_by v d.name (map (expr_form v) d.subscripts)) → Safe len ReachedLies (access_form v (roll-Access d))
    unfolding expr_form access_form given_form actual_value_form
    access_lies_by d h = subst (Safe len ReachedLies) (sym (fold-roll-Access (Result Form Span) Form (Builds Reached) GivenForm value_step (expr_step v) (access_step v) actual_step d)) h

    of_access : (y : Access-F (With OfValue) (With OfExpr) (With OfAccess) (With OfActual)) → OfAccess (roll-Access (map-Access (With OfValue) (With OfExpr) (With OfAccess) (With OfActual) ActualValue Expr Access Actual (λ e. e.0) (λ e. e.0) (λ e. e.0) (λ e. e.0) y))
    of_access y h =
        let old = map (λ (x : With OfExpr). x.0) y.subscripts in
        let p = and_parts (is_piece len y.name) _ (within_access _ h) in
        let q = and_parts (all_true (map (expr_within len) old)) _ p.1 in
        access_lies_by _ (access_kept v y.name (map (expr_form v) old) p.0 (exprs_lie y.subscripts q.0))

    within_value : (d : ActualValue-F ActualValue Expr Access Actual) → value_within len (roll-ActualValue d) ≡ true → spans.value_step len (map-ActualValue ActualValue Expr Access Actual Bool Bool Bool Bool (value_within len) (expr_within len) (access_within len) (actual_within len) d) ≡ true
    within_value d h = sym (fold-roll-ActualValue Bool Bool Bool Bool (spans.value_step len) (spans.expr_step len) (spans.access_step len) spans.actual_step d) ∙ h

    value_lies_by : (d : ActualValue-F ActualValue Expr Access Actual) → ValueLies (value_step (map-ActualValue ActualValue Expr Access Actual (Result Form Span) Form (Builds Reached) GivenForm (actual_value_form v) (expr_form v) (access_form v) (given_form v) d)) → ValueLies (actual_value_form v (roll-ActualValue d))
    unfolding expr_form access_form given_form actual_value_form
    value_lies_by d h = subst ValueLies (sym (fold-roll-ActualValue (Result Form Span) Form (Builds Reached) GivenForm value_step (expr_step v) (access_step v) actual_step d)) h

    of_value : (y : ActualValue-F (With OfValue) (With OfExpr) (With OfAccess) (With OfActual)) → OfValue (roll-ActualValue (map-ActualValue (With OfValue) (With OfExpr) (With OfAccess) (With OfActual) ActualValue Expr Access Actual (λ e. e.0) (λ e. e.0) (λ e. e.0) (λ e. e.0) y))
    of_value (ActualValue-F.Value e) h = value_lies_by (ActualValue-F.Value e.0) (e.1 (within_value (ActualValue-F.Value e.0) h))
    of_value (ActualValue-F.«Text» span) h = value_lies_by (ActualValue-F.«Text» span) (within_value (ActualValue-F.«Text» span) h)

    within_actual : (d : Actual-F ActualValue Expr Access Actual) → actual_within len (roll-Actual d) ≡ true → spans.actual_step (map-Actual ActualValue Expr Access Actual Bool Bool Bool Bool (value_within len) (expr_within len) (access_within len) (actual_within len) d) ≡ true
    within_actual d h = sym (fold-roll-Actual Bool Bool Bool Bool (spans.value_step len) (spans.expr_step len) (spans.access_step len) spans.actual_step d) ∙ h

    given_lies_by : (d : Actual-F ActualValue Expr Access Actual) → GivenLies (actual_step (map-Actual ActualValue Expr Access Actual (Result Form Span) Form (Builds Reached) GivenForm (actual_value_form v) (expr_form v) (access_form v) (given_form v) d)) → GivenLies (given_form v (roll-Actual d))
    unfolding expr_form access_form given_form actual_value_form
    given_lies_by d h = subst GivenLies (sym (fold-roll-Actual (Result Form Span) Form (Builds Reached) GivenForm value_step (expr_step v) (access_step v) actual_step d)) h

    of_actual_by : (value : With OfValue) (width : Option (With OfExpr))
        → OfActual (roll-Actual (map-Actual (With OfValue) (With OfExpr) (With OfAccess) (With OfActual) ActualValue Expr Access Actual (λ e. e.0) (λ e. e.0) (λ e. e.0) (λ e. e.0) (record { value = value; width = width })))
    of_actual_by value None h =
        let p = and_parts (value_within len value.0) _ (within_actual (record { value = value.0; width = None }) h) in
        given_lies_by (record { value = value.0; width = None }) (record { value = value.1 p.0; width = tt })
    of_actual_by value (Some e) h =
        let p = and_parts (value_within len value.0) _ (within_actual (record { value = value.0; width = Some e.0 }) h) in
        given_lies_by (record { value = value.0; width = Some e.0 }) (record { value = value.1 p.0; width = e.1 p.1 })

    of_actual : (y : Actual-F (With OfValue) (With OfExpr) (With OfAccess) (With OfActual)) → OfActual (roll-Actual (map-Actual (With OfValue) (With OfExpr) (With OfAccess) (With OfActual) ActualValue Expr Access Actual (λ e. e.0) (λ e. e.0) (λ e. e.0) (λ e. e.0) y))
    of_actual y = of_actual_by y.value y.width

    by_value : (x : ActualValue-F ActualValue Expr Access Actual) (y : ActualValue-F (With OfValue) (With OfExpr) (With OfAccess) (With OfActual)) → map-ActualValue (With OfValue) (With OfExpr) (With OfAccess) (With OfActual) ActualValue Expr Access Actual (λ e. e.0) (λ e. e.0) (λ e. e.0) (λ e. e.0) y ≡ x → OfValue (roll-ActualValue x)
    by_value x y is = subst (λ z. OfValue (roll-ActualValue z)) is (of_value y)

    by_expr : (x : Expr-F ActualValue Expr Access Actual) (y : Expr-F (With OfValue) (With OfExpr) (With OfAccess) (With OfActual)) → map-Expr (With OfValue) (With OfExpr) (With OfAccess) (With OfActual) ActualValue Expr Access Actual (λ e. e.0) (λ e. e.0) (λ e. e.0) (λ e. e.0) y ≡ x → OfExpr (roll-Expr x)
    by_expr x y is = subst (λ z. OfExpr (roll-Expr z)) is (of_expr y)

    by_access : (x : Access-F ActualValue Expr Access Actual) (y : Access-F (With OfValue) (With OfExpr) (With OfAccess) (With OfActual)) → map-Access (With OfValue) (With OfExpr) (With OfAccess) (With OfActual) ActualValue Expr Access Actual (λ e. e.0) (λ e. e.0) (λ e. e.0) (λ e. e.0) y ≡ x → OfAccess (roll-Access x)
    by_access x y is = subst (λ z. OfAccess (roll-Access z)) is (of_access y)

    by_actual : (x : Actual-F ActualValue Expr Access Actual) (y : Actual-F (With OfValue) (With OfExpr) (With OfAccess) (With OfActual)) → map-Actual (With OfValue) (With OfExpr) (With OfAccess) (With OfActual) ActualValue Expr Access Actual (λ e. e.0) (λ e. e.0) (λ e. e.0) (λ e. e.0) y ≡ x → OfActual (roll-Actual x)
    by_actual x y is = subst (λ z. OfActual (roll-Actual z)) is (of_actual y)

    pub expr_lies_of : (e : Expr) → expr_within len e ≡ true → FormLies (expr_form v e)
    expr_lies_of = ind-Expr OfValue OfExpr OfAccess OfActual by_value by_expr by_access by_actual

    pub actual_lies_of : (a : Actual) → actual_within len a ≡ true → GivenLies (given_form v a)
    actual_lies_of = ind-Actual OfValue OfExpr OfAccess OfActual by_value by_expr by_access by_actual
