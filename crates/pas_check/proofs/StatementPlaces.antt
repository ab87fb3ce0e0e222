-- Statements that are built of a tree in a text lie in it.
use Rattle.std.proofs.Common.{◌≡◌, ℕ, Bool, true, false, ◌&&◌, List, [], ◌∷◌, map, Option, Some, None, Result, Ok, Err, refl, sym, ap, subst, ◌∙◌}
use Rattle.std.proofs.lemmas.Bool.{and_parts, and_from}
use Rattle.std.specs.List.{AllByRecursion, list_all}
use Rattle.std.specs.Option.{option_map}
use Rattle.px_base.specs.declared.place.Span.{Span}
use Rattle.pas_program.specs.declared.expr.Access as built_access
use Rattle.pas_program.specs.declared.expr.Actual as built_actual
use Rattle.pas_program.specs.declared.expr.Expr as built_expr
use Rattle.pas_program.specs.declared.statement.Arm as built_arm
use Rattle.pas_program.specs.declared.statement.Body as built_body
use Rattle.pas_program.specs.declared.statement.Body.TheFolds as built_folds
use Rattle.pas_program.specs.declared.statement.Body.TheOpen as built_open
use Rattle.pas_program.specs.declared.statement.Body.TheVariants as body
use Rattle.pas_program.specs.declared.statement.Body.TheViews as built_views
use Rattle.pas_program.specs.declared.statement.Statement as built_statement
use Rattle.pas_program.specs.declared.statement.WriteItem.{WriteItem}
use Rattle.pas_program.specs.declared.statement.WriteValue.{WriteValue}
use Rattle.pas_program.specs.declared.variable.VarKind.TheVariants as kind
use Rattle.pas_program.specs.Each.{all_true, true_if_some}
use Rattle.pas_program.specs.Places.{access_lies, actual_lies, arm_lies, assert_lies, body_lies, expr_lies, is_piece, is_place, item_lies, statement_lies, written_lies}
use Rattle.pas_program.specs.Places as places
use Rattle.pas_program.proofs.Weaker.{With}
use Rattle.pas_tree.specs.declared.block.Label.{Label}
use Rattle.pas_tree.specs.declared.expr.Access.{Access}
use Rattle.pas_tree.specs.declared.expr.Actual.{Actual}
use Rattle.pas_tree.specs.declared.expr.ActualValue.TheFolds as expr_folds
use Rattle.pas_tree.specs.declared.expr.ActualValue.TheViews.{out-Access}
use Rattle.pas_tree.specs.declared.expr.Expr.{Expr}
use Rattle.pas_tree.specs.declared.statement.Assertion.{Assertion}
use Rattle.pas_tree.specs.declared.statement.Body.{Body}
use Rattle.pas_tree.specs.declared.statement.Body.TheOpen.{Body-F, Element-F, Statement-F}
use Rattle.pas_tree.specs.declared.statement.Body.TheFolds.{fold-roll-Body, fold-roll-Element, fold-roll-Statement, ind-Statement, map-Body, map-Element, map-Statement}
use Rattle.pas_tree.specs.declared.statement.Body.TheViews.{roll-Body, roll-Element, roll-Statement}
use Rattle.pas_tree.specs.declared.statement.Element.{Element}
use Rattle.pas_tree.specs.declared.statement.Statement.{Statement}
use Rattle.pas_check.specs.declared.built.Built.{Built}
use Rattle.pas_check.specs.declared.control.ForHead.{ForHead}
use Rattle.pas_check.specs.declared.expr.Typed.{Typed}
use Rattle.pas_check.specs.declared.expr.Typed.TheVariants as typed
use Rattle.pas_check.specs.declared.meaning.Meaning.{Meaning}
use Rattle.pas_check.specs.declared.meaning.Meaning.TheVariants as means
use Rattle.pas_check.specs.declared.meaning.Transput.{Transput}
use Rattle.pas_check.specs.declared.meaning.Transput.TheVariants as transput
use Rattle.pas_check.specs.Built.{allowed, in_order, with_own}
use Rattle.pas_check.specs.Control.{controlled}
use Rattle.pas_check.specs.Expr.{callee_at, formals_at, meant}
use Rattle.pas_check.specs.Forms.{Form, GivenForm, all_passed_form, expr_form, expression_form, given_form, operand_form, reached_form}
use Rattle.pas_check.specs.Labels.{left_for}
use Rattle.pas_check.specs.Sight.{Sight}
use Rattle.pas_check.specs.Spans.{access_within, actual_within, assertion_within, body_within, constant_within, element_within, expr_within, label_within, statement_within}
use Rattle.pas_check.specs.Spans as spans
use Rattle.pas_check.specs.Statement.{target_by}
use Rattle.pas_check.specs.StatementForms.{ArmForm, BodyForm, StatementForm, arm_form, arm_step, arms_form, assert_form, assigned_form, assignment_form, body_form, body_step, branch_form, call_form, called_form, constants_form, for_head_form, goto_form, item_form, label_value, members_form, procedure_form, read_form, reads_form, sequence_form, statement_form, statement_step, target_form, transput_form, value_assigned_form, width_form, writes_form, written_form}
use Rattle.pas_check.specs.Statements.{over}
use Rattle.pas_check.proofs.ExprPlaces.{ActualsLie, After, ExprLies, FormLies, GivenLies, ReachedLies, TypedLies, ValueLies, actual_lies_of, all_passed_kept, expr_lies_of, given_expression, operand_kept, reached_kept}
use Rattle.pas_check.proofs.PlacesKept.{If, Safe, all_in, begins_in, bound_kept, each_in, in_order_kept, next, one_more, whatever}

module _ (len : ℕ) where
  -- ---- one level of what is built

  body_is : (d : built_open.Body-F built_body.Body built_arm.Arm built_statement.Statement)
      → places.body_step len (built_folds.map-Body built_body.Body built_arm.Arm built_statement.Statement Bool Bool Bool (body_lies len) (arm_lies len) (statement_lies len) d) ≡ true → body_lies len (built_views.roll-Body d) ≡ true
  body_is d h = built_folds.fold-roll-Body Bool Bool Bool (places.body_step len) places.arm_step (places.statement_step len) d ∙ h

  abbrev pub BodyLies : built_body.Body → Type 0
  BodyLies x = body_lies len x ≡ true

  abbrev pub StatementLies : built_statement.Statement → Type 0
  StatementLies x = statement_lies len x ≡ true

  abbrev pub ArmLies : built_arm.Arm → Type 0
  ArmLies x = arm_lies len x ≡ true

  abbrev AccessLies : built_access.Access → Type 0
  AccessLies a = access_lies len a ≡ true

  empty_lies : BodyLies body.Empty
  empty_lies = ap (body_lies len) (sym body.rolls-Empty) ∙ body_is built_open.Body-F.Empty refl

  assign_lies : (target : built_access.Access) (value : built_expr.Expr) → AccessLies target → ExprLies len value → BodyLies (body.Assign target value)
  assign_lies target value h k = ap (body_lies len) (sym (body.rolls-Assign target value)) ∙ body_is (built_open.Body-F.Assign target value) (and_from _ _ h k)

  copy_lies : (target source : built_access.Access) → AccessLies target → AccessLies source → BodyLies (body.Copy target source)
  copy_lies target source h k = ap (body_lies len) (sym (body.rolls-Copy target source)) ∙ body_is (built_open.Body-F.Copy target source) (and_from _ _ h k)

  call_lies : (routine : ℕ) (actuals : List built_actual.Actual) (at : ℕ) → is_place len at ≡ true → all_true (map (actual_lies len) actuals) ≡ true → BodyLies (body.Call routine actuals at)
  call_lies routine actuals at p h = ap (body_lies len) (sym (body.rolls-Call routine actuals at)) ∙ body_is (built_open.Body-F.Call routine actuals at) (and_from _ _ p h)

  read_lies : (to : List built_access.Access) (line : Bool) → all_true (map (access_lies len) to) ≡ true → BodyLies (body.Read to line)
  read_lies to line h = ap (body_lies len) (sym (body.rolls-Read to line)) ∙ body_is (built_open.Body-F.Read to line) h

  write_lies : (items : List WriteItem) (line : Bool) → all_true (map (item_lies len) items) ≡ true → BodyLies (body.Write items line)
  write_lies items line h = ap (body_lies len) (sym (body.rolls-Write items line)) ∙ body_is (built_open.Body-F.Write items line) h

  goto_lies : (routine label : ℕ) → BodyLies (body.Goto routine label)
  goto_lies routine label = ap (body_lies len) (sym (body.rolls-Goto routine label)) ∙ body_is (built_open.Body-F.Goto routine label) refl

  pub begin_lies : (xs : List built_statement.Statement) (last : ℕ) → is_place len last ≡ true → all_true (map (statement_lies len) xs) ≡ true → BodyLies (body.Begin xs last)
  begin_lies xs last p h = ap (body_lies len) (sym (body.rolls-Begin xs last)) ∙ body_is (built_open.Body-F.Begin xs last) (and_from _ _ p h)

  if_lies : (test : built_expr.Expr) (chosen : built_statement.Statement) (other : Option built_statement.Statement) → ExprLies len test → StatementLies chosen → If other StatementLies → BodyLies (body.If test chosen other)
  if_lies test chosen None h k o = ap (body_lies len) (sym (body.rolls-If test chosen None)) ∙ body_is (built_open.Body-F.If test chosen None) (and_from _ _ h (and_from _ _ k refl))
  if_lies test chosen (Some s) h k o = ap (body_lies len) (sym (body.rolls-If test chosen (Some s))) ∙ body_is (built_open.Body-F.If test chosen (Some s)) (and_from _ _ h (and_from _ _ k o))

  case_lies : (selector : built_expr.Expr) (arms : List built_arm.Arm) → ExprLies len selector → all_true (map (arm_lies len) arms) ≡ true → BodyLies (body.Case selector arms)
  case_lies selector arms h k = ap (body_lies len) (sym (body.rolls-Case selector arms)) ∙ body_is (built_open.Body-F.Case selector arms) (and_from _ _ h k)

  while_lies : (test : built_expr.Expr) (inner : built_statement.Statement) → ExprLies len test → StatementLies inner → BodyLies (body.While test inner)
  while_lies test inner h k = ap (body_lies len) (sym (body.rolls-While test inner)) ∙ body_is (built_open.Body-F.While test inner) (and_from _ _ h k)

  repeat_lies : (xs : List built_statement.Statement) (at : ℕ) (test : built_expr.Expr) → all_true (map (statement_lies len) xs) ≡ true → is_place len at ≡ true → ExprLies len test → BodyLies (body.Repeat xs at test)
  repeat_lies xs at test h p k = ap (body_lies len) (sym (body.rolls-Repeat xs at test)) ∙ body_is (built_open.Body-F.Repeat xs at test) (and_from _ _ h (and_from _ _ p k))

  for_lies : (control bound : ℕ) (first : built_expr.Expr) (down : Bool) (last : built_expr.Expr) (inner : built_statement.Statement) → ExprLies len first → ExprLies len last → StatementLies inner → BodyLies (body.For control bound first down last inner)
  for_lies control bound first down last inner h k m =
      ap (body_lies len) (sym (body.rolls-For control bound first down last inner)) ∙ body_is (built_open.Body-F.For control bound first down last inner) (and_from _ _ h (and_from _ _ k m))

  pub statement_of_lies : (at : ℕ) (label : Option ℕ) (asserts : List ℕ) (x : built_body.Body) → is_place len at ≡ true → BodyLies x → StatementLies (built_views.roll-Statement (record { at = at; label = label; asserts = asserts; body = x }))
  statement_of_lies at label asserts x p h =
      built_folds.fold-roll-Statement Bool Bool Bool (places.body_step len) places.arm_step (places.statement_step len) (record { at = at; label = label; asserts = asserts; body = x }) ∙ and_from _ _ p h

  -- ---- assertions

  assert_kept : (v : Sight) (a : Assertion) → assertion_within len a ≡ true → Safe len (λ n. Unit {0}) (assert_form v a)
  unfolding assert_form
  assert_kept v a h b l =
      let p = and_parts (expr_within len a.cond) _ h in
      next (operand_form (expr_form (record v { asserting = true }) a.cond) b) _ (After len (ExprLies len)) (After len (λ (n : ℕ). Unit {0}))
      (operand_kept len (expr_form (record v { asserting = true }) a.cond) (expr_lies_of len (record v { asserting = true }) a.cond p.0) b l) (λ x q. (
        tt,
        record {
          vars = q.1.vars;
          routines = q.1.routines;
          asserts = one_more (assert_lies len) x.1.asserts (record { routine = x.1.frame.routine; sometime = a.sometime; cond = x.0; at = a.span.start }) q.1.asserts (and_from _ _ (begins_in len a.span p.1) q.0);
          frame = q.1.frame;
        },
      ))

  -- ---- procedure calls

  procedure_kept : (v : Sight) (head at : ℕ) (gs : List GivenForm) → is_place len at ≡ true → AllByRecursion (GivenLies len) gs → Safe len BodyLies (procedure_form v head at gs)
  unfolding procedure_form
  procedure_kept v head at gs place h b l =
      whatever (callee_at v head) _ (After len BodyLies) (λ c.
      next (all_passed_form (formals_at v head) gs b) _ (After len (ActualsLie len)) (After len BodyLies) (all_passed_kept len (formals_at v head) gs h b l) (λ xs p.
      (call_lies c.routine xs.0 at place p.0, p.1)))

  read_kept : (a : GivenForm) → GivenLies len a → Safe len AccessLies (read_form a)
  unfolding read_form
  read_kept a h b l =
      next (expression_form a.value) _ (FormLies len) (After len AccessLies) (given_expression len a.value h.value) (λ e k.
      next (e.variable b) _ (After len (ReachedLies len)) (After len AccessLies) (k.variable b l) (λ r p. (p.0, p.1)))

  reads_kept : (line : Bool) (gs : List GivenForm) → AllByRecursion (GivenLies len) gs → Safe len BodyLies (reads_form line gs)
  reads_kept line gs h b l =
      next (in_order read_form gs b) _ (After len (AllByRecursion AccessLies)) (After len BodyLies) (in_order_kept len AccessLies (GivenLies len) read_form read_kept gs h b l) (λ to p.
      (read_lies to.0 line (all_in (access_lies len) to.0 p.0), p.1))

  abbrev WrittenLies : WriteValue → Type 0
  WrittenLies w = written_lies len w ≡ true

  written_kept : (v : Sight) (value : Result Form Span) → ValueLies len value → Safe len WrittenLies (written_form v value)
  unfolding written_form
  written_kept v (Ok e) h b l = next (operand_form e b) _ (After len (ExprLies len)) (After len WrittenLies) (operand_kept len e h b l) (λ x p. (p.0, p.1))
  written_kept v (Err span) h b l = (begins_in len span h, l)

  abbrev WidthLies : Option built_expr.Expr → Type 0
  WidthLies w = true_if_some (option_map (expr_lies len) w) ≡ true

  width_kept : (width : Option Form) → If width (FormLies len) → Safe len WidthLies (width_form width)
  width_kept None h b l = (refl, l)
  width_kept (Some e) h b l = next (operand_form e b) _ (After len (ExprLies len)) (After len WidthLies) (operand_kept len e h b l) (λ x p. (p.0, p.1))

  abbrev ItemLies : WriteItem → Type 0
  ItemLies i = item_lies len i ≡ true

  item_kept : (v : Sight) (a : GivenForm) → GivenLies len a → Safe len ItemLies (item_form v a)
  unfolding item_form
  item_kept v a h b l =
      next (written_form v a.value b) _ (After len WrittenLies) (After len ItemLies) (written_kept v a.value h.value b l) (λ x p.
      next (width_form a.width x.1) _ (After len WidthLies) (After len ItemLies) (width_kept a.width h.width x.1 p.1) (λ w q.
      (and_from _ _ p.0 q.0, q.1)))

  writes_kept : (v : Sight) (line : Bool) (gs : List GivenForm) → AllByRecursion (GivenLies len) gs → Safe len BodyLies (writes_form v line gs)
  writes_kept v line gs h b l =
      next (in_order (item_form v) gs b) _ (After len (AllByRecursion ItemLies)) (After len BodyLies) (in_order_kept len ItemLies (GivenLies len) (item_form v) (item_kept v) gs h b l) (λ items p.
      (write_lies items.0 line (all_in (item_lies len) items.0 p.0), p.1))

  transput_kept : (v : Sight) (t : Transput) (gs : List GivenForm) → AllByRecursion (GivenLies len) gs → Safe len BodyLies (transput_form v t gs)
  unfolding transput_form
  transput_kept v transput.Read gs h b l = reads_kept false gs h b l
  transput_kept v transput.Readln gs h b l = reads_kept true gs h b l
  transput_kept v transput.Write gs h b l = writes_kept v false gs h b l
  transput_kept v transput.Writeln gs h b l = writes_kept v true gs h b l

  called_kept : (v : Sight) (m : Meaning) (at : ℕ) (gs : List GivenForm) → is_place len at ≡ true → AllByRecursion (GivenLies len) gs → Safe len BodyLies (called_form v m at gs)
  unfolding called_form
  called_kept v (means.Routine head false) at gs place h b l = procedure_kept v head at gs place h b l
  called_kept v (means.Transput t) at gs place h b l = transput_kept v t gs h b l
  called_kept v _ at gs place h b l = tt

  call_kept : (v : Sight) (name : Span) (gs : List GivenForm) → is_piece len name ≡ true → AllByRecursion (GivenLies len) gs → Safe len BodyLies (call_form v name gs)
  unfolding call_form
  call_kept v name gs piece h b l = whatever (allowed (meant v name)) _ (After len BodyLies) (λ m. called_kept v m name.start gs (begins_in len name piece) h b l)

  -- ---- assignment

  assigned_lies : (to : built_access.Access) (t : Typed) → AccessLies to → TypedLies len t → BodyLies (assigned_form to t)
  assigned_lies to (typed.Scalar e boolean) h k = assign_lies to e h k
  assigned_lies to (typed.Array from t) h k = copy_lies to from h k

  value_assigned_kept : (to : built_access.Access) (value : Form) → AccessLies to → FormLies len value → Safe len BodyLies (value_assigned_form to value)
  unfolding value_assigned_form
  value_assigned_kept to value h k b l = next (value.value b) _ (After len (TypedLies len)) (After len BodyLies) (k.value b l) (λ t p. (assigned_lies to t.0 h p.0, p.1))

  target_kept : (v : Sight) (name : Span) (subscripts : List Form) (value : Form) → is_piece len name ≡ true → AllByRecursion (FormLies len) subscripts → FormLies len value → Safe len BodyLies (target_form v name subscripts value)
  unfolding target_form
  target_kept v name subscripts value piece h k b l =
      whatever (allowed (meant v name)) _ (After len BodyLies) (λ m.
      whatever (allowed (target_by v m name.start)) _ (After len BodyLies) (λ x.
      next (reached_form v x.0 name.start subscripts b) _ (After len (ReachedLies len)) (After len BodyLies) (reached_kept len v x.0 name.start subscripts (begins_in len name piece) h b l) (λ r p.
      value_assigned_kept r.0.access value p.0 k r.1 p.1)))

  exprs_lie : (v : Sight) (es : List Expr) → all_true (map (expr_within len) es) ≡ true → AllByRecursion (FormLies len) (map (expr_form v) es)
  exprs_lie v [] h = tt
  exprs_lie v (e ∷ es) h = let p = and_parts (expr_within len e) _ h in (expr_lies_of len v e p.0, exprs_lie v es p.1)

  givens_lie : (v : Sight) (gs : List Actual) → all_true (map (actual_within len) gs) ≡ true → AllByRecursion (GivenLies len) (map (given_form v) gs)
  givens_lie v [] h = tt
  givens_lie v (a ∷ gs) h = let p = and_parts (actual_within len a) _ h in (actual_lies_of len v a p.0, givens_lie v gs p.1)

  access_parts : (a : Access) → access_within len a ≡ true → (is_piece len (out-Access a).name ≡ true) × (all_true (map (expr_within len) (out-Access a).subscripts) ≡ true)
  access_parts a h =
      let p = and_parts (is_piece len (out-Access a).name) _ (sym (expr_folds.fold_out-Access Bool Bool Bool Bool (spans.value_step len) (spans.expr_step len) (spans.access_step len) spans.actual_step a) ∙ h) in
      let q = and_parts (all_true (map (expr_within len) (out-Access a).subscripts)) _ p.1 in
      (p.0, q.0)

  assignment_kept : (v : Sight) (to : Access) (value : Expr) → access_within len to ≡ true → expr_within len value ≡ true → Safe len BodyLies (assignment_form v to value)
  unfolding assignment_form
  assignment_kept v to value h k b l =
      let p = access_parts to h in
      target_kept v (out-Access to).name (map (expr_form v) (out-Access to).subscripts) (expr_form v value) p.0 (exprs_lie v (out-Access to).subscripts p.1) (expr_lies_of len v value k) b l

  -- ---- `goto` and `for`

  goto_kept : (v : Sight) (l : Label) (at : ℕ) → If (goto_form v l at) BodyLies
  unfolding goto_form
  goto_kept v l at = whatever (allowed (left_for v.labels l at true)) _ BodyLies (λ routine. goto_lies routine l.value)

  pub record HeadLies (h : ForHead) : Type 0 where
    pub first : ExprLies len h.first
    pub last : ExprLies len h.last

  head_kept : (v : Sight) (control : Span) (first last : Form) (at : Span) → is_piece len at ≡ true → FormLies len first → FormLies len last → Safe len HeadLies (for_head_form v control first last at)
  unfolding for_head_form
  head_kept v control first last at piece h k b l =
      whatever (allowed (controlled v control)) _ (After len HeadLies) (λ c.
      next (operand_form first (with_own at kind.Bound c.0.of_type b)) _ (After len (ExprLies len)) (After len HeadLies)
      (operand_kept len first h (with_own at kind.Bound c.0.of_type b) (bound_kept len at c.0.of_type b piece l)) (λ x p.
      next (operand_form last x.1) _ (After len (ExprLies len)) (After len HeadLies) (operand_kept len last k x.1 p.1) (λ y q.
      (record { first = p.0; last = q.0 }, q.1))))

  -- ---- the whole

  abbrev pub StatementKept : StatementForm → Type 0
  StatementKept f = (v : Sight) → Safe len StatementLies (f v)

  abbrev BodyKept : BodyForm → Type 0
  BodyKept f = (at : Span) → is_piece len at ≡ true → (v : Sight) → Safe len BodyLies (f at v)

  abbrev ArmKept : ArmForm → Type 0
  ArmKept f = (v : Sight) → Safe len ArmLies (f v)

  abbrev pub MembersLie : List built_statement.Statement → Type 0
  MembersLie xs = all_true (map (statement_lies len) xs) ≡ true

  all_members : (o : Option (List built_statement.Statement × Built)) → If o (After len (AllByRecursion StatementLies)) → If o (After len MembersLie)
  all_members None h = tt
  all_members (Some xs) h = (all_in (statement_lies len) xs.0 h.0, h.1)

  members_kept : (members : List StatementForm) → AllByRecursion StatementKept members → (v : Sight) → Safe len MembersLie (members_form members v)
  members_kept members h v b l = all_members (members_form members v b) (in_order_kept len StatementLies StatementKept (λ (s : StatementForm). s v) (λ s k. k v) members h b l)

  arms_kept : (arms : List ArmForm) → AllByRecursion ArmKept arms → (v : Sight) → Safe len (AllByRecursion ArmLies) (arms_form arms v)
  arms_kept arms h v b l = in_order_kept len ArmLies ArmKept (λ (a : ArmForm). a v) (λ a k. k v) arms h b l

  branch_kept : (other : Option StatementForm) → If other StatementKept → (v : Sight) → Safe len (λ o. If o StatementLies) (branch_form other v)
  branch_kept None h v b l = (tt, l)
  branch_kept (Some s) h v b l = next (s v b) _ (After len StatementLies) (After len (λ o. If o StatementLies)) (h v b l) (λ x p. (p.0, p.1))

  -- one form of statement, with what is known of its parts
  call_step : (name : Span) (actuals : List Actual) → is_piece len name ≡ true → all_true (map (actual_within len) actuals) ≡ true → BodyKept (body_step (Body-F.Call name actuals))
  call_step name actuals piece h at place v b l = call_kept v name (map (given_form v) actuals) piece (givens_lie v actuals h) b l

  goto_step : (label : Label) → BodyKept (body_step (Body-F.Goto label))
  goto_step label at place v b l = next (goto_form v label at.start) _ BodyLies (After len BodyLies) (goto_kept v label at.start) (λ x p. (p, l))

  begin_step : (members : List StatementForm) → AllByRecursion StatementKept members → BodyKept (body_step (Body-F.Begin members))
  begin_step members h at place v b l =
      next (members_form members v b) _ (After len MembersLie) (After len BodyLies) (members_kept members h v b l) (λ xs p. (begin_lies xs.0 at.start (begins_in len at place) p.0, p.1))

  test_kept : (v : Sight) (e : Expr) → expr_within len e ≡ true → Safe len (ExprLies len) (operand_form (expr_form v e))
  test_kept v e h = operand_kept len (expr_form v e) (expr_lies_of len v e h)

  if_step : (test : Expr) (first : StatementForm) (second : Option StatementForm) → expr_within len test ≡ true → StatementKept first → If second StatementKept → BodyKept (body_step (Body-F.If test first second))
  if_step test first second h k m at place v b l =
      next (operand_form (expr_form v test) b) _ (After len (ExprLies len)) (After len BodyLies) (test_kept v test h b l) (λ x p.
      next (first v x.1) _ (After len StatementLies) (After len BodyLies) (k v x.1 p.1) (λ y q.
      next (branch_form second v y.1) _ (After len (λ o. If o StatementLies)) (After len BodyLies) (branch_kept second m v y.1 q.1) (λ z r.
      (if_lies x.0 y.0 z.0 p.0 q.0 r.0, r.1))))

  case_step : (selector : Expr) (arms : List ArmForm) → expr_within len selector ≡ true → AllByRecursion ArmKept arms → BodyKept (body_step (Body-F.Case selector arms))
  case_step selector arms h k at place v b l =
      next (operand_form (expr_form v selector) b) _ (After len (ExprLies len)) (After len BodyLies) (test_kept v selector h b l) (λ x p.
      next (arms_form arms v x.1) _ (After len (AllByRecursion ArmLies)) (After len BodyLies) (arms_kept arms k v x.1 p.1) (λ xs q.
      (case_lies x.0 xs.0 p.0 (all_in (arm_lies len) xs.0 q.0), q.1)))

  while_step : (test : Expr) (inner : StatementForm) → expr_within len test ≡ true → StatementKept inner → BodyKept (body_step (Body-F.While test inner))
  while_step test inner h k at place v b l =
      next (operand_form (expr_form v test) b) _ (After len (ExprLies len)) (After len BodyLies) (test_kept v test h b l) (λ x p.
      next (inner v x.1) _ (After len StatementLies) (After len BodyLies) (k v x.1 p.1) (λ y q.
      (while_lies x.0 y.0 p.0 q.0, q.1)))

  repeat_step : (members : List StatementForm) (until : Span) (test : Expr) → AllByRecursion StatementKept members → is_piece len until ≡ true → expr_within len test ≡ true → BodyKept (body_step (Body-F.Repeat members until test))
  repeat_step members until test h piece k at place v b l =
      next (members_form members v b) _ (After len MembersLie) (After len BodyLies) (members_kept members h v b l) (λ xs p.
      next (operand_form (expr_form v test) xs.1) _ (After len (ExprLies len)) (After len BodyLies) (test_kept v test k xs.1 p.1) (λ x q.
      (repeat_lies xs.0 until.start x.0 p.0 (begins_in len until piece) q.0, q.1)))

  for_step : (control : Span) (first : Expr) (down : Bool) (last : Expr) (inner : StatementForm) → expr_within len first ≡ true → expr_within len last ≡ true → StatementKept inner → BodyKept (body_step (Body-F.For control first down last inner))
  for_step control first down last inner h k m at place v b l =
      next (for_head_form v control (expr_form v first) (expr_form v last) at b) _ (After len HeadLies) (After len BodyLies)
      (head_kept v control (expr_form v first) (expr_form v last) at place (expr_lies_of len v first h) (expr_lies_of len v last k) b l) (λ x p.
      next (inner (over v x.0.variable.at) x.1) _ (After len StatementLies) (After len BodyLies) (m (over v x.0.variable.at) x.1 p.1) (λ y q.
      (for_lies x.0.variable.number x.0.bound x.0.first down x.0.last y.0 p.0.first p.0.last q.0, q.1)))

  abbrev OfBody : Body → Type 0
  OfBody x = body_within len x ≡ true → BodyKept (body_form x)

  abbrev OfElement : Element → Type 0
  OfElement x = element_within len x ≡ true → ArmKept (arm_form x)

  abbrev OfStatement : Statement → Type 0
  OfStatement x = statement_within len x ≡ true → StatementKept (statement_form x)

  statements_lie : (ys : List (With OfStatement)) → all_true (map (statement_within len) (map (λ (y : With OfStatement). y.0) ys)) ≡ true → AllByRecursion StatementKept (map statement_form (map (λ (y : With OfStatement). y.0) ys))
  statements_lie [] h = tt
  statements_lie (y ∷ ys) h = let p = and_parts (statement_within len y.0) _ h in (y.1 p.0, statements_lie ys p.1)

  elements_lie : (ys : List (With OfElement)) → all_true (map (element_within len) (map (λ (y : With OfElement). y.0) ys)) ≡ true → AllByRecursion ArmKept (map arm_form (map (λ (y : With OfElement). y.0) ys))
  elements_lie [] h = tt
  elements_lie (y ∷ ys) h = let p = and_parts (element_within len y.0) _ h in (y.1 p.0, elements_lie ys p.1)

  within_body : (d : Body-F Body Element Statement) → body_within len (roll-Body d) ≡ true → spans.body_step len (map-Body Body Element Statement Bool Bool Bool (body_within len) (element_within len) (statement_within len) d) ≡ true
  within_body d h = sym (fold-roll-Body Bool Bool Bool (spans.body_step len) (spans.element_step len) (spans.statement_step len) d) ∙ h

  body_kept_by : (d : Body-F Body Element Statement) → BodyKept (body_step (map-Body Body Element Statement BodyForm ArmForm StatementForm body_form arm_form statement_form d)) → BodyKept (body_form (roll-Body d))
  unfolding statement_form body_form arm_form
  body_kept_by d h = subst BodyKept (sym (fold-roll-Body BodyForm ArmForm StatementForm body_step arm_step statement_step d)) h

  of_body : (y : Body-F (With OfBody) (With OfElement) (With OfStatement)) → OfBody (roll-Body (map-Body (With OfBody) (With OfElement) (With OfStatement) Body Element Statement (λ e. e.0) (λ e. e.0) (λ e. e.0) y))
  of_body Body-F.Empty h = body_kept_by Body-F.Empty (λ at place v b l. (empty_lies, l))
  of_body (Body-F.Call name actuals) h =
      let p = and_parts (is_piece len name) _ (within_body (Body-F.Call name actuals) h) in
      body_kept_by (Body-F.Call name actuals) (call_step name actuals p.0 p.1)
  of_body (Body-F.Assign target value) h =
      let p = and_parts (access_within len target) _ (within_body (Body-F.Assign target value) h) in
      body_kept_by (Body-F.Assign target value) (λ at place v b l. assignment_kept v target value p.0 p.1 b l)
  of_body (Body-F.Goto label) h = body_kept_by (Body-F.Goto label) (goto_step label)
  of_body (Body-F.Begin members) h =
      let old = map (λ (y : With OfStatement). y.0) members in
      body_kept_by (Body-F.Begin old) (begin_step (map statement_form old) (statements_lie members (within_body (Body-F.Begin old) h)))
  of_body (Body-F.If test first None) h =
      let p = and_parts (expr_within len test) _ (within_body (Body-F.If test first.0 None) h) in
      let q = and_parts (statement_within len first.0) _ p.1 in
      body_kept_by (Body-F.If test first.0 None) (if_step test (statement_form first.0) None p.0 (first.1 q.0) tt)
  of_body (Body-F.If test first (Some second)) h =
      let p = and_parts (expr_within len test) _ (within_body (Body-F.If test first.0 (Some second.0)) h) in
      let q = and_parts (statement_within len first.0) _ p.1 in
      body_kept_by (Body-F.If test first.0 (Some second.0)) (if_step test (statement_form first.0) (Some (statement_form second.0)) p.0 (first.1 q.0) (second.1 q.1))
  of_body (Body-F.Case selector arms) h =
      let old = map (λ (y : With OfElement). y.0) arms in
      let p = and_parts (expr_within len selector) _ (within_body (Body-F.Case selector old) h) in
      body_kept_by (Body-F.Case selector old) (case_step selector (map arm_form old) p.0 (elements_lie arms p.1))
  of_body (Body-F.While test inner) h =
      let p = and_parts (expr_within len test) _ (within_body (Body-F.While test inner.0) h) in
      body_kept_by (Body-F.While test inner.0) (while_step test (statement_form inner.0) p.0 (inner.1 p.1))
  of_body (Body-F.Repeat members until test) h =
      let old = map (λ (y : With OfStatement). y.0) members in
      let p = and_parts (all_true (map (statement_within len) old)) _ (within_body (Body-F.Repeat old until test) h) in
      let q = and_parts (is_piece len until) _ p.1 in
      body_kept_by (Body-F.Repeat old until test) (repeat_step (map statement_form old) until test (statements_lie members p.0) q.0 q.1)
  of_body (Body-F.For control first down last inner) h =
      let p = and_parts (is_piece len control) _ (within_body (Body-F.For control first down last inner.0) h) in
      let q = and_parts (expr_within len first) _ p.1 in
      let r = and_parts (expr_within len last) _ q.1 in
      body_kept_by (Body-F.For control first down last inner.0) (for_step control first down last (statement_form inner.0) q.0 r.0 (inner.1 r.1))

  within_element : (d : Element-F Body Element Statement) → element_within len (roll-Element d) ≡ true → (list_all (constant_within len) d.consts && statement_within len d.body) ≡ true
  within_element d h = sym (fold-roll-Element Bool Bool Bool (spans.body_step len) (spans.element_step len) (spans.statement_step len) d) ∙ h

  arm_kept_by : (d : Element-F Body Element Statement) → ArmKept (arm_step (map-Element Body Element Statement BodyForm ArmForm StatementForm body_form arm_form statement_form d)) → ArmKept (arm_form (roll-Element d))
  unfolding statement_form body_form arm_form
  arm_kept_by d h = subst ArmKept (sym (fold-roll-Element BodyForm ArmForm StatementForm body_step arm_step statement_step d)) h

  of_element : (y : Element-F (With OfBody) (With OfElement) (With OfStatement)) → OfElement (roll-Element (map-Element (With OfBody) (With OfElement) (With OfStatement) Body Element Statement (λ e. e.0) (λ e. e.0) (λ e. e.0) y))
  of_element y h =
      let p = and_parts (list_all (constant_within len) y.consts) _ (within_element _ h) in
      arm_kept_by _ (λ v b l.
      whatever (constants_form v y.consts) _ (After len ArmLies) (λ consts.
      next (statement_form y.body.0 v b) _ (After len StatementLies) (After len ArmLies) (y.body.1 p.1 v b l) (λ x q.
      (built_folds.fold-roll-Arm Bool Bool Bool (places.body_step len) places.arm_step (places.statement_step len) (record { consts = consts; body = x.0 }) ∙ q.0, q.1))))

  within_statement : (d : Statement-F Body Element Statement) → statement_within len (roll-Statement d) ≡ true
      → (true_if_some (option_map (label_within len) d.label) && (list_all (assertion_within len) d.asserts && (body_within len d.body && is_piece len d.at))) ≡ true
  within_statement d h = sym (fold-roll-Statement Bool Bool Bool (spans.body_step len) (spans.element_step len) (spans.statement_step len) d) ∙ h

  statement_kept_by : (d : Statement-F Body Element Statement) → StatementKept (statement_step (map-Statement Body Element Statement BodyForm ArmForm StatementForm body_form arm_form statement_form d)) → StatementKept (statement_form (roll-Statement d))
  unfolding statement_form body_form arm_form
  statement_kept_by d h = subst StatementKept (sym (fold-roll-Statement BodyForm ArmForm StatementForm body_step arm_step statement_step d)) h

  of_statement : (y : Statement-F (With OfBody) (With OfElement) (With OfStatement)) → OfStatement (roll-Statement (map-Statement (With OfBody) (With OfElement) (With OfStatement) Body Element Statement (λ e. e.0) (λ e. e.0) (λ e. e.0) y))
  of_statement y h =
      let p = and_parts (true_if_some (option_map (label_within len) y.label)) _ (within_statement _ h) in
      let q = and_parts (list_all (assertion_within len) y.asserts) _ p.1 in
      let r = and_parts (body_within len y.body.0) _ q.1 in
      statement_kept_by _ (λ v b l.
      next (in_order (assert_form v) y.asserts b) _ (After len (AllByRecursion (λ (n : ℕ). Unit {0}))) (After len StatementLies)
      (in_order_kept len (λ (n : ℕ). Unit {0}) (λ (a : Assertion). assertion_within len a ≡ true) (assert_form v) (assert_kept v) y.asserts (each_in (assertion_within len) y.asserts q.0) b l) (λ asserts m.
      next (body_form y.body.0 y.at v asserts.1) _ (After len BodyLies) (After len StatementLies) (y.body.1 r.0 y.at r.1 v asserts.1 m.1) (λ x n.
      (statement_of_lies y.at.start (option_map label_value y.label) asserts.0 x.0 (begins_in len y.at r.1) n.0, n.1))))

  pub statement_kept : (s : Statement) → statement_within len s ≡ true → StatementKept (statement_form s)
  statement_kept =
      ind-Statement OfBody OfElement OfStatement
      (λ x y is. subst (λ z. OfBody (roll-Body z)) is (of_body y))
      (λ x y is. subst (λ z. OfElement (roll-Element z)) is (of_element y))
      (λ x y is. subst (λ z. OfStatement (roll-Statement z)) is (of_statement y))

  all_statements : (ss : List Statement) → list_all (statement_within len) ss ≡ true → AllByRecursion StatementKept (map statement_form ss)
  all_statements [] h = tt
  all_statements (s ∷ ss) h = let p = and_parts (statement_within len s) _ h in (statement_kept s p.0, all_statements ss p.1)

  -- a statement part
  pub sequence_kept : (v : Sight) (ss : List Statement) → list_all (statement_within len) ss ≡ true → Safe len MembersLie (sequence_form v ss)
  sequence_kept v ss h b l = members_kept (map statement_form ss) (all_statements ss h) v b l
