-- The places of statements rise that are built of a tree whose starts rise.
use Rattle.std.proofs.Common.{◌≡◌, ℕ, Bool, true, false, List, [], ◌∷◌, ◌++◌, length, map, Option, Some, None, Result, Ok, Err, refl, sym, ap, subst, append_assoc, ◌∙◌}
use Rattle.std.proofs.lemmas.Bool.{and_from}
use Rattle.std.specs.List.{AllByRecursion, slice_get}
use Rattle.std.specs.Option.{option_map}
use Rattle.px_base.specs.declared.place.Span.{Span}
use Rattle.pas_program.specs.declared.expr.Access as built_access
use Rattle.pas_program.specs.declared.expr.Actual as built_actual
use Rattle.pas_program.specs.declared.expr.Actual.TheViews as expr_views
use Rattle.pas_program.specs.declared.expr.Expr as built_expr
use Rattle.pas_program.specs.declared.routine.Assert.{Assert}
use Rattle.pas_program.specs.declared.statement.Arm as built_arm
use Rattle.pas_program.specs.declared.statement.Body as built_body
use Rattle.pas_program.specs.declared.statement.Body.TheFolds as built_folds
use Rattle.pas_program.specs.declared.statement.Body.TheOpen as built_open
use Rattle.pas_program.specs.declared.statement.Body.TheVariants as body
use Rattle.pas_program.specs.declared.statement.Body.TheViews as built_views
use Rattle.pas_program.specs.declared.statement.Statement as built_statement
use Rattle.pas_program.specs.declared.statement.WriteItem.{WriteItem}
use Rattle.pas_program.specs.declared.statement.WriteValue.{WriteValue}
use Rattle.pas_program.specs.declared.variable.VarKind.TheVariants as kind
use Rattle.pas_program.specs.Each.{all_true}
use Rattle.pas_program.specs.Rising.{access_part, actual_part, before, condition_part, conditions_part, expr_part, in_turn, item_part, rises, statement_rises, token, width_part, written_part}
use Rattle.pas_program.specs.Rising as rising
use Rattle.pas_tree.specs.declared.block.Label.{Label}
use Rattle.pas_tree.specs.declared.expr.Access.{Access}
use Rattle.pas_tree.specs.declared.expr.Actual.{Actual}
use Rattle.pas_tree.specs.declared.expr.ActualValue.TheFolds as expr_folds
use Rattle.pas_tree.specs.declared.expr.ActualValue.TheViews.{out-Access}
use Rattle.pas_tree.specs.declared.expr.Expr.{Expr}
use Rattle.pas_tree.specs.declared.statement.Assertion.{Assertion}
use Rattle.pas_tree.specs.declared.statement.Body.{Body}
use Rattle.pas_tree.specs.declared.statement.Body.TheOpen.{Body-F, Element-F, Statement-F}
use Rattle.pas_tree.specs.declared.statement.Body.TheFolds.{fold-roll-Body, fold-roll-Element, fold-roll-Statement, ind-Statement, map-Body, map-Element, map-Statement}
use Rattle.pas_tree.specs.declared.statement.Body.TheViews.{roll-Body, roll-Element, roll-Statement}
use Rattle.pas_tree.specs.declared.statement.Element.{Element}
use Rattle.pas_tree.specs.declared.statement.Statement.{Statement}
use Rattle.pas_tree.specs.Order.{Parts, Starts, access_starts, actual_starts, assertion_starts, body_starts, constant_starts, element_starts, expr_starts, if_some, joined, label_if_some, statement_starts, with_word}
use Rattle.pas_tree.specs.Order as order
use Rattle.pas_check.specs.declared.built.Built.{Built}
use Rattle.pas_check.specs.declared.control.ForHead.{ForHead}
use Rattle.pas_check.specs.declared.expr.Typed.{Typed}
use Rattle.pas_check.specs.declared.expr.Typed.TheVariants as typed
use Rattle.pas_check.specs.declared.meaning.Meaning.{Meaning}
use Rattle.pas_check.specs.declared.meaning.Meaning.TheVariants as means
use Rattle.pas_check.specs.declared.meaning.Transput.{Transput}
use Rattle.pas_check.specs.declared.meaning.Transput.TheVariants as transput
use Rattle.pas_check.specs.Built.{Builds, ◌>>=◌, allowed, in_order, with_own}
use Rattle.pas_check.specs.Control.{controlled}
use Rattle.pas_check.specs.Expr.{callee_at, formals_at, meant}
use Rattle.pas_check.specs.Forms.{Form, GivenForm, all_passed_form, expr_form, expression_form, given_form, operand_form, reached_form}
use Rattle.pas_check.specs.Labels.{left_for}
use Rattle.pas_check.specs.Sight.{Sight}
use Rattle.pas_check.specs.Statement.{target_by}
use Rattle.pas_check.specs.StatementForms.{ArmForm, BodyForm, StatementForm, arm_form, arm_step, arms_form, assert_form, assigned_form, assignment_form, body_form, body_step, branch_form, call_form, called_form, constants_form, for_head_form, goto_form, item_form, label_value, members_form, procedure_form, read_form, reads_form, sequence_form, statement_form, statement_step, target_form, transput_form, value_assigned_form, width_form, writes_form, written_form}
use Rattle.pas_check.specs.Statements.{over}
use Rattle.pas_check.proofs.ExprRises.{AccessFits, ActualsRise, After, ExprRises, FormRises, GivenRises, InTurn, ReachedRises, TypedRises, ValueRises, actual_rises_of, all_passed_kept, expr_fits, expr_rises_of, first_fits, given_expression, operand_kept, reached_kept, some_fits}
use Rattle.pas_check.proofs.PlacesKept.{If, all_in, next, whatever}
use Rattle.pas_check.proofs.RisesKept.{Begins, Fits, Grows, Rising, Safe, With, begins_shorter, behind_one, both_fit, first_part, fits_behind, get_at_end, grows_more, grows_not, if_weaker, in_order_rises, part_rises, second_part}

-- ---- parts that rise

expr_rises : (ns : Starts) (e : built_expr.Expr) → Rising ns → ExprRises ns e → rises (expr_part e) ≡ true
expr_rises ns e r h = part_rises ns (expr_part e) r (expr_fits ns e h)

-- an actual with its own starts
record GivenUp (base : Built) (a : GivenForm) : Type 0 where
  pub starts : Starts
  pub up : Rising starts
  pub given : GivenRises base starts a

each_given : (base : Built) (ns : Starts) (gs : List GivenForm) → Rising ns → InTurn (GivenRises base) ns gs → AllByRecursion (GivenUp base) gs
each_given base ns [] r h = tt
each_given base ns (g ∷ gs) r h =
    let s : Rising (h.0 ++ h.1) = subst Rising h.2 r in
    (record { starts = h.0; up = first_part h.0 h.1 s; given = h.3 }, each_given base h.1 gs (second_part h.0 h.1 s) h.4)

abbrev AccessUp : built_access.Access → Type 0
AccessUp a = rises (access_part a) ≡ true

abbrev ItemUp : WriteItem → Type 0
ItemUp i = rises (item_part i) ≡ true

abbrev WrittenFits : Starts → WriteValue → Type 0
WrittenFits ns w = Fits ns (written_part w)

abbrev WidthFits : Starts → Option built_expr.Expr → Type 0
WidthFits ns w = Fits ns (width_part w)

-- ---- what is read and written

module _ (base : Built) where
  read_kept : (a : GivenForm) → GivenUp base a → Safe base AccessUp (read_form a)
  unfolding read_form
  read_kept a u b l =
      let h = u.given in
      next (expression_form a.value) _ (FormRises base h.first) (After base AccessUp) (given_expression base h.first a.value h.value) (λ e k.
      next (e.variable b) _ (After base (ReachedRises h.first)) (After base AccessUp) (k.variable b l) (λ r p.
      (part_rises h.first (access_part r.0.access) (first_part h.first h.second (subst Rising h.is u.up)) p.0.fits, p.1)))

  written_kept : (v : Sight) (ns : Starts) (value : Result Form Span) → ValueRises base ns value → Safe base (WrittenFits ns) (written_form v value)
  unfolding written_form
  written_kept v ns (Ok e) h b l = next (operand_form e b) _ (After base (ExprRises ns)) (After base (WrittenFits ns)) (operand_kept base ns e h b l) (λ x p. (expr_fits ns x.0 p.0, p.1))
  written_kept v ns (Err span) h b l = (some_fits ns, l)

  width_kept : (ns : Starts) (width : Option Form) → If width (FormRises base ns) → Safe base (WidthFits ns) (width_form width)
  width_kept ns None h b l = (some_fits ns, l)
  width_kept ns (Some e) h b l = next (operand_form e b) _ (After base (ExprRises ns)) (After base (WidthFits ns)) (operand_kept base ns e h b l) (λ x p. (expr_fits ns x.0 p.0, p.1))

  item_kept : (v : Sight) (a : GivenForm) → GivenUp base a → Safe base ItemUp (item_form v a)
  unfolding item_form
  item_kept v a u b l =
      let h = u.given in
      next (written_form v a.value b) _ (After base (WrittenFits h.first)) (After base ItemUp) (written_kept v h.first a.value h.value b l) (λ x p.
      next (width_form a.width x.1) _ (After base (WidthFits h.second)) (After base ItemUp) (width_kept h.second a.width h.width x.1 p.1) (λ w q.
      (part_rises (h.first ++ h.second) (item_part (record { value = x.0; width = w.0 })) (subst Rising h.is u.up) (both_fit h.first h.second (written_part x.0) (width_part w.0) p.0 q.0), q.1)))

  -- the head of a `for`
  record HeadRises (xs ys : Starts) (h : ForHead) : Type 0 where
    pub first : ExprRises xs h.first
    pub last : ExprRises ys h.last

  bound_kept : (name : Span) (t : ℕ) (b : Built) → Grows base b → Grows base (with_own name kind.Bound t b)
  bound_kept name t b l = record { asserts = l.asserts; routines = l.routines }

  head_kept : (v : Sight) (control : Span) (xs ys : Starts) (first last : Form) (at : Span) → FormRises base xs first → FormRises base ys last → Safe base (HeadRises xs ys) (for_head_form v control first last at)
  unfolding for_head_form
  head_kept v control xs ys first last at h k b l =
      whatever (allowed (controlled v control)) _ (After base (HeadRises xs ys)) (λ c.
      next (operand_form first (with_own at kind.Bound c.0.of_type b)) _ (After base (ExprRises xs)) (After base (HeadRises xs ys))
      (operand_kept base xs first h (with_own at kind.Bound c.0.of_type b) (bound_kept at c.0.of_type b l)) (λ x p.
      next (operand_form last x.1) _ (After base (ExprRises ys)) (After base (HeadRises xs ys)) (operand_kept base ys last k x.1 p.1) (λ y q.
      (record { first = p.0; last = q.0 }, q.1))))

-- in a program with these assertions
module _ (all : List Assert) where
  -- ---- one level of what is built

  abbrev body_rises : built_body.Body → Bool
  body_rises = built_folds.fold-Body Bool Bool Bool rising.body_step rising.arm_step (rising.statement_step all)

  abbrev arm_rises : built_arm.Arm → Bool
  arm_rises = built_folds.fold-Arm Bool Bool Bool rising.body_step rising.arm_step (rising.statement_step all)

  abbrev pub BodyRises : built_body.Body → Type 0
  BodyRises x = body_rises x ≡ true

  abbrev pub StatementRises : built_statement.Statement → Type 0
  StatementRises x = statement_rises all x ≡ true

  abbrev pub ArmRises : built_arm.Arm → Type 0
  ArmRises x = arm_rises x ≡ true

  body_is : (d : built_open.Body-F built_body.Body built_arm.Arm built_statement.Statement)
      → rising.body_step (built_folds.map-Body built_body.Body built_arm.Arm built_statement.Statement Bool Bool Bool body_rises arm_rises (statement_rises all) d) ≡ true → BodyRises (built_views.roll-Body d)
  body_is d h = built_folds.fold-roll-Body Bool Bool Bool rising.body_step rising.arm_step (rising.statement_step all) d ∙ h

  empty_rises : BodyRises body.Empty
  empty_rises = ap body_rises (sym body.rolls-Empty) ∙ body_is built_open.Body-F.Empty refl

  assign_rises : (xs ys : Starts) (target : built_access.Access) (value : built_expr.Expr) → Rising (xs ++ ys) → AccessFits xs target → ExprRises ys value → BodyRises (body.Assign target value)
  assign_rises xs ys target value r h k =
      ap body_rises (sym (body.rolls-Assign target value)) ∙ body_is (built_open.Body-F.Assign target value)
      (part_rises (xs ++ ys) (before (access_part target) (expr_part value)) r (both_fit xs ys (access_part target) (expr_part value) h (expr_fits ys value k)))

  copy_rises : (xs ys : Starts) (target source : built_access.Access) → Rising (xs ++ ys) → AccessFits xs target → AccessFits ys source → BodyRises (body.Copy target source)
  copy_rises xs ys target source r h k =
      ap body_rises (sym (body.rolls-Copy target source)) ∙ body_is (built_open.Body-F.Copy target source)
      (part_rises (xs ++ ys) (before (access_part target) (access_part source)) r (both_fit xs ys (access_part target) (access_part source) h k))

  call_rises : (ns : Starts) (routine : ℕ) (actuals : List built_actual.Actual) (at : ℕ) → Rising ns → ActualsRise ns actuals → BodyRises (body.Call routine actuals at)
  call_rises ns routine actuals at r h = ap body_rises (sym (body.rolls-Call routine actuals at)) ∙ body_is (built_open.Body-F.Call routine actuals at) (part_rises ns (in_turn (map actual_part actuals)) r h)

  read_rises : (to : List built_access.Access) (line : Bool) → all_true (map (λ a. rises (access_part a)) to) ≡ true → BodyRises (body.Read to line)
  read_rises to line h = ap body_rises (sym (body.rolls-Read to line)) ∙ body_is (built_open.Body-F.Read to line) h

  write_rises : (items : List WriteItem) (line : Bool) → all_true (map (λ i. rises (item_part i)) items) ≡ true → BodyRises (body.Write items line)
  write_rises items line h = ap body_rises (sym (body.rolls-Write items line)) ∙ body_is (built_open.Body-F.Write items line) h

  goto_rises : (routine label : ℕ) → BodyRises (body.Goto routine label)
  goto_rises routine label = ap body_rises (sym (body.rolls-Goto routine label)) ∙ body_is (built_open.Body-F.Goto routine label) refl

  pub begin_rises : (xs : List built_statement.Statement) (last : ℕ) → all_true (map (statement_rises all) xs) ≡ true → BodyRises (body.Begin xs last)
  begin_rises xs last h = ap body_rises (sym (body.rolls-Begin xs last)) ∙ body_is (built_open.Body-F.Begin xs last) h

  if_rises : (test : built_expr.Expr) (chosen : built_statement.Statement) (other : Option built_statement.Statement) → rises (expr_part test) ≡ true → StatementRises chosen → If other StatementRises → BodyRises (body.If test chosen other)
  if_rises test chosen None h k o = ap body_rises (sym (body.rolls-If test chosen None)) ∙ body_is (built_open.Body-F.If test chosen None) (and_from _ _ h (and_from _ _ k refl))
  if_rises test chosen (Some s) h k o = ap body_rises (sym (body.rolls-If test chosen (Some s))) ∙ body_is (built_open.Body-F.If test chosen (Some s)) (and_from _ _ h (and_from _ _ k o))

  case_rises : (selector : built_expr.Expr) (arms : List built_arm.Arm) → rises (expr_part selector) ≡ true → all_true (map arm_rises arms) ≡ true → BodyRises (body.Case selector arms)
  case_rises selector arms h k = ap body_rises (sym (body.rolls-Case selector arms)) ∙ body_is (built_open.Body-F.Case selector arms) (and_from _ _ h k)

  while_rises : (test : built_expr.Expr) (inner : built_statement.Statement) → rises (expr_part test) ≡ true → StatementRises inner → BodyRises (body.While test inner)
  while_rises test inner h k = ap body_rises (sym (body.rolls-While test inner)) ∙ body_is (built_open.Body-F.While test inner) (and_from _ _ h k)

  repeat_rises : (xs : List built_statement.Statement) (at : ℕ) (test : built_expr.Expr) → all_true (map (statement_rises all) xs) ≡ true → rises (expr_part test) ≡ true → BodyRises (body.Repeat xs at test)
  repeat_rises xs at test h k = ap body_rises (sym (body.rolls-Repeat xs at test)) ∙ body_is (built_open.Body-F.Repeat xs at test) (and_from _ _ h k)

  for_rises : (control bound : ℕ) (first : built_expr.Expr) (down : Bool) (last : built_expr.Expr) (inner : built_statement.Statement) → rises (before (expr_part first) (expr_part last)) ≡ true → StatementRises inner → BodyRises (body.For control bound first down last inner)
  for_rises control bound first down last inner h k =
      ap body_rises (sym (body.rolls-For control bound first down last inner)) ∙ body_is (built_open.Body-F.For control bound first down last inner) (and_from _ _ h k)

  pub statement_of_rises : (at : ℕ) (label : Option ℕ) (asserts : List ℕ) (x : built_body.Body) → rises (conditions_part all asserts) ≡ true → BodyRises x → StatementRises (built_views.roll-Statement (record { at = at; label = label; asserts = asserts; body = x }))
  statement_of_rises at label asserts x p h =
      built_folds.fold-roll-Statement Bool Bool Bool rising.body_step rising.arm_step (rising.statement_step all) (record { at = at; label = label; asserts = asserts; body = x }) ∙ and_from _ _ p h

  -- ---- what is built, and where the assertions built so far begin those of the program

  -- a part, with what is built after it
  abbrev pub Done : {A : Type 0} → Built → (A → Type 0) → A × Built → Type 0
  Done b P r = (Begins all r.1.asserts → P r.0) × Grows b r.1

  abbrev pub Made : {A : Type 0} → (A → Type 0) → Builds A → Type 0
  Made P form = (b : Built) → If (form b) (Done b P)

  back : (c d : Built) → Grows c d → Begins all d.asserts → Begins all c.asserts
  back c d grows g = begins_shorter all d.asserts c.asserts g grows.asserts

  made_of : {A : Type 0} (P : A → Type 0) (b : Built) (o : Option (A × Built)) → If o (After b P) → If o (Done b P)
  made_of P b o h = if_weaker o (After b P) (Done b P) h (λ a p. (λ g. p.0, p.1))

  in_order_made : {A B : Type 0} (P : B → Type 0) (R : A → Type 0) (form : A → Builds B) → ((a : A) → R a → Made P (form a)) → (xs : List A) → AllByRecursion R xs → Made (AllByRecursion P) (in_order form xs)
  in_order_made P R form k [] r b = (λ g. tt, grows_not b)
  in_order_made P R form k (x ∷ xs) r b =
      next (form x b) (λ y. in_order form xs y.1 >>= (λ ys. Some (y.0 ∷ ys.0, ys.1))) (Done b P) (Done b (AllByRecursion P)) (k x r.0 b)
      (λ y p. next (in_order form xs y.1) (λ ys. Some (y.0 ∷ ys.0, ys.1)) (Done y.1 (AllByRecursion P)) (Done b (AllByRecursion P)) (in_order_made P R form k xs r.1 y.1)
      (λ ys q. ((λ g. (p.0 (back y.1 ys.1 q.1 g), q.0 g)), grows_more b y.1 ys.1 p.1 q.1)))

  -- ---- assertions

  abbrev ConditionFits : Starts → ℕ → Type 0
  ConditionFits ns n = Fits ns (condition_part (slice_get all n))

  abbrev ConditionsFit : Starts → List ℕ → Type 0
  ConditionsFit ns listed = Fits ns (conditions_part all listed)

  condition_fits : (ns : Starts) (at : ℕ) (asserts : List Assert) (a : Assert) → ExprRises ns a.cond → Begins all (asserts ++ a ∷ []) → ConditionFits (at ∷ ns) (length asserts)
  condition_fits ns at asserts a h g =
      let e : slice_get all (length asserts) ≡ Some a = ap (λ (xs : List Assert). slice_get xs (length asserts)) g.1 ∙ get_at_end asserts a g.0 in
      subst (λ (o : Option Assert). Fits (at ∷ ns) (condition_part o)) (sym e) (fits_behind at ns (token (expr_views.out-Expr a.cond).first) (first_fits ns a.cond h))

  assert_made : (v : Sight) (a : Assertion) → Made (ConditionFits (assertion_starts a)) (assert_form v a)
  unfolding assert_form
  assert_made v a b =
      let ns = expr_starts a.cond in
      next (operand_form (expr_form (record v { asserting = true }) a.cond) b) _ (After b (ExprRises ns)) (Done b (ConditionFits (assertion_starts a)))
      (operand_kept b ns (expr_form (record v { asserting = true }) a.cond) (expr_rises_of b (record v { asserting = true }) a.cond) b (grows_not b)) (λ x p.
      let new : Assert = record { routine = x.1.frame.routine; sometime = a.sometime; cond = x.0; at = a.span.start } in (
        (λ g. condition_fits ns a.span.start x.1.asserts new p.0 g),
        grows_more b x.1 (record x.1 { asserts = x.1.asserts ++ new ∷ [] }) p.1 (record { asserts = (new ∷ [], refl); routines = refl }),
      ))

  asserts_made : (v : Sight) (xs : List Assertion) → Made (ConditionsFit (joined (map assertion_starts xs))) (in_order (assert_form v) xs)
  asserts_made v [] b = (λ g. some_fits [], grows_not b)
  asserts_made v (x ∷ xs) b =
      let rest = joined (map assertion_starts xs) in
      next (assert_form v x b) _ (Done b (ConditionFits (assertion_starts x))) (Done b (ConditionsFit (assertion_starts x ++ rest))) (assert_made v x b) (λ y p.
      next (in_order (assert_form v) xs y.1) _ (Done y.1 (ConditionsFit rest)) (Done b (ConditionsFit (assertion_starts x ++ rest))) (asserts_made v xs y.1) (λ ys q. (
        (λ g. both_fit (assertion_starts x) rest (condition_part (slice_get all y.0)) (conditions_part all ys.0) (p.0 (back y.1 ys.1 q.1 g)) (q.0 g)),
        grows_more b y.1 ys.1 p.1 q.1,
      )))

  -- ---- procedure calls

  procedure_kept : (base : Built) (v : Sight) (head at : ℕ) (ns : Starts) (gs : List GivenForm) → Rising ns → InTurn (GivenRises base) ns gs → Safe base BodyRises (procedure_form v head at gs)
  unfolding procedure_form
  procedure_kept base v head at ns gs r h b l =
      whatever (callee_at v head) _ (After base BodyRises) (λ c.
      next (all_passed_form (formals_at v head) gs b) _ (After base (ActualsRise ns)) (After base BodyRises) (all_passed_kept base (formals_at v head) ns gs h b l) (λ xs p.
      (call_rises ns c.routine xs.0 at r p.0, p.1)))

  reads_kept : (base : Built) (line : Bool) (gs : List GivenForm) → AllByRecursion (GivenUp base) gs → Safe base BodyRises (reads_form line gs)
  reads_kept base line gs h b l =
      next (in_order read_form gs b) _ (After base (AllByRecursion AccessUp)) (After base BodyRises) (in_order_rises base AccessUp (GivenUp base) read_form (read_kept base) gs h b l) (λ to p.
      (read_rises to.0 line (all_in (λ a. rises (access_part a)) to.0 p.0), p.1))

  writes_kept : (base : Built) (v : Sight) (line : Bool) (gs : List GivenForm) → AllByRecursion (GivenUp base) gs → Safe base BodyRises (writes_form v line gs)
  writes_kept base v line gs h b l =
      next (in_order (item_form v) gs b) _ (After base (AllByRecursion ItemUp)) (After base BodyRises) (in_order_rises base ItemUp (GivenUp base) (item_form v) (item_kept base v) gs h b l) (λ items p.
      (write_rises items.0 line (all_in (λ i. rises (item_part i)) items.0 p.0), p.1))

  transput_kept : (base : Built) (v : Sight) (t : Transput) (gs : List GivenForm) → AllByRecursion (GivenUp base) gs → Safe base BodyRises (transput_form v t gs)
  unfolding transput_form
  transput_kept base v transput.Read gs h b l = reads_kept base false gs h b l
  transput_kept base v transput.Readln gs h b l = reads_kept base true gs h b l
  transput_kept base v transput.Write gs h b l = writes_kept base v false gs h b l
  transput_kept base v transput.Writeln gs h b l = writes_kept base v true gs h b l

  called_kept : (base : Built) (v : Sight) (m : Meaning) (at : ℕ) (ns : Starts) (gs : List GivenForm) → Rising ns → InTurn (GivenRises base) ns gs → Safe base BodyRises (called_form v m at gs)
  unfolding called_form
  called_kept base v (means.Routine head false) at ns gs r h b l = procedure_kept base v head at ns gs r h b l
  called_kept base v (means.Transput t) at ns gs r h b l = transput_kept base v t gs (each_given base ns gs r h) b l
  called_kept base v _ at ns gs r h b l = tt

  call_kept : (base : Built) (v : Sight) (name : Span) (ns : Starts) (gs : List GivenForm) → Rising ns → InTurn (GivenRises base) ns gs → Safe base BodyRises (call_form v name gs)
  unfolding call_form
  call_kept base v name ns gs r h b l = whatever (allowed (meant v name)) _ (After base BodyRises) (λ m. called_kept base v m name.start ns gs r h b l)

  givens_rise : (base : Built) (v : Sight) (gs : List Actual) → InTurn (GivenRises base) (joined (map actual_starts gs)) (map (given_form v) gs)
  givens_rise base v [] = tt
  givens_rise base v (a ∷ gs) = (actual_starts a, joined (map actual_starts gs), refl, actual_rises_of base v a, givens_rise base v gs)

  exprs_rise : (base : Built) (v : Sight) (es : List Expr) → InTurn (FormRises base) (joined (map expr_starts es)) (map (expr_form v) es)
  exprs_rise base v [] = tt
  exprs_rise base v (e ∷ es) = (expr_starts e, joined (map expr_starts es), refl, expr_rises_of base v e, exprs_rise base v es)

  -- ---- assignment

  assigned_rises : (xs ys : Starts) (to : built_access.Access) (t : Typed) → Rising (xs ++ ys) → AccessFits xs to → TypedRises ys t → BodyRises (assigned_form to t)
  assigned_rises xs ys to (typed.Scalar e boolean) r h k = assign_rises xs ys to e r h k
  assigned_rises xs ys to (typed.Array from t) r h k = copy_rises xs ys to from r h k

  value_assigned_kept : (base : Built) (xs ys : Starts) (to : built_access.Access) (value : Form) → Rising (xs ++ ys) → AccessFits xs to → FormRises base ys value → Safe base BodyRises (value_assigned_form to value)
  unfolding value_assigned_form
  value_assigned_kept base xs ys to value r h k b l =
      next (value.value b) _ (After base (TypedRises ys)) (After base BodyRises) (k.value b l) (λ t p. (assigned_rises xs ys to t.0 r h p.0, p.1))

  target_kept : (base : Built) (v : Sight) (name : Span) (xs ys : Starts) (subscripts : List Form) (value : Form) → Rising (name.start ∷ (xs ++ ys)) → InTurn (FormRises base) xs subscripts → FormRises base ys value
      → Safe base BodyRises (target_form v name subscripts value)
  unfolding target_form
  target_kept base v name xs ys subscripts value r h k b l =
      whatever (allowed (meant v name)) _ (After base BodyRises) (λ m.
      whatever (allowed (target_by v m name.start)) _ (After base BodyRises) (λ x.
      next (reached_form v x.0 name.start subscripts b) _ (After base (ReachedRises (name.start ∷ xs))) (After base BodyRises) (reached_kept base v x.0 name.start xs subscripts h b l) (λ y p.
      value_assigned_kept base (name.start ∷ xs) ys y.0.access value r p.0.fits k y.1 p.1)))

  assignment_kept : (base : Built) (v : Sight) (to : Access) (value : Expr) → Rising (access_starts to ++ expr_starts value) → Safe base BodyRises (assignment_form v to value)
  unfolding assignment_form
  assignment_kept base v to value r b l =
      let a = out-Access to in
      target_kept base v a.name (joined (map expr_starts a.subscripts)) (expr_starts value) (map (expr_form v) a.subscripts) (expr_form v value)
      (subst (λ (ns : Starts). Rising (ns ++ expr_starts value)) (expr_folds.fold_out-Access Starts Starts Starts Starts order.value_step order.expr_step order.access_step order.actual_step to) r)
      (exprs_rise base v a.subscripts) (expr_rises_of base v value) b l

  -- ---- `goto`

  goto_kept : (v : Sight) (l : Label) (at : ℕ) → If (goto_form v l at) BodyRises
  unfolding goto_form
  goto_kept v l at = whatever (allowed (left_for v.labels l at true)) _ BodyRises (λ routine. goto_rises routine l.value)

  -- ---- the whole

  abbrev pub StatementKept : StatementForm → Type 0
  StatementKept f = (v : Sight) → Made StatementRises (f v)

  abbrev BodyKept : BodyForm → Type 0
  BodyKept f = (at : Span) (v : Sight) → Made BodyRises (f at v)

  abbrev ArmKept : ArmForm → Type 0
  ArmKept f = (v : Sight) → Made ArmRises (f v)

  abbrev pub MembersRise : List built_statement.Statement → Type 0
  MembersRise xs = all_true (map (statement_rises all) xs) ≡ true

  members_kept : (members : List StatementForm) → AllByRecursion StatementKept members → (v : Sight) → Made MembersRise (members_form members v)
  members_kept members h v b =
      if_weaker (members_form members v b) (Done b (AllByRecursion StatementRises)) (Done b MembersRise) (in_order_made StatementRises StatementKept (λ (s : StatementForm). s v) (λ s k. k v) members h b)
      (λ xs p. (λ g. all_in (statement_rises all) xs.0 (p.0 g), p.1))

  arms_kept : (arms : List ArmForm) → AllByRecursion ArmKept arms → (v : Sight) → Made (AllByRecursion ArmRises) (arms_form arms v)
  arms_kept arms h v b = in_order_made ArmRises ArmKept (λ (a : ArmForm). a v) (λ a k. k v) arms h b

  branch_kept : (other : Option StatementForm) → If other StatementKept → (v : Sight) → Made (λ o. If o StatementRises) (branch_form other v)
  branch_kept None h v b = (λ g. tt, grows_not b)
  branch_kept (Some s) h v b = next (s v b) _ (Done b StatementRises) (Done b (λ o. If o StatementRises)) (h v b) (λ x p. (p.0, p.1))

  -- one form of statement, with what is known of its parts
  call_step : (name : Span) (actuals : List Actual) → Rising (name.start ∷ joined (map actual_starts actuals)) → BodyKept (body_step (Body-F.Call name actuals))
  call_step name actuals r at v b =
      let ns = joined (map actual_starts actuals) in
      made_of BodyRises b (call_form v name (map (given_form v) actuals) b) (call_kept b v name ns (map (given_form v) actuals) (behind_one name.start ns r) (givens_rise b v actuals) b (grows_not b))

  assign_step : (to : Access) (value : Expr) → Rising (access_starts to ++ expr_starts value) → BodyKept (body_step (Body-F.Assign to value))
  assign_step to value r at v b = made_of BodyRises b (assignment_form v to value b) (assignment_kept b v to value r b (grows_not b))

  goto_step : (label : Label) → BodyKept (body_step (Body-F.Goto label))
  goto_step label at v b = next (goto_form v label at.start) _ BodyRises (Done b BodyRises) (goto_kept v label at.start) (λ x p. (λ g. p, grows_not b))

  begin_step : (members : List StatementForm) → AllByRecursion StatementKept members → BodyKept (body_step (Body-F.Begin members))
  begin_step members h at v b =
      next (members_form members v b) _ (Done b MembersRise) (Done b BodyRises) (members_kept members h v b) (λ xs p. (λ g. begin_rises xs.0 at.start (p.0 g), p.1))

  test_kept : (v : Sight) (e : Expr) (b : Built) → If (operand_form (expr_form v e) b) (After b (ExprRises (expr_starts e)))
  test_kept v e b = operand_kept b (expr_starts e) (expr_form v e) (expr_rises_of b v e) b (grows_not b)

  if_step : (test : Expr) (first : StatementForm) (second : Option StatementForm) → Rising (expr_starts test) → StatementKept first → If second StatementKept → BodyKept (body_step (Body-F.If test first second))
  if_step test first second r k m at v b =
      next (operand_form (expr_form v test) b) _ (After b (ExprRises (expr_starts test))) (Done b BodyRises) (test_kept v test b) (λ x p.
      next (first v x.1) _ (Done x.1 StatementRises) (Done b BodyRises) (k v x.1) (λ y q.
      next (branch_form second v y.1) _ (Done y.1 (λ o. If o StatementRises)) (Done b BodyRises) (branch_kept second m v y.1) (λ z s. (
        (λ g. if_rises x.0 y.0 z.0 (expr_rises (expr_starts test) x.0 r p.0) (q.0 (back y.1 z.1 s.1 g)) (s.0 g)),
        grows_more b y.1 z.1 (grows_more b x.1 y.1 p.1 q.1) s.1,
      ))))

  case_step : (selector : Expr) (arms : List ArmForm) → Rising (expr_starts selector) → AllByRecursion ArmKept arms → BodyKept (body_step (Body-F.Case selector arms))
  case_step selector arms r k at v b =
      next (operand_form (expr_form v selector) b) _ (After b (ExprRises (expr_starts selector))) (Done b BodyRises) (test_kept v selector b) (λ x p.
      next (arms_form arms v x.1) _ (Done x.1 (AllByRecursion ArmRises)) (Done b BodyRises) (arms_kept arms k v x.1) (λ xs q. (
        (λ g. case_rises x.0 xs.0 (expr_rises (expr_starts selector) x.0 r p.0) (all_in arm_rises xs.0 (q.0 g))),
        grows_more b x.1 xs.1 p.1 q.1,
      )))

  while_step : (test : Expr) (inner : StatementForm) → Rising (expr_starts test) → StatementKept inner → BodyKept (body_step (Body-F.While test inner))
  while_step test inner r k at v b =
      next (operand_form (expr_form v test) b) _ (After b (ExprRises (expr_starts test))) (Done b BodyRises) (test_kept v test b) (λ x p.
      next (inner v x.1) _ (Done x.1 StatementRises) (Done b BodyRises) (k v x.1) (λ y q. (
        (λ g. while_rises x.0 y.0 (expr_rises (expr_starts test) x.0 r p.0) (q.0 g)),
        grows_more b x.1 y.1 p.1 q.1,
      )))

  repeat_step : (members : List StatementForm) (until : Span) (test : Expr) → AllByRecursion StatementKept members → Rising (expr_starts test) → BodyKept (body_step (Body-F.Repeat members until test))
  repeat_step members until test h r at v b =
      next (members_form members v b) _ (Done b MembersRise) (Done b BodyRises) (members_kept members h v b) (λ xs p.
      next (operand_form (expr_form v test) xs.1) _ (After xs.1 (ExprRises (expr_starts test))) (Done b BodyRises) (test_kept v test xs.1) (λ x q. (
        (λ g. repeat_rises xs.0 until.start x.0 (p.0 (back xs.1 x.1 q.1 g)) (expr_rises (expr_starts test) x.0 r q.0)),
        grows_more b xs.1 x.1 p.1 q.1,
      )))

  for_step : (control : Span) (first : Expr) (down : Bool) (last : Expr) (inner : StatementForm) → Rising (expr_starts first ++ expr_starts last) → StatementKept inner → BodyKept (body_step (Body-F.For control first down last inner))
  for_step control first down last inner r m at v b =
      let xs = expr_starts first in
      let ys = expr_starts last in
      next (for_head_form v control (expr_form v first) (expr_form v last) at b) _ (After b (HeadRises b xs ys)) (Done b BodyRises)
      (head_kept b v control xs ys (expr_form v first) (expr_form v last) at (expr_rises_of b v first) (expr_rises_of b v last) b (grows_not b)) (λ x p.
      next (inner (over v x.0.variable.at) x.1) _ (Done x.1 StatementRises) (Done b BodyRises) (m (over v x.0.variable.at) x.1) (λ y q. (
        (λ g. for_rises x.0.variable.number x.0.bound x.0.first down x.0.last y.0
            (part_rises (xs ++ ys) (before (expr_part x.0.first) (expr_part x.0.last)) r (both_fit xs ys (expr_part x.0.first) (expr_part x.0.last) (expr_fits xs x.0.first p.0.first) (expr_fits ys x.0.last p.0.last))) (q.0 g)),
        grows_more b x.1 y.1 p.1 q.1,
      )))

  abbrev OfBody : Body → Type 0
  OfBody x = Rising (body_starts x).1 → BodyKept (body_form x)

  abbrev OfElement : Element → Type 0
  OfElement x = Rising (element_starts x) → ArmKept (arm_form x)

  abbrev OfStatement : Statement → Type 0
  OfStatement x = Rising (statement_starts x) → StatementKept (statement_form x)

  statements_rise : (ys : List (With OfStatement)) → Rising (joined (map statement_starts (map (λ (y : With OfStatement). y.0) ys))) → AllByRecursion StatementKept (map statement_form (map (λ (y : With OfStatement). y.0) ys))
  statements_rise [] r = tt
  statements_rise (y ∷ ys) r =
      let rest = joined (map statement_starts (map (λ (y : With OfStatement). y.0) ys)) in
      (y.1 (first_part (statement_starts y.0) rest r), statements_rise ys (second_part (statement_starts y.0) rest r))

  elements_rise : (ys : List (With OfElement)) → Rising (joined (map element_starts (map (λ (y : With OfElement). y.0) ys))) → AllByRecursion ArmKept (map arm_form (map (λ (y : With OfElement). y.0) ys))
  elements_rise [] r = tt
  elements_rise (y ∷ ys) r =
      let rest = joined (map element_starts (map (λ (y : With OfElement). y.0) ys)) in
      (y.1 (first_part (element_starts y.0) rest r), elements_rise ys (second_part (element_starts y.0) rest r))

  -- one level of the tree
  body_up : (d : Body-F Body Element Statement) → Rising (body_starts (roll-Body d)).1 → Rising (order.body_step (map-Body Body Element Statement Parts Starts Starts body_starts element_starts statement_starts d)).1
  body_up d r = subst (λ (p : Parts). Rising p.1) (fold-roll-Body Parts Starts Starts order.body_step order.element_step order.statement_step d) r

  body_kept_by : (d : Body-F Body Element Statement) → BodyKept (body_step (map-Body Body Element Statement BodyForm ArmForm StatementForm body_form arm_form statement_form d)) → BodyKept (body_form (roll-Body d))
  unfolding statement_form body_form arm_form
  body_kept_by d h = subst BodyKept (sym (fold-roll-Body BodyForm ArmForm StatementForm body_step arm_step statement_step d)) h

  of_body : (y : Body-F (With OfBody) (With OfElement) (With OfStatement)) → OfBody (roll-Body (map-Body (With OfBody) (With OfElement) (With OfStatement) Body Element Statement (λ e. e.0) (λ e. e.0) (λ e. e.0) y))
  of_body Body-F.Empty r = body_kept_by Body-F.Empty (λ at v b. (λ g. empty_rises, grows_not b))
  of_body (Body-F.Call name actuals) r = body_kept_by (Body-F.Call name actuals) (call_step name actuals (body_up (Body-F.Call name actuals) r))
  of_body (Body-F.Assign target value) r = body_kept_by (Body-F.Assign target value) (assign_step target value (body_up (Body-F.Assign target value) r))
  of_body (Body-F.Goto label) r = body_kept_by (Body-F.Goto label) (goto_step label)
  of_body (Body-F.Begin members) r =
      let old = map (λ (y : With OfStatement). y.0) members in
      body_kept_by (Body-F.Begin old) (begin_step (map statement_form old) (statements_rise members (body_up (Body-F.Begin old) r)))
  of_body (Body-F.If test first None) r =
      let s = body_up (Body-F.If test first.0 None) r in
      let behind = statement_starts first.0 ++ [] in
      body_kept_by (Body-F.If test first.0 None) (if_step test (statement_form first.0) None (first_part (expr_starts test) behind s) (first.1 (first_part (statement_starts first.0) [] (second_part (expr_starts test) behind s))) tt)
  of_body (Body-F.If test first (Some second)) r =
      let s = body_up (Body-F.If test first.0 (Some second.0)) r in
      let behind = statement_starts first.0 ++ statement_starts second.0 in
      let t = second_part (expr_starts test) behind s in
      body_kept_by (Body-F.If test first.0 (Some second.0)) (if_step test (statement_form first.0) (Some (statement_form second.0)) (first_part (expr_starts test) behind s)
      (first.1 (first_part (statement_starts first.0) (statement_starts second.0) t)) (second.1 (second_part (statement_starts first.0) (statement_starts second.0) t)))
  of_body (Body-F.Case selector arms) r =
      let old = map (λ (y : With OfElement). y.0) arms in
      let s = body_up (Body-F.Case selector old) r in
      let behind = joined (map element_starts old) in
      body_kept_by (Body-F.Case selector old) (case_step selector (map arm_form old) (first_part (expr_starts selector) behind s) (elements_rise arms (second_part (expr_starts selector) behind s)))
  of_body (Body-F.While test inner) r =
      let s = body_up (Body-F.While test inner.0) r in
      body_kept_by (Body-F.While test inner.0) (while_step test (statement_form inner.0) (first_part (expr_starts test) (statement_starts inner.0) s) (inner.1 (second_part (expr_starts test) (statement_starts inner.0) s)))
  of_body (Body-F.Repeat members until test) r =
      let old = map (λ (y : With OfStatement). y.0) members in
      let s = body_up (Body-F.Repeat old until test) r in
      let first = joined (map statement_starts old) in
      body_kept_by (Body-F.Repeat old until test) (repeat_step (map statement_form old) until test (statements_rise members (first_part first (until.start ∷ expr_starts test) s))
      (behind_one until.start (expr_starts test) (second_part first (until.start ∷ expr_starts test) s)))
  of_body (Body-F.For control first down last inner) r =
      let xs = expr_starts first in
      let ys = expr_starts last in
      let zs = statement_starts inner.0 in
      let s = subst Rising (sym (append_assoc xs ys zs)) (behind_one control.start (xs ++ (ys ++ zs)) (body_up (Body-F.For control first down last inner.0) r)) in
      body_kept_by (Body-F.For control first down last inner.0) (for_step control first down last (statement_form inner.0) (first_part (xs ++ ys) zs s) (inner.1 (second_part (xs ++ ys) zs s)))

  element_up : (d : Element-F Body Element Statement) → Rising (element_starts (roll-Element d)) → Rising (statement_starts d.body)
  element_up d r =
      second_part (joined (map constant_starts d.consts)) (statement_starts d.body)
      (subst Rising (fold-roll-Element Parts Starts Starts order.body_step order.element_step order.statement_step d) r)

  arm_kept_by : (d : Element-F Body Element Statement) → ArmKept (arm_step (map-Element Body Element Statement BodyForm ArmForm StatementForm body_form arm_form statement_form d)) → ArmKept (arm_form (roll-Element d))
  unfolding statement_form body_form arm_form
  arm_kept_by d h = subst ArmKept (sym (fold-roll-Element BodyForm ArmForm StatementForm body_step arm_step statement_step d)) h

  of_element : (y : Element-F (With OfBody) (With OfElement) (With OfStatement)) → OfElement (roll-Element (map-Element (With OfBody) (With OfElement) (With OfStatement) Body Element Statement (λ e. e.0) (λ e. e.0) (λ e. e.0) y))
  of_element y r =
      arm_kept_by _ (λ v b.
      whatever (constants_form v y.consts) _ (Done b ArmRises) (λ consts.
      next (statement_form y.body.0 v b) _ (Done b StatementRises) (Done b ArmRises) (y.body.1 (element_up _ r) v b) (λ x q.
      (λ g. built_folds.fold-roll-Arm Bool Bool Bool rising.body_step rising.arm_step (rising.statement_step all) (record { consts = consts; body = x.0 }) ∙ q.0 g, q.1))))

  behind_word : (at : Span) (p : Parts) → Rising (with_word at p) → Rising p.1
  behind_word at (false, ns) r = r
  behind_word at (true, ns) r = behind_one at.start ns r

  -- its assertions, and its body
  statement_up : (d : Statement-F Body Element Statement) → Rising (statement_starts (roll-Statement d)) → Rising (joined (map assertion_starts d.asserts)) × Rising (body_starts d.body).1
  statement_up d r =
      let label = label_if_some d.label in
      let asserts = joined (map assertion_starts d.asserts) in
      let rest = with_word d.at (body_starts d.body) in
      let s = second_part label (asserts ++ rest) (subst Rising (fold-roll-Statement Parts Starts Starts order.body_step order.element_step order.statement_step d) r) in
      (first_part asserts rest s, behind_word d.at (body_starts d.body) (second_part asserts rest s))

  statement_kept_by : (d : Statement-F Body Element Statement) → StatementKept (statement_step (map-Statement Body Element Statement BodyForm ArmForm StatementForm body_form arm_form statement_form d)) → StatementKept (statement_form (roll-Statement d))
  unfolding statement_form body_form arm_form
  statement_kept_by d h = subst StatementKept (sym (fold-roll-Statement BodyForm ArmForm StatementForm body_step arm_step statement_step d)) h

  of_statement : (y : Statement-F (With OfBody) (With OfElement) (With OfStatement)) → OfStatement (roll-Statement (map-Statement (With OfBody) (With OfElement) (With OfStatement) Body Element Statement (λ e. e.0) (λ e. e.0) (λ e. e.0) y))
  of_statement y r =
      let ns = joined (map assertion_starts y.asserts) in
      let s = statement_up _ r in
      statement_kept_by _ (λ v b.
      next (in_order (assert_form v) y.asserts b) _ (Done b (ConditionsFit ns)) (Done b StatementRises) (asserts_made v y.asserts b) (λ asserts m.
      next (body_form y.body.0 y.at v asserts.1) _ (Done asserts.1 BodyRises) (Done b StatementRises) (y.body.1 s.1 y.at v asserts.1) (λ x n. (
        (λ g. statement_of_rises y.at.start (option_map label_value y.label) asserts.0 x.0 (part_rises ns (conditions_part all asserts.0) s.0 (m.0 (back asserts.1 x.1 n.1 g))) (n.0 g)),
        grows_more b asserts.1 x.1 m.1 n.1,
      ))))

  pub statement_kept : (s : Statement) → Rising (statement_starts s) → StatementKept (statement_form s)
  statement_kept =
      ind-Statement OfBody OfElement OfStatement
      (λ x y is. subst (λ z. OfBody (roll-Body z)) is (of_body y))
      (λ x y is. subst (λ z. OfElement (roll-Element z)) is (of_element y))
      (λ x y is. subst (λ z. OfStatement (roll-Statement z)) is (of_statement y))

  all_statements : (ss : List Statement) → Rising (joined (map statement_starts ss)) → AllByRecursion StatementKept (map statement_form ss)
  all_statements [] r = tt
  all_statements (s ∷ ss) r =
      let rest = joined (map statement_starts ss) in
      (statement_kept s (first_part (statement_starts s) rest r), all_statements ss (second_part (statement_starts s) rest r))

  -- a statement part
  pub sequence_kept : (v : Sight) (ss : List Statement) → Rising (joined (map statement_starts ss)) → Made MembersRise (sequence_form v ss)
  sequence_kept v ss r b = members_kept (map statement_form ss) (all_statements ss r) v b
