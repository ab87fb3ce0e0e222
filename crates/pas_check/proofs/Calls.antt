-- What procedure calls, assignments and the constants of a `case` are in the program, one step at a time.
use Rattle.std.proofs.Common.{◌≡◌, ℕ, ℤ, ◌+◌, ◌<◌, ◌≤◌, Bool, List, [], ◌∷◌, ◌++◌, length, get_or, drop, map, Option, Some, None, Result, Ok, Err, refl, sym, ap, subst, ◌∙◌, add-one, append_assoc}
use Rattle.std.proofs.Math.Seq.{drop-cons}
use Rattle.std.specs.Prelude.{IfOk}
use Rattle.std.specs.Option.{option_map}
use Rattle.std.proofs.lemmas.List.{append-nil, drop_all}
use Rattle.px_base.specs.declared.place.Span.{Span}
use Rattle.pas_program.specs.declared.expr.Access as program_access
use Rattle.pas_program.specs.declared.expr.Actual as program_actual
use Rattle.pas_program.specs.declared.expr.Expr as program_expr
use Rattle.pas_program.specs.declared.statement.Body.{Body}
use Rattle.pas_program.specs.declared.statement.Body.TheVariants as body
use Rattle.pas_program.specs.declared.statement.WriteItem.{WriteItem}
use Rattle.pas_program.specs.declared.statement.WriteValue.{WriteValue}
use Rattle.pas_program.specs.declared.statement.WriteValue.TheVariants as item
use Rattle.pas_tree.specs.declared.constant.Constant.{Constant}
use Rattle.pas_tree.specs.declared.expr.Access.{Access}
use Rattle.pas_tree.specs.declared.expr.Actual.{Actual}
use Rattle.pas_tree.specs.declared.expr.ActualValue.{ActualValue}
use Rattle.pas_tree.specs.declared.expr.ActualValue.TheOpen.{ActualValue-F}
use Rattle.pas_tree.specs.declared.expr.ActualValue.TheFolds.{fold_out-Actual, fold-roll-ActualValue, map-Actual}
use Rattle.pas_tree.specs.declared.expr.ActualValue.TheVariants as actual_value
use Rattle.pas_tree.specs.declared.expr.ActualValue.TheViews.{out-Access, out-Actual}
use Rattle.pas_tree.specs.declared.expr.Expr.{Expr}
use Rattle.pas_check.specs.declared.access.Reached.{Reached}
use Rattle.pas_check.specs.declared.built.Built.{Built}
use Rattle.pas_check.specs.declared.expr.Typed.{Typed}
use Rattle.pas_check.specs.declared.meaning.Meaning.{Meaning}
use Rattle.pas_check.specs.declared.meaning.Value.{Value}
use Rattle.pas_check.specs.declared.meaning.Variable.{Variable}
use Rattle.pas_check.specs.Built.{Builds, ◌>>=◌, allowed, in_order}
use Rattle.pas_check.specs.Constant.{constant}
use Rattle.pas_check.specs.Expr.{Call, callee_at, formals_at, meant}
use Rattle.pas_check.specs.Forms.{Form, GivenForm, access_form, access_step, actual_step, actual_value_form, all_passed_form, expr_form, expr_step, expression_form, given_form, operand_form, reached_form, scalar_form, value_step}
use Rattle.pas_check.specs.Names.{spelling}
use Rattle.pas_check.specs.Outcome.{Outcome, each}
use Rattle.pas_check.specs.Sight.{Sight}
use Rattle.pas_check.specs.Statement.{target_by}
use Rattle.pas_check.specs.StatementForms.{assigned_form, assignment_form, call_form, called_form, constants_form, constant_value, item_form, procedure_form, read_form, reads_form, target_form, unquoted, value_assigned_form, width_form, writes_form, written_form}
use Rattle.pas_check.proofs.Forms.{given_form_value, value_form_of_expression}
use Rattle.pas_check.proofs.Turns.{each_goes, each_map}

-- ---- actuals, one level at a time

module _ (v : Sight) where
  width_step : (value : ActualValue) (width : Option Expr)
      → (actual_step (map-Actual ActualValue Expr Access Actual (Result Form Span) Form (Builds Reached) GivenForm (actual_value_form v) (expr_form v) (access_form v) (given_form v) (record { value = value; width = width }))).width
      ≡ option_map (expr_form v) width
  width_step value None = refl
  width_step value (Some e) = refl

  pub given_form_width : (a : Actual) → (given_form v a).width ≡ option_map (expr_form v) (out-Actual a).width
  unfolding expr_form access_form given_form actual_value_form
  given_form_width a =
      ap (λ (g : GivenForm). g.width) (fold_out-Actual (Result Form Span) Form (Builds Reached) GivenForm value_step (expr_step v) (access_step v) actual_step a)
      ∙ width_step (out-Actual a).value (out-Actual a).width

  pub form_of_text : (span : Span) → actual_value_form v (actual_value.«Text» span) ≡ Err span
  unfolding expr_form access_form given_form actual_value_form
  form_of_text span =
      ap (actual_value_form v) (sym (actual_value.rolls-Text span))
      ∙ fold-roll-ActualValue (Result Form Span) Form (Builds Reached) GivenForm value_step (expr_step v) (access_step v) actual_step (ActualValue-F.«Text» span)

-- ---- procedure calls

-- the test of the part at hand passes
pub each_shown_goes : {A B : Type 0} (test : A → Outcome (Unit {0})) (shown : B → A) (start : Outcome (Unit {0})) (xs : List B) (k : ℕ) (x : B) → start ≡ each test (map shown (drop k xs))
    → k < length xs → x ≡ get_or xs k x → test (shown x) ≡ Ok tt → start ≡ each test (map shown (drop (k + 1) xs))
each_shown_goes test shown start xs k x so h e is =
    each_goes (λ y. test (shown y)) start xs k x (so ∙ each_map test shown (drop k xs)) h e is ∙ sym (each_map test shown (drop (k + 1) xs))

-- the first of two parts is there
pub part_is : {A B : Type 0} (o : Option A) (f : A → Option B) (a : A) (r : Option B) → o ≡ Some a → f a ≡ r → (o >>= f) ≡ r
part_is o f a r is rest = ap (λ p. p >>= f) is ∙ rest

pub read_is : (a : GivenForm) (e : Form) (b : Built) (r : Reached) (read threatened : Built) → expression_form a.value ≡ Some e → e.variable b ≡ Some (r, read) → threatened ≡ read → read_form a b ≡ Some (r.access, threatened)
unfolding read_form
read_is a e b r read threatened is variable kept =
    part_is (expression_form a.value) (λ x. x.variable b >>= (λ y. Some (y.0.access, y.1))) e _ is
    (part_is (e.variable b) (λ y. Some (y.0.access, y.1)) (r, read) _ variable (ap (λ z. Some (r.access, z)) (sym kept)))

pub reads_are : (line : Bool) (actuals : List GivenForm) (b c : Built) (to : List program_access.Access) → in_order read_form actuals b ≡ Some (to, c) → reads_form line actuals b ≡ Some (body.Read to line, c)
reads_are line actuals b c to is = part_is (in_order read_form actuals b) (λ y. Some (body.Read y.0 line, y.1)) (to, c) _ is refl

pub writes_are : (v : Sight) (line : Bool) (actuals : List GivenForm) (b c : Built) (items : List WriteItem) → in_order (item_form v) actuals b ≡ Some (items, c) → writes_form v line actuals b ≡ Some (body.Write items line, c)
writes_are v line actuals b c items is = part_is (in_order (item_form v) actuals b) (λ y. Some (body.Write y.0 line, y.1)) (items, c) _ is refl

pub operand_is : (e : Form) (b c : Built) (x : program_expr.Expr) (boolean : Bool) → scalar_form e b ≡ Some ((x, boolean), c) → operand_form e b ≡ Some (x, c)
unfolding operand_form
operand_is e b c x boolean is = part_is (scalar_form e b) (λ y. Some (y.0.0, y.1)) ((x, boolean), c) (Some (x, c)) is refl

pub value_form_is : (v : Sight) (value : ActualValue) (e : Expr) (b c : Built) (x : program_expr.Expr) → value ≡ actual_value.Value e → operand_form (expr_form v e) b ≡ Some (x, c)
    → written_form v (actual_value_form v value) b ≡ Some (item.Value x, c)
unfolding written_form
value_form_is v value e b c x is operand =
    ap (λ y. written_form v y b) (ap (actual_value_form v) is ∙ value_form_of_expression v e)
    ∙ part_is (operand_form (expr_form v e) b) (λ y. Some (item.Value y.0, y.1)) (x, c) (Some (item.Value x, c)) operand refl

pub text_form_is : (v : Sight) (value : ActualValue) (span : Span) (b : Built) (bytes : List ℕ) → value ≡ actual_value.«Text» span → bytes ≡ unquoted (spelling v.text span)
    → written_form v (actual_value_form v value) b ≡ Some (item.«Text» bytes span.start, b)
unfolding written_form
text_form_is v value span b bytes is same =
    ap (λ y. written_form v y b) (ap (actual_value_form v) is ∙ form_of_text v span) ∙ ap (λ y. Some (item.«Text» y span.start, b)) (sym same)

pub item_is : (v : Sight) (a : Actual) (b valued done : Built) (x : WriteValue) (w : Option program_expr.Expr) → written_form v (actual_value_form v (out-Actual a).value) b ≡ Some (x, valued)
    → width_form (option_map (expr_form v) (out-Actual a).width) valued ≡ Some (w, done) → item_form v (given_form v a) b ≡ Some (record { value = x; width = w }, done)
unfolding item_form
item_is v a b valued done x w value width =
    part_is (written_form v (given_form v a).value b) (λ y. width_form (given_form v a).width y.1 >>= (λ z. Some (record { value = y.0; width = z.0 }, z.1))) (x, valued) _
    (ap (λ y. written_form v y b) (given_form_value v a) ∙ value)
    (part_is (width_form (given_form v a).width valued) (λ z. Some (record { value = x; width = z.0 }, z.1)) (w, done) _ (ap (λ y. width_form y valued) (given_form_width v a) ∙ width) refl)

pub procedure_is : (v : Sight) (head at : ℕ) (actuals : List GivenForm) (b c : Built) (callee : Call) (xs : List program_actual.Actual) → callee_at v head ≡ Some callee
    → all_passed_form (formals_at v head) actuals b ≡ Some (xs, c) → procedure_form v head at actuals b ≡ Some (body.Call callee.routine xs at, c)
unfolding procedure_form
procedure_is v head at actuals b c callee xs is passed =
    part_is (callee_at v head) (λ y. all_passed_form (formals_at v head) actuals b >>= (λ ys. Some (body.Call y.routine ys.0 at, ys.1))) callee _ is
    (part_is (all_passed_form (formals_at v head) actuals b) (λ ys. Some (body.Call callee.routine ys.0 at, ys.1)) (xs, c) _ passed refl)

call_by : (v : Sight) (name : Span) (actuals : List GivenForm) (b named : Built) (m : Meaning) → meant v name ≡ Ok m → named ≡ b → call_form v name actuals b ≡ called_form v m name.start actuals named
unfolding call_form
call_by v name actuals b named m is kept =
    part_is (allowed (meant v name)) (λ y. called_form v y name.start actuals b) m (called_form v m name.start actuals named) (ap allowed is) (ap (called_form v m name.start actuals) (sym kept))

pub call_is : (v : Sight) (name : Span) (actuals : List GivenForm) (b named done : Built) (m : Meaning) (r : Outcome Body) → meant v name ≡ Ok m → named ≡ b → IfOk r (λ x. called_form v m name.start actuals named ≡ Some (x, done))
    → IfOk r (λ x. call_form v name actuals b ≡ Some (x, done))
call_is v name actuals b named done m r is kept called = subst (λ (o : Option (Body × Built)). IfOk r (λ x. o ≡ Some (x, done))) (sym (call_by v name actuals b named m is kept)) called

-- ---- assignment

pub assigned_is : (to : program_access.Access) (value : Form) (b c : Built) (t : Typed) → value.value b ≡ Some (t, c) → value_assigned_form to value b ≡ Some (assigned_form to t, c)
unfolding value_assigned_form
assigned_is to value b c t is = ap (λ (o : Option (Typed × Built)). o >>= (λ y. Some (assigned_form to y.0, y.1))) is

module _ (v : Sight) (a : Access) (value : Expr) (subscripts : List Expr) (m : Meaning) (t : Variable × Option ℕ) (r : Reached) where
  pub assignment_is : (b named led threatened done : Built) (x : Body) → subscripts ≡ (out-Access a).subscripts → meant v (out-Access a).name ≡ Ok m → target_by v m (out-Access a).name.start ≡ Ok t
      → named ≡ b → reached_form v t.0 (out-Access a).name.start (map (expr_form v) subscripts) named ≡ Some (r, led) → threatened ≡ led
      → value_assigned_form r.access (expr_form v value) threatened ≡ Some (x, done) → assignment_form v a value b ≡ Some (x, done)
  unfolding assignment_form target_form
  assignment_is b named led threatened done x same meaning target kept reached free assigned =
      let name = (out-Access a).name in
      ap (λ xs. target_form v name (map (expr_form v) xs) (expr_form v value) b) (sym same)
      ∙ part_is (allowed (meant v name)) (λ y. allowed (target_by v y name.start) >>= (λ z. reached_form v z.0 name.start (map (expr_form v) subscripts) b >>= (λ p. value_assigned_form p.0.access (expr_form v value) p.1))) m _ (ap allowed meaning)
      (part_is (allowed (target_by v m name.start)) (λ z. reached_form v z.0 name.start (map (expr_form v) subscripts) b >>= (λ p. value_assigned_form p.0.access (expr_form v value) p.1)) t _ (ap allowed target)
      (part_is (reached_form v t.0 name.start (map (expr_form v) subscripts) b) (λ p. value_assigned_form p.0.access (expr_form v value) p.1) (r, led) _
      (ap (reached_form v t.0 name.start (map (expr_form v) subscripts)) (sym kept) ∙ reached)
      (ap (value_assigned_form r.access (expr_form v value)) (sym free) ∙ assigned)))

-- ---- the constants of an arm

-- the constants before, and then the others
abbrev pub constants_after : List ℤ → Option (List ℤ) → Option (List ℤ)
constants_after before None = None
constants_after before (Some zs) = Some (before ++ zs)

after_nothing : (o : Option (List ℤ)) → o ≡ constants_after [] o
after_nothing None = refl
after_nothing (Some zs) = refl

pub constants_begin : (v : Sight) (before : List ℤ) (constants : List Constant) → before ≡ [] → constants_form v constants ≡ constants_after before (constants_form v (drop 0 constants))
constants_begin v before constants none = after_nothing (constants_form v constants) ∙ ap (λ zs. constants_after zs (constants_form v constants)) (sym none)

one_more : (before : List ℤ) (z : ℤ) (o : Option (List ℤ)) → constants_after before (o >>= (λ zs. Some (z ∷ zs))) ≡ constants_after (before ++ z ∷ []) o
one_more before z None = refl
one_more before z (Some zs) = ap Some (sym (append_assoc before (z ∷ []) zs))

module _ (v : Sight) (start : Option (List ℤ)) (before : List ℤ) (constants : List Constant) (k : ℕ) (so : start ≡ constants_after before (constants_form v (drop k constants))) where
  pub constants_go : (other : Constant) (z : ℤ) (more : List ℤ) → k < length constants → constant_value v (get_or constants k other) ≡ Some z → more ≡ before ++ z ∷ [] → start ≡ constants_after more (constants_form v (drop (k + 1) constants))
  constants_go other z more h is pushed =
      let next : drop k constants ≡ get_or constants k other ∷ drop (k + 1) constants = rw add-one (drop-cons constants k other h) in
      so ∙ ap (λ cs. constants_after before (constants_form v cs)) next
      ∙ ap (λ (o : Option ℤ). constants_after before (o >>= (λ y. constants_form v (drop (k + 1) constants) >>= (λ zs. Some (y ∷ zs))))) is
      ∙ one_more before z (constants_form v (drop (k + 1) constants)) ∙ ap (λ zs. constants_after zs (constants_form v (drop (k + 1) constants))) (sym pushed)

  pub constants_end : length constants ≤ k → start ≡ Some before
  constants_end h = so ∙ ap (λ cs. constants_after before (constants_form v cs)) (drop_all k constants h) ∙ ap Some (append-nil before)

pub constant_is : (v : Sight) (c : Constant) (x : Value) → constant v c ≡ Ok x → constant_value v c ≡ Some x.value
unfolding constant_value
constant_is v c x is = part_is (allowed (constant v c)) (λ y. Some y.value) x (Some x.value) (ap allowed is) refl
