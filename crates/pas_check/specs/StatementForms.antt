-- What statements are in the program (ISO 7185, 6.8 and 6.9), where they break no rule: labels and assertions are numbers, and each
-- `for` has a hidden variable for its last value.
use Rattle.std.specs.Prelude.{ℕ, ℤ, Bool, true, false, ◌&&◌, List, [], ◌∷◌, ◌++◌, ◌-◌, length, map, nat_eq, take, Option, Some, None, Result, Ok, Err, if◌then◌else◌}
use Rattle.std.specs.Option.{option_map}
use Rattle.px_base.specs.declared.place.Span.{Span}
use Rattle.pas_program.specs.declared.expr.Access.{Access}
use Rattle.pas_program.specs.declared.expr.Expr.{Expr}
use Rattle.pas_program.specs.declared.statement.Arm.{Arm}
use Rattle.pas_program.specs.declared.statement.Body.{Body}
use Rattle.pas_program.specs.declared.statement.Body.TheVariants as body
use Rattle.pas_program.specs.declared.statement.Body.TheViews.{roll-Arm, roll-Statement}
use Rattle.pas_program.specs.declared.statement.Statement.{Statement}
use Rattle.pas_program.specs.declared.statement.WriteItem.{WriteItem}
use Rattle.pas_program.specs.declared.statement.WriteValue.{WriteValue}
use Rattle.pas_program.specs.declared.statement.WriteValue.TheVariants as item
use Rattle.pas_program.specs.declared.variable.VarKind.TheVariants as kind
use Rattle.pas_tree.specs.declared.block.Label.{Label}
use Rattle.pas_tree.specs.declared.constant.Constant.{Constant}
use Rattle.pas_tree.specs.declared.expr.Access as tree_access
use Rattle.pas_tree.specs.declared.expr.ActualValue.TheViews as tree_views
use Rattle.pas_tree.specs.declared.expr.Expr as tree_expr
use Rattle.pas_tree.specs.declared.statement.Assertion.{Assertion}
use Rattle.pas_tree.specs.declared.statement.Body as tree_body
use Rattle.pas_tree.specs.declared.statement.Body.TheOpen.{Body-F, Element-F, Statement-F}
use Rattle.pas_tree.specs.declared.statement.Body.TheFolds.{fold-Body, fold-Element, fold-Statement}
use Rattle.pas_tree.specs.declared.statement.Element.{Element}
use Rattle.pas_tree.specs.declared.statement.Statement as tree
use Rattle.pas_check.specs.declared.built.Built.{Built}
use Rattle.pas_check.specs.declared.control.ForHead.{ForHead}
use Rattle.pas_check.specs.declared.expr.Typed.{Typed}
use Rattle.pas_check.specs.declared.expr.Typed.TheVariants as typed
use Rattle.pas_check.specs.declared.meaning.Meaning.{Meaning}
use Rattle.pas_check.specs.declared.meaning.Meaning.TheVariants as means
use Rattle.pas_check.specs.declared.meaning.Transput.{Transput}
use Rattle.pas_check.specs.declared.meaning.Transput.TheVariants as transput
use Rattle.pas_check.specs.Built.{Builds, ◌>>=◌, allowed, in_order, with_own}
use Rattle.pas_check.specs.Constant.{constant}
use Rattle.pas_check.specs.Control.{controlled}
use Rattle.pas_check.specs.Expr.{callee_at, formals_at, meant}
use Rattle.pas_check.specs.Forms.{Form, GivenForm, all_passed_form, expr_form, expression_form, given_form, operand_form, reached_form}
use Rattle.pas_check.specs.Labels.{left_for}
use Rattle.pas_check.specs.Names.{spelling}
use Rattle.pas_check.specs.Sight.{Sight}
use Rattle.pas_check.specs.Statement.{target_by}
use Rattle.pas_check.specs.Statements.{over}

-- ---- labels and assertions

abbrev pub label_value : Label → ℕ
label_value l = l.value

-- an assertion gets the next number
abbrev pub assert_added : Assertion → Expr → Built → ℕ × Built
assert_added a cond b = (length b.asserts, record b { asserts = b.asserts ++ record { routine = b.frame.routine; sometime = a.sometime; cond = cond; at = a.span.start } ∷ [] })

unfoldable pub assert_form : Sight → Assertion → Builds ℕ
assert_form v a b = do
  x ← operand_form (expr_form (record v { asserting = true }) a.cond) b
  Some (assert_added a x.0 x.1)

-- ---- procedure calls

unfoldable pub procedure_form : Sight → ℕ → ℕ → List GivenForm → Builds Body
procedure_form v head at actuals b = do
  c ← callee_at v head
  xs ← all_passed_form (formals_at v head) actuals b
  Some (body.Call c.routine xs.0 at, xs.1)

-- a variable that is read
unfoldable pub read_form : GivenForm → Builds Access
read_form a b = do
  e ← expression_form a.value
  r ← e.variable b
  Some (r.0.access, r.1)

-- what stands between the quotes of a string, with one quote for each two
abbrev pub quote : ℕ
quote = 39

unfoldable pub undoubled : List ℕ → List ℕ
undoubled [] = []
undoubled (x ∷ []) = x ∷ []
undoubled (x ∷ (y ∷ rest)) = if nat_eq x quote && nat_eq y quote then x ∷ undoubled rest else x ∷ undoubled (y ∷ rest)

abbrev pub after_quote : List ℕ → List ℕ
after_quote [] = []
after_quote (x ∷ rest) = if nat_eq x quote then undoubled rest else x ∷ undoubled rest

abbrev pub unquoted : List ℕ → List ℕ
unquoted string = after_quote (take (length string - 1) string)

-- what is written: a value or a string
unfoldable pub written_form : Sight → Result Form Span → Builds WriteValue
written_form v (Ok e) b = do
  x ← operand_form e b
  Some (item.Value x.0, x.1)
written_form v (Err span) b = Some (item.«Text» (unquoted (spelling v.text span)) span.start, b)

abbrev pub width_form : Option Form → Builds (Option Expr)
width_form None b = Some (None, b)
width_form (Some e) b = do
  x ← operand_form e b
  Some (Some x.0, x.1)

unfoldable pub item_form : Sight → GivenForm → Builds WriteItem
item_form v a b = do
  x ← written_form v a.value b
  w ← width_form a.width x.1
  Some (record { value = x.0; width = w.0 }, w.1)

abbrev pub reads_form : Bool → List GivenForm → Builds Body
reads_form line actuals b = do
  to ← in_order read_form actuals b
  Some (body.Read to.0 line, to.1)

abbrev pub writes_form : Sight → Bool → List GivenForm → Builds Body
writes_form v line actuals b = do
  items ← in_order (item_form v) actuals b
  Some (body.Write items.0 line, items.1)

unfoldable pub transput_form : Sight → Transput → List GivenForm → Builds Body
transput_form v transput.Read actuals b = reads_form false actuals b
transput_form v transput.Readln actuals b = reads_form true actuals b
transput_form v transput.Write actuals b = writes_form v false actuals b
transput_form v transput.Writeln actuals b = writes_form v true actuals b

unfoldable pub called_form : Sight → Meaning → ℕ → List GivenForm → Builds Body
called_form v (means.Routine head false) at actuals b = procedure_form v head at actuals b
called_form v (means.Transput t) at actuals b = transput_form v t actuals b
called_form v _ at actuals b = None

unfoldable pub call_form : Sight → Span → List GivenForm → Builds Body
call_form v name actuals b = do
  m ← allowed (meant v name)
  called_form v m name.start actuals b

-- ---- assignment

-- of a scalar, or of a whole array
abbrev pub assigned_form : Access → Typed → Body
assigned_form to (typed.Scalar e boolean) = body.Assign to e
assigned_form to (typed.Array from t) = body.Copy to from

unfoldable pub value_assigned_form : Access → Form → Builds Body
value_assigned_form to value b = do
  t ← value.value b
  Some (assigned_form to t.0, t.1)

unfoldable pub target_form : Sight → Span → List Form → Form → Builds Body
target_form v name subscripts value b = do
  m ← allowed (meant v name)
  x ← allowed (target_by v m name.start)
  r ← reached_form v x.0 name.start subscripts b
  value_assigned_form r.0.access value r.1

unfoldable pub assignment_form : Sight → tree_access.Access → tree_expr.Expr → Builds Body
assignment_form v to value b =
    target_form v (tree_views.out-Access to).name (map (expr_form v) (tree_views.out-Access to).subscripts) (expr_form v value) b

-- ---- `goto`

-- to the label of the innermost block around that declares it
unfoldable pub goto_form : Sight → Label → ℕ → Option Body
goto_form v l at = do
  routine ← allowed (left_for v.labels l at true)
  Some (body.Goto routine l.value)

-- ---- `for`

-- a `for` whose word stands at a span, up to its statement; its last value is kept in a hidden variable
unfoldable pub for_head_form : Sight → Span → Form → Form → Span → Builds ForHead
for_head_form v control first last at b = do
  c ← allowed (controlled v control)
  x ← operand_form first (with_own at kind.Bound c.0.of_type b)
  y ← operand_form last x.1
  Some (record { variable = c.0; bound = length b.vars; first = x.0; last = y.0 }, y.1)

abbrev pub for_form : ForHead → Bool → (Sight → Builds Statement) → Sight → Builds Body
for_form h down inner v b = do
  x ← inner (over v h.variable.at) b
  Some (body.For h.variable.number h.bound h.first down h.last x.0, x.1)

-- ---- `case`

unfoldable pub constant_value : Sight → Constant → Option ℤ
constant_value v c = do
  x ← allowed (constant v c)
  Some x.value

abbrev pub constants_form : Sight → List Constant → Option (List ℤ)
constants_form v [] = Some []
constants_form v (c ∷ rest) = do
  x ← constant_value v c
  xs ← constants_form v rest
  Some (x ∷ xs)

-- ---- the whole

-- a statement, by what is seen where it stands; one form of statement has the span of its first token, too
abbrev pub StatementForm : Type 0
StatementForm = Sight → Builds Statement

abbrev pub BodyForm : Type 0
BodyForm = Span → Sight → Builds Body

abbrev pub ArmForm : Type 0
ArmForm = Sight → Builds Arm

abbrev pub members_form : List StatementForm → Sight → Builds (List Statement)
members_form members v b = in_order (λ (s : StatementForm). s v) members b

abbrev pub arms_form : List ArmForm → Sight → Builds (List Arm)
arms_form arms v b = in_order (λ (a : ArmForm). a v) arms b

abbrev pub branch_form : Option StatementForm → Sight → Builds (Option Statement)
branch_form None v b = Some (None, b)
branch_form (Some s) v b = do
  x ← s v b
  Some (Some x.0, x.1)

abbrev pub body_step : Body-F BodyForm ArmForm StatementForm → BodyForm
body_step Body-F.Empty at v b = Some (body.Empty, b)
body_step (Body-F.Call name actuals) at v b = call_form v name (map (given_form v) actuals) b
body_step (Body-F.Assign to value) at v b = assignment_form v to value b
body_step (Body-F.Goto label) at v b = do
  x ← goto_form v label at.start
  Some (x, b)
body_step (Body-F.Begin members) at v b = do
  xs ← members_form members v b
  Some (body.Begin xs.0 at.start, xs.1)
body_step (Body-F.If test first second) at v b = do
  x ← operand_form (expr_form v test) b
  y ← first v x.1
  z ← branch_form second v y.1
  Some (body.If x.0 y.0 z.0, z.1)
body_step (Body-F.Case selector arms) at v b = do
  x ← operand_form (expr_form v selector) b
  xs ← arms_form arms v x.1
  Some (body.Case x.0 xs.0, xs.1)
body_step (Body-F.While test inner) at v b = do
  x ← operand_form (expr_form v test) b
  y ← inner v x.1
  Some (body.While x.0 y.0, y.1)
body_step (Body-F.Repeat members until test) at v b = do
  xs ← members_form members v b
  x ← operand_form (expr_form v test) xs.1
  Some (body.Repeat xs.0 until.start x.0, x.1)
body_step (Body-F.For control first down last inner) at v b = do
  h ← for_head_form v control (expr_form v first) (expr_form v last) at b
  for_form h.0 down inner v h.1

abbrev pub arm_step : Element-F BodyForm ArmForm StatementForm → ArmForm
arm_step a v b = do
  consts ← constants_form v a.consts
  x ← a.body v b
  Some (roll-Arm (record { consts = consts; body = x.0 }), x.1)

abbrev pub statement_step : Statement-F BodyForm ArmForm StatementForm → StatementForm
statement_step s v b = do
  asserts ← in_order (assert_form v) s.asserts b
  x ← s.body s.at v asserts.1
  Some (roll-Statement (record { at = s.at.start; label = option_map label_value s.label; asserts = asserts.0; body = x.0 }), x.1)

unfoldable pub statement_form : tree.Statement → StatementForm
statement_form = fold-Statement BodyForm ArmForm StatementForm body_step arm_step statement_step

unfoldable pub body_form : tree_body.Body → BodyForm
body_form = fold-Body BodyForm ArmForm StatementForm body_step arm_step statement_step

unfoldable pub arm_form : Element → ArmForm
arm_form = fold-Element BodyForm ArmForm StatementForm body_step arm_step statement_step

-- the statements of a sequence
abbrev pub sequence_form : Sight → List tree.Statement → Builds (List Statement)
sequence_form v statements b = members_form (map statement_form statements) v b
