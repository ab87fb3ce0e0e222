-- What each check judges: the checks of `Checking` and `Foreseen` once more, each with the part of the action or of the assertion that it
-- is of, in the order of evaluation.
use Rattle.std.specs.Prelude.{◌≡◌, ℕ, zero, suc, ◌-◌, ◌≤◌, Bool, false, nat_lt, count_by, List, [], ◌∷◌, ◌++◌, map, ℤ, Option, Some, None, slice_get, if◌then◌else◌}
use Rattle.std.specs.Option.{option_and_then, unwrap_or}
use Rattle.px_base.specs.declared.kind.Kind.{Kind}
use Rattle.px_base.specs.declared.kind.Kind.TheVariants.{Overflow, DivisionByZero, ModulusNotPositive, UndefinedValue, IndexOutOfRange, ValueOutOfRange, NoCaseLabel, NoNeighbour, NoNumber, WidthOutOfRange, Assertion, NoResult}
use Rattle.px_base.specs.declared.operator.BinOp.{BinOp}
use Rattle.px_base.specs.declared.operator.BinOp.TheVariants as binary
use Rattle.px_base.specs.declared.operator.UnOp.{UnOp}
use Rattle.px_base.specs.declared.operator.UnOp.TheVariants as unary
use Rattle.pas_program.specs.declared.expr.Access.{Access}
use Rattle.pas_program.specs.declared.expr.Actual.{Actual}
use Rattle.pas_program.specs.declared.expr.Actual.TheOpen.{Access-F, Actual-F, ExprForm-F, Expr-F}
use Rattle.pas_program.specs.declared.expr.Actual.TheFolds.{para-Access, para-Expr, para-ExprForm}
use Rattle.pas_program.specs.declared.expr.Actual.TheViews.{out-Access, out-Actual, out-Expr}
use Rattle.pas_program.specs.declared.expr.Expr.{Expr}
use Rattle.pas_program.specs.declared.expr.ExprForm.{ExprForm}
use Rattle.pas_program.specs.declared.routine.Assert.{Assert}
use Rattle.pas_program.specs.declared.statement.WriteItem.{WriteItem}
use Rattle.pas_program.specs.declared.statement.WriteValue.{WriteValue}
use Rattle.pas_program.specs.declared.statement.WriteValue.TheVariants as written
use Rattle.pas_program.specs.Tables.{Tables, Head}
use Rattle.control_points.specs.declared.check.Check.{Check}
use Rattle.control_points.specs.declared.edge.Act.{Act}
use Rattle.control_points.specs.declared.edge.Act.TheVariants as act
use Rattle.control_points.specs.declared.edge.Edge.{Edge}
use Rattle.control_points.specs.declared.fault.Fault.{Fault}
use Rattle.control_points.specs.declared.point.Point.{Point}
use Rattle.control_points.specs.declared.point.PointKind.{PointKind}
use Rattle.control_points.specs.declared.point.PointKind.TheVariants as kind
use Rattle.control_points.specs.Actions.{slot_at}
use Rattle.control_points.specs.Chart.{Chart, leaving, place_of_point}
use Rattle.control_points.specs.Checking.{Faults, is_narrow, formals_of}
use Rattle.control_points.specs.Evaluation.{index_type, element_type, var_type, access_type}
use Rattle.control_points.specs.Fits.{act_at, callee_of}
use Rattle.control_points.specs.Judging.{check_of, checks_at}
use Rattle.control_points.specs.Leading.{is_return}
use Rattle.control_points.specs.Runs.{standing_at}

-- the values of a `for` over a variable of the type n
pub record Range : Type 0 where
  pub of_type : ℕ
  pub first : Expr
  pub down : Bool
  pub last : Expr

-- The part that a check judges.
pub data Subject : Type 0 where
  -- an operator with its operands
  binary_operator : BinOp → Expr → Expr → Subject
  unary_operator : UnOp → Expr → Subject
  -- a variable whose value is used, which must be defined
  used_variable : Access → Subject
  -- a subscript, an assigned value or a value actual, which must be a value of the type
  typed_value : ℕ → Expr → Subject
  -- a bound of a `for` that has a turn, which must be a value of the control variable's type
  first_bound : Range → Subject
  last_bound : Range → Subject
  -- the selector of a `case`, which must be a constant of an arm
  case_selector : Expr → Subject
  -- that the input has a number for the variable, and that this is a value of the variable's type
  read_number : Access → Subject
  read_value : ℕ → Access → Subject
  -- a width of `write`
  write_width : Expr → Subject
  -- the variable for a function's result, which must be defined at the exit
  function_result : ℕ → Subject
  -- the condition of an assertion that must always hold
  asserted_condition : Expr → Subject

-- the error that a check is of, with its place in the source, and what it judges
pub record Judgement : Type 0 where
  pub kind : Kind
  pub at : ℕ
  pub subject : Subject

abbrev pub Judgements : Type 0
Judgements = List Judgement

abbrev pub fault_of : Judgement → Fault
fault_of j = record { kind = j.kind; at = j.at }

abbrev pub faults_of : Judgements → Faults
faults_of js = map fault_of js

abbrev pub one : Kind → ℕ → Subject → Judgements
one kind at subject = record { kind = kind; at = at; subject = subject } ∷ []

abbrev pub one_if : Bool → Kind → ℕ → Subject → Judgements
one_if holds kind at subject = if holds then one kind at subject else []

-- ---- operators

abbrev pub unary_judgements : UnOp → Expr → ℕ → Judgements
unary_judgements unary.Sqr operand at = one Overflow at (unary_operator unary.Sqr operand)
unary_judgements unary.SuccInt operand at = one NoNeighbour at (unary_operator unary.SuccInt operand)
unary_judgements unary.PredInt operand at = one NoNeighbour at (unary_operator unary.PredInt operand)
unary_judgements unary.SuccBool operand at = one NoNeighbour at (unary_operator unary.SuccBool operand)
unary_judgements unary.PredBool operand at = one NoNeighbour at (unary_operator unary.PredBool operand)
unary_judgements _ operand at = []

abbrev pub binary_judgements : BinOp → Expr → Expr → ℕ → Judgements
binary_judgements binary.Add left right at = one Overflow at (binary_operator binary.Add left right)
binary_judgements binary.Sub left right at = one Overflow at (binary_operator binary.Sub left right)
binary_judgements binary.Mul left right at = one Overflow at (binary_operator binary.Mul left right)
binary_judgements binary.Div left right at = one DivisionByZero at (binary_operator binary.Div left right)
binary_judgements binary.Mod left right at = one ModulusNotPositive at (binary_operator binary.Mod left right)
binary_judgements _ left right at = []

-- ---- expressions: one level, with the judgements of its parts

-- that an expression is a value of the type n, where it may be none
abbrev pub in_type : Tables → ℕ → Kind → Expr → Judgements
in_type t n kind e = one_if (is_narrow (t.type_at n)) kind (out-Expr e).first (typed_value n e)

-- the subscripts of a variable of type n, each after its own evaluation
abbrev pub subscripts_judgements : Tables → ℕ → List (Expr × Judgements) → Judgements
subscripts_judgements t n [] = []
subscripts_judgements t n (s ∷ rest) =
    (s.1 ++ in_type t (index_type (t.type_at n)) IndexOutOfRange s.0) ++ subscripts_judgements t (element_type (t.type_at n)) rest

abbrev pub access_step : Tables → Access-F (Actual × Unit {0}) (ExprForm × Judgements) (Access × Judgements) (Expr × Judgements) → Judgements
access_step t a = subscripts_judgements t (var_type t a.var) a.subscripts

abbrev pub form_step : ExprForm-F (Actual × Unit {0}) (ExprForm × Judgements) (Access × Judgements) (Expr × Judgements) → Judgements
form_step (ExprForm-F.Const boolean value) = []
form_step (ExprForm-F.«ExprForm::Value» a) = a.1 ++ one UndefinedValue (out-Access a.0).at (used_variable a.0)
form_step (ExprForm-F.Unary op operand at) = operand.1 ++ unary_judgements op operand.0 at
form_step (ExprForm-F.Binary op left right at) = left.1 ++ (right.1 ++ binary_judgements op left.0 right.0 at)
form_step (ExprForm-F.Call routine actuals slot at) = []

abbrev pub expr_step : Expr-F (Actual × Unit {0}) (ExprForm × Judgements) (Access × Judgements) (Expr × Judgements) → Judgements
expr_step e = e.form.1

abbrev pub expr_judgements : Tables → Expr → Judgements
expr_judgements t = para-Expr (Unit {0}) Judgements Judgements Judgements (λ a. tt) form_step (access_step t) expr_step

abbrev pub form_judgements : Tables → ExprForm → Judgements
form_judgements t = para-ExprForm (Unit {0}) Judgements Judgements Judgements (λ a. tt) form_step (access_step t) expr_step

-- a variable that is assigned to, copied or passed
abbrev pub access_judgements : Tables → Access → Judgements
access_judgements t = para-Access (Unit {0}) Judgements Judgements Judgements (λ a. tt) form_step (access_step t) expr_step

-- a value that goes to a variable of type n
abbrev pub assigned_judgements : Tables → ℕ → Expr → Judgements
assigned_judgements t n e = expr_judgements t e ++ in_type t n ValueOutOfRange e

-- ---- actions

-- an actual, for the formal v
abbrev pub actual_judgements : Tables → ℕ → Actual-F Actual ExprForm Access Expr → Judgements
actual_judgements t v (Actual-F.«Actual::Value» e) = assigned_judgements t (var_type t v) e
actual_judgements t v (Actual-F.Whole a) = access_judgements t a
actual_judgements t v (Actual-F.Var a) = access_judgements t a

abbrev pub passing_judgements : Tables → List Actual → List ℕ → Judgements
passing_judgements t [] formals = []
passing_judgements t (a ∷ actuals) [] = []
passing_judgements t (a ∷ actuals) (v ∷ formals) = actual_judgements t v (out-Actual a) ++ passing_judgements t actuals formals

abbrev pub read_judgements : Tables → ℕ → Access → Judgements
read_judgements t n a =
    access_judgements t a
    ++ (one NoNumber (out-Access a).at (read_number a) ++ one_if (is_narrow (t.type_at n)) ValueOutOfRange (out-Access a).at (read_value n a))

abbrev pub written_judgements : Tables → WriteValue → Judgements
written_judgements t (written.Value e) = expr_judgements t e
written_judgements t (written.Text bytes at) = []

abbrev pub width_judgements : Tables → Option Expr → Judgements
width_judgements t None = []
width_judgements t (Some e) = expr_judgements t e ++ one WidthOutOfRange (out-Expr e).first (write_width e)

abbrev pub item_judgements : Tables → WriteItem → Judgements
item_judgements t item = written_judgements t item.value ++ width_judgements t item.width

abbrev pub selector_judgements : Tables → Expr → Judgements
selector_judgements t e = expr_judgements t e ++ one NoCaseLabel (out-Expr e).first (case_selector e)

-- both bounds of a `for` over a variable of type n, after the evaluation of both
abbrev pub bounds_judgements : Tables → ℕ → Expr → Bool → Expr → Judgements
bounds_judgements t n first down last =
    let range : Range = record { of_type = n; first = first; down = down; last = last } in
    let narrow = is_narrow (t.type_at n) in
    expr_judgements t first ++ (expr_judgements t last
    ++ (one_if narrow ValueOutOfRange (out-Expr first).first (first_bound range) ++ one_if narrow ValueOutOfRange (out-Expr last).first (last_bound range)))

-- a function's result at its exit
abbrev pub result_judgements : Option ℕ → ℕ → Judgements
result_judgements None at = []
result_judgements (Some v) at = one NoResult at (function_result v)

-- the variable for the result of a routine
abbrev pub result_of : Tables → ℕ → Option ℕ
result_of t routine = option_and_then (λ (h : Head). h.result) (t.head_at routine)

-- the routine that the call of an edge calls
abbrev pub callee_at : List Edge → ℕ → Option ℕ
callee_at edges k = option_and_then callee_of (act_at edges k)

module _ (c : Chart) (at : ℕ) where
  -- the result of the call of the edge k, where it has a slot
  abbrev pub returned_judgements : ℕ → Option ℕ → Judgements
  returned_judgements k None = []
  returned_judgements k (Some slot) = one NoResult at (function_result (unwrap_or (option_and_then (result_of c.tables) (callee_at c.edges k)) 0))

  -- an action; `at` is the place of the point that it leaves
  abbrev pub act_judgements : Act → Judgements
  act_judgements (act.Assign target e) = access_judgements c.tables target ++ assigned_judgements c.tables (access_type c.tables target) e
  act_judgements (act.Copy target source) = access_judgements c.tables target ++ access_judgements c.tables source
  act_judgements (act.Call routine actuals slot name) = passing_judgements c.tables actuals (formals_of (c.tables.head_at routine))
  act_judgements (act.Return k) = returned_judgements k (slot_at c.edges k)
  act_judgements (act.Test e wanted) = expr_judgements c.tables e
  act_judgements (act.Arm selector constants) = selector_judgements c.tables selector
  act_judgements (act.Enter control bound first down last) = bounds_judgements c.tables (var_type c.tables control) first down last
  act_judgements (act.Bypass control bound first down last) = bounds_judgements c.tables (var_type c.tables control) first down last
  act_judgements (act.Read target) = read_judgements c.tables (access_type c.tables target) target
  act_judgements (act.Write item) = item_judgements c.tables item
  act_judgements _ = []

-- ---- points

-- an assertion that must always hold
abbrev pub assert_judgement : Option Assert → Judgements
assert_judgement None = []
assert_judgement (Some a) = if a.sometime then [] else one Assertion (out-Expr a.cond).first (asserted_condition a.cond)

abbrev pub assert_judgements : List Assert → List ℕ → Judgements
assert_judgements asserts [] = []
assert_judgements asserts (a ∷ listed) = assert_judgement (slice_get asserts a) ++ assert_judgements asserts listed

-- those of the first edge
abbrev pub edge_judgements : Chart → Option Edge → Judgements
edge_judgements c None = []
edge_judgements c (Some e) = act_judgements c (place_of_point c.points e.from) e.act

abbrev pub first_judgements : Chart → List ℕ → Judgements
first_judgements c [] = []
first_judgements c (k ∷ ks) = edge_judgements c (slice_get c.edges k)

-- Those of the action that leaves the point p, which is q: all edges that leave it judge the same. What leaves an exit are the returns of
-- the calls of its routine, of which there may be none.
abbrev pub leaving_judgements : Chart → ℕ → Point → PointKind → Judgements
leaving_judgements c p q kind.Exit = result_judgements (result_of c.tables q.routine) q.at
leaving_judgements c p q _ = first_judgements c (leaving c.edges p)

abbrev pub judgements_at : Chart → ℕ → Option Point → Judgements
judgements_at c p None = []
judgements_at c p (Some q) = leaving_judgements c p q q.kind

abbrev pub own_judgements : Chart → ℕ → Judgements
own_judgements c p = judgements_at c p (slice_get c.points p)

-- all of a point: its assertions that must always hold, and then the action that leaves it
abbrev pub point_judgements : Chart → ℕ → Judgements
point_judgements c p = assert_judgements c.asserts (standing_at c p) ++ own_judgements c p

-- the constants of the arms that leave a point, of which the selector of a `case` must be one
abbrev pub constants_of : Option Act → List ℤ
constants_of (Some (act.Arm selector constants)) = constants
constants_of _ = []

abbrev pub all_constants : List Edge → List ℕ → List ℤ
all_constants edges [] = []
all_constants edges (k ∷ ks) = constants_of (act_at edges k) ++ all_constants edges ks

abbrev pub constants_at : List Edge → ℕ → List ℤ
constants_at edges p = all_constants edges (leaving edges p)

-- ---- checks

-- the checks of n points from p on
abbrev pub checks_from : Chart → ℕ → ℕ → List Check
checks_from c p zero = []
checks_from c p (suc n) = checks_at p (faults_of (point_judgements c p)) ++ checks_from c (suc p) n

-- the number of the first check of a point: that of the checks of lower points
abbrev pub first_check : List Check → ℕ → ℕ
first_check checks p = count_by (λ (d : Check). nat_lt d.point p) checks

-- what the check k judges: its rank among the checks of its point is that of its judgement
abbrev pub judgement_by : Chart → List Check → ℕ → Option Check → Option Judgement
judgement_by c checks k None = None
judgement_by c checks k (Some d) = slice_get (point_judgements c d.point) (k - first_check checks d.point)

abbrev pub judgement_of : Chart → List Check → ℕ → Option Judgement
judgement_of c checks k = judgement_by c checks k (slice_get checks k)

-- the check k is that of a judgement
pub record IsJudged (c : Chart) (checks : List Check) (k : ℕ) (d : Check) : Type 0 where
  pub judgement : Judgement
  pub known : judgement_of c checks k ≡ Some judgement
  pub same : check_of d.point (fault_of judgement) ≡ d
  pub behind : first_check checks d.point ≤ k

-- edges that leave one point judge the same
pub record EdgesJudgeAlike (c : Chart) : Type 0 where
  pub alike : (j k : ℕ) (d e : Edge) → slice_get c.edges j ≡ Some d → slice_get c.edges k ≡ Some e → d.from ≡ e.from → is_return d.act ≡ false → is_return e.act ≡ false → act_judgements c 0 d.act ≡ act_judgements c 0 e.act
